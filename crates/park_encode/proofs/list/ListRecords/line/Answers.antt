use Rattle.std.proofs.Common.{refl, arith}
use Rattle.park_format.specs.Park.{list_of}
use Rattle.park_encode.proofs.Entries.{line_inside, line_read}
use Rattle.park_encode.proofs.list.ListRecords.line.Goals as goal

pub slice_bounds-numbers-end : goal.slice_bounds-numbers-end
slice_bounds-numbers-end c =
    let list = c.args.self.now in
    omega (arith, line_inside list.numbers.now list.its list.counted c.requires c.line_start-at.ensures)

pub returns : goal.returns
unfolding list_of
returns c = let list = c.args.self.now in line_read list.numbers.now list.its list.counted c.requires c.line_start-at.ensures refl
