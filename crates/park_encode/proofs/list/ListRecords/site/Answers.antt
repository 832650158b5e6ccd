use Rattle.std.proofs.Common.{refl, arith}
use Rattle.park_encode.proofs.Entries.{site_inside, site_read}
use Rattle.park_encode.proofs.list.ListRecords.site.Goals as goal

pub slice_bounds-numbers-end : goal.slice_bounds-numbers-end
slice_bounds-numbers-end c =
    let list = c.args.self.now in
    omega (arith, site_inside list.numbers.now list.its list.counted c.requires c.site_start-at.ensures)

pub returns : goal.returns
returns c = let list = c.args.self.now in site_read list.numbers.now list.its list.counted c.requires c.site_start-at.ensures refl
