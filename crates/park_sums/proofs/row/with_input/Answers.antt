use Rattle.park_sums.proofs.Nets.{gain-le}
use Rattle.park_sums.proofs.row.with_input.Goals as goal

pub with_each-requires : goal.with_each-requires
with_each-requires c = λ i h. (c.requires.near i h, rw c.gains.ensures (gain-le c.args.bounded.line c.args.bounded.small i))
