use Rattle.park_sums.proofs.Nets.{taken-le}
use Rattle.park_sums.proofs.row.with_transit.Goals as goal

pub with_each-requires : goal.with_each-requires
with_each-requires c = λ i h. (c.requires.near i h, rw c.takes.ensures (taken-le c.args.bounded.line c.args.bounded.small i))
