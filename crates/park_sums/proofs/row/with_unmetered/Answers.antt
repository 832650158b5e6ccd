use Rattle.park_sums.proofs.Laters.{later-le}
use Rattle.park_sums.proofs.row.with_unmetered.Goals as goal

pub with_each-requires : goal.with_each-requires
with_each-requires c = λ i h. (c.requires.near i h, rw c.takes_later.ensures (later-le c.args.tangent c.args.bounded.line c.args.bounded.small i))
