use Rattle.std.proofs.Common.{◌+◌, ◌<◌, arith}
use Rattle.park_sums.specs.Inner.Rows.{places}
use Rattle.park_sums.proofs.AllSites.{tangent_more}
use Rattle.park_sums.proofs.Signed.{near_fits, read_whole}
use Rattle.park_sums.proofs.walk.tangents.Given.{Over}
use Rattle.park_sums.proofs.walk.tangents.Goals as goal
use Rattle.park_sums.proofs.walk.tangents.Goals.{After-more_at-more}

-- the site is a place of the array
inside : (g : Over) (c : After-more_at-more g) → c.loop-k.k + 1 < places
inside g c =
    let test = rw c.header-k-end.ensures at c.loop-k-test.true in
    omega (arith, test, (g.met.P.Records.recorded c.args.park.now).few)

pub loop-k-preserved : goal.loop-k-preserved
loop-k-preserved g c =
    let is = rw (read_whole _ (near_fits _ c.more_at-more.ensures.most), c.more_at-more.ensures.more) at c.tangent-its.ensures in
    tangent_more c.loop-k.k (inside g (goal.at-loop-k-preserved g c).After-more_at-more) c.loop-k.invariant is
