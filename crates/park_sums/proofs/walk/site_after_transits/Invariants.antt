use Rattle.std.specs.Prelude.{take}
use Rattle.park_format.specs.Park.{transits}
use Rattle.park_sums.specs.Inner.Rows.{IsLess}
use Rattle.park_sums.proofs.walk.site_after_transits.Given as goal

-- the transits of the site among the first i lines are taken
abbrev pub invariant-loop-i : goal.invariant-loop-i
invariant-loop-i g l =
    IsLess l.tangent l.sums l.fn.before (transits l.site (take l.i (g.P.Records.park l.park).lines))
