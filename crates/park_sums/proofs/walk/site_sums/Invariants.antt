use Rattle.std.specs.Prelude.{take}
use Rattle.park_sums.specs.Inner.Rows.{IsSiteSums}
use Rattle.park_sums.proofs.walk.site_sums.Given as goal

-- the sums of the site over the first i lines
abbrev pub invariant-loop-i : goal.invariant-loop-i
invariant-loop-i g l =
    let lines = (g.P.Records.park l.park).lines in
    IsSiteSums l.site l.sums (take l.i lines) (take l.i lines)
