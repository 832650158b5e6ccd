use Rattle.std.specs.Prelude.{take}
use Rattle.park_sums.specs.Inner.Rows.{AreSums}
use Rattle.park_sums.proofs.walk.sums.Given as goal

-- the sums of the first i lines
abbrev pub invariant-loop-i : goal.invariant-loop-i
invariant-loop-i g l =
    let lines = (g.P.Records.park l.park).lines in
    AreSums l.sums (take l.i lines) (take l.i lines)
