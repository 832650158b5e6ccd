use Rattle.std.specs.Prelude.{take}
use Rattle.park_sums.specs.Inner.Rows.{AreLess}
use Rattle.park_sums.proofs.walk.after_transits.Given as goal

-- the transits among the first i lines are taken
abbrev pub invariant-loop-i : goal.invariant-loop-i
invariant-loop-i g l =
    AreLess l.sums l.fn.sums (take l.i (g.P.Records.park l.park).lines)
