use Rattle.std.proofs.Common.{◌≡◌}
use Rattle.std.specs.Prelude.{take}
use Rattle.park_format.specs.Park.{inputs, transits}
use Rattle.park_sums.specs.Inner.Rows.{with_output}
use Rattle.park_sums.proofs.own.with_lines.Given as goal

-- the active generation of the first i lines is added up
abbrev pub invariant-loop-i : goal.invariant-loop-i
invariant-loop-i g l =
    let lines = take l.i (g.P.Records.park l.park).lines in
    l.sum ≡ with_output l.output (inputs l.site lines) (transits l.site lines)
