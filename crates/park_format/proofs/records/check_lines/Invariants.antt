use Rattle.std.proofs.Common.{ℕ, ◌≡◌}
use Rattle.std.specs.Prelude.{take}
use Rattle.park_format.specs.Inner.Set.{IsFed}
use Rattle.park_format.specs.Park.{no_line, Park}
use Rattle.park_format.specs.Rules.{line_rules}
use Rattle.park_format.specs.declared.header.Header.{Header}
use Rattle.park_format.proofs.Rules.{rest_from}
use Rattle.park_format.proofs.records.check_lines.Given as goal

-- what the lines break first is broken first from line i on, and the set has the sites that those before it go to
pub record Reached (p : Park) (header : Header) (set i : ℕ) : Type 0 where
  pub its : header ≡ p.header
  pub sound : rest_from (line_rules p.header) no_line p.lines i ≡ rest_from (line_rules p.header) no_line p.lines 0
  pub fed : IsFed set (take i p.lines)

abbrev pub invariant-loop-i : goal.invariant-loop-i
invariant-loop-i g l = Reached (g.R.Records.park l.records) l.header l.fed l.i
