-- The sites with an input line, as a 16-bit set (01, rule 19 and its form): site k is in it where digit k - 1, counted from the lowest, is 1.
-- Assumes nothing.
use Rattle.std.specs.Prelude.{ℕ, zero, suc, ◌+◌, ◌/◌, ◌%◌, ◌≤◌, ◌<◌, ◌≡◌, Bool, true, false, cond, not, List, eqb, ltb, Result, Ok, Err}
use Rattle.std.proofs.Math.Option.{Option, none, some}
use Rattle.park_format.specs.Park.{inputs}
use Rattle.park_format.specs.Rules.{is_empty, rule_number}
use Rattle.park_format.specs.declared.line.Line.{Line}
use Rattle.park_format.specs.declared.rule.Refusal.{Refusal}

unfoldable pub has : ℕ → ℕ → Bool
has set zero = eqb (set % 2) 1
has set (suc j) = has (set / 2) j

-- r is the lowest digit of a 16-bit set that is not 1, or 16 where all are
pub record Lowest (set r : ℕ) : Type 0 where
  pub below : (j : ℕ) → j < r → has set j ≡ true
  pub here : r < 16 → has set r ≡ false
  pub most : r ≤ 16

-- the lowest missing site, if it is one of s, is refused by 19
pub record Unfed (set s : ℕ) (refused : Option (ℕ × ℕ)) : Type 0 where
  pub low : ℕ
  pub lowest : Lowest set low
  pub decides : refused ≡ cond (ltb low s) (some (19, low + 1)) none

-- the sites with an input line
abbrev pub IsFed : ℕ → List Line → Type 0
IsFed set lines = (j : ℕ) → has set j ≡ not (is_empty (inputs (suc j) lines))

-- what the walk over the lines answers: their first broken rule, or the sites with an input
abbrev pub Walks : Result ℕ Refusal → Option (ℕ × ℕ) → List Line → Type 0
Walks (Err r) first lines = some (rule_number r.rule, r.place) ≡ first
Walks (Ok set) first lines = (none ≡ first) × IsFed set lines
