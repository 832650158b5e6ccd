-- Laws of a call's refusal: the rules of what is given come first, and last the rule of the call.
-- Assumes nothing.
use Prim.Native.Nat.{ℕ}
use mathlib.Core.Path.{◌≡◌, sym, ap, ◌∙◌}
use mathlib.Core.Bool.{Bool, true, false, cond}
use mathlib.Core.List.{List, [], ◌∷◌}
use mathlib.Core.Option.{none, some}
use Rattle.park_format.specs.Call.{refusal_with}
use Rattle.park_format.specs.Rules.{Row, first_broken}
use Rattle.park_format.specs.Rules.Row.{rule}
use Rattle.park_format.proofs.Rules.{first_append, first_stays}

pub rules_first : (rules : List Row) (last : Row) {r : ℕ × ℕ} → some r ≡ first_broken rules → refusal_with rules last ≡ some r
unfolding refusal_with
rules_first rules last e = first_stays rules (last ∷ []) (sym e)

-- where those are kept, by the call's own rule alone
module _ (rules : List Row) (n p : ℕ) (b : Bool) (kept : first_broken rules ≡ none) where
  call_last : refusal_with rules (rule n p b) ≡ cond b (some (n, p)) none
  unfolding refusal_with first_broken
  call_last = first_append rules (rule n p b ∷ []) kept

  pub call_refuses : b ≡ true → refusal_with rules (rule n p b) ≡ some (n, p)
  call_refuses e = call_last ∙ ap (λ (t : Bool). cond t (some (n, p)) none) e

  pub call_allows : b ≡ false → refusal_with rules (rule n p b) ≡ none
  call_allows e = call_last ∙ ap (λ (t : Bool). cond t (some (n, p)) none) e
