-- What a call answers that may refuse, and what it leaves in a list or a buffer that it is lent.
-- Assumes nothing.
use Rattle.std.specs.Prelude.{ℕ, ◌⊎◌, List, [], ◌∷◌, ◌++◌, Result, Ok, Err}
use Rattle.std.proofs.Common.{inl, inr}
use Rattle.std.proofs.Math.Option.{Option, none, some}
use Rattle.park_format.specs.Rules.{Row, first_broken, rule_number}
use Rattle.park_format.specs.declared.rule.Refusal.{Refusal}

-- the rules of what is given, and last the rule of the call
unfoldable pub refusal_with : List Row → Row → Option (ℕ × ℕ)
refusal_with rules last = first_broken (rules ++ (last ∷ []))

-- the refusal's number and place if there is one, else the value
abbrev pub answer : {A : Type 0} → Option (ℕ × ℕ) → A → (ℕ × ℕ) ⊎ A
answer none value = inr value
answer (some refusal) value = inl refusal

-- a list or a buffer after a call that may refuse
abbrev pub unless_refused : Option (ℕ × ℕ) → List ℕ → List ℕ → List ℕ
unless_refused none written before = written
unless_refused (some refusal) written before = before

-- number and place of a refusal, or the value
abbrev pub reply_of : {A : Type 0} → Result A Refusal → (ℕ × ℕ) ⊎ A
reply_of (Ok value) = inr value
reply_of (Err r) = inl (rule_number r.rule, r.place)
