-- What the exported calls return and write: a refusal's number and place, each 0 where nothing is refused, and the value where nothing is.
-- Assumes nothing.
use Rattle.std.specs.Prelude.{ℕ, ◌⊎◌, cond, List, [], eqb}
use Rattle.std.proofs.Common.{inl, inr}
use Rattle.std.proofs.Math.Option.{Option}
use Rattle.park_bill.specs.Bill.{words}
use Rattle.park_format.specs.Call.{answer}
use Rattle.park_bill.specs.declared.bill.Bill.{Bill}

abbrev pub number_of : {A : Type 0} → (ℕ × ℕ) ⊎ A → ℕ
number_of (inl refusal) = refusal.0
number_of (inr value) = 0

abbrev pub place_of : {A : Type 0} → (ℕ × ℕ) ⊎ A → ℕ
place_of (inl refusal) = refusal.1
place_of (inr value) = 0

-- a file's check has no value
abbrev pub checked : Option (ℕ × ℕ) → (ℕ × ℕ) ⊎ Unit {0}
checked refused = answer refused tt

-- the eleven numbers, or what stood there
abbrev pub numbers_after : (ℕ × ℕ) ⊎ Bill → List ℕ → List ℕ
numbers_after (inl refusal) before = before
numbers_after (inr b) before = words b

-- the numbers that a call returns in a bill: those left there where the number returned is 0, else none
abbrev pub returned : ℕ → List ℕ → List ℕ
returned number after = cond (eqb number 0) after []

-- the number of sites, or the length of a file; 0 where the call refuses
abbrev pub value_of : (ℕ × ℕ) ⊎ ℕ → ℕ
value_of (inl refusal) = 0
value_of (inr value) = value
