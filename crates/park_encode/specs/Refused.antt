-- What `encode` refuses (02, R-1 and R-2), and what it leaves then. `list_refusals` of proofs/Refused.antt proves the first of these laws, and so
-- on; `too_few` and `wrong_count` are in proofs/Counts.antt.
-- Assumes nothing.
use Rattle.std.specs.Prelude.{ℕ, ◌≤◌, ◌<◌, ◌↔◌, ◌⊎◌, ◌≡◌, false, List, length}
use Rattle.std.proofs.Common.{inl}
use Rattle.std.proofs.Math.Option.{none, some}
use Rattle.park_format.specs.Ends.{former_line_rules, formerly, MeantBy}
use Rattle.park_format.specs.Rules.{first_broken, header_rules, OfTable, rules_with}
use Rattle.park_encode.specs.Encode.{buffer_after, encode_outcome, has_too_few, has_wrong_count, IsAcceptedList, list_refusal, made_size}
use Rattle.park_encode.specs.Numbers.{header_fields, list_count, list_header, list_park}

-- a list is refused by 1, or by one of the table's rules from 4 to 24: 2 and 3 cannot occur, nor 25 to 27, since it has no generators
abbrev pub ListRefusals : Type 0
ListRefusals =
    (numbers : List ℕ) (r : ℕ × ℕ) → list_refusal numbers ≡ some r
    → (r.0 ≡ 1) ⊎ ((4 ≤ r.0) × ((r.0 ≤ 24) × OfTable r.0))

-- what 14, 23 and 24 mean for a list, and that they refuse what 01's one rule for the ends refused: see park_format/specs/Ends.antt
abbrev pub ListEndsMeant : Type 0
ListEndsMeant = (numbers : List ℕ) → MeantBy (list_refusal numbers) (list_park numbers)

abbrev pub SameListsRefused : Type 0
SameListsRefused =
    (numbers : List ℕ)
    → first_broken (rules_with former_line_rules (has_too_few numbers) (has_wrong_count numbers) (list_park numbers)) ≡ formerly (list_refusal numbers)

-- 1 is said exactly when there are fewer than five numbers
abbrev pub TooFew : Type 0
TooFew = (numbers : List ℕ) (place : ℕ) → (list_refusal numbers ≡ some (1, place)) ↔ ((place ≡ 0) × (length numbers < header_fields))

-- 9 exactly when there are five numbers, which keep rules 4 to 8, and the count is not the one that they ask for
pub record Miscounted (numbers : List ℕ) : Type 0 where
  pub five : header_fields ≤ length numbers
  pub header : first_broken (header_rules false (list_header numbers)) ≡ none
  pub count : length numbers ≡ list_count (list_header numbers).sites (list_header numbers).lines → ⊥

abbrev pub WrongCount : Type 0
WrongCount = (numbers : List ℕ) (place : ℕ) → (list_refusal numbers ≡ some (9, place)) ↔ ((place ≡ 0) × Miscounted numbers)

-- what refuses a list refuses the call, whatever the buffer
abbrev pub ListsRefused : Type 0
ListsRefused = (numbers before : List ℕ) (r : ℕ × ℕ) → list_refusal numbers ≡ some r → encode_outcome numbers before ≡ inl r

-- 22 is said of accepted lists alone, exactly when the buffer is too short
abbrev pub BufferTooShort : Type 0
BufferTooShort =
    (numbers before : List ℕ) (place : ℕ)
    → (encode_outcome numbers before ≡ inl (22, place)) ↔ ((place ≡ 0) × (IsAcceptedList numbers × (length before < made_size numbers)))

-- no refusal has the number 0, so that 0 can stand for none
abbrev pub NeverZero : Type 0
NeverZero = (numbers before : List ℕ) (r : ℕ × ℕ) → encode_outcome numbers before ≡ inl r → 1 ≤ r.0

-- no refusal changes the buffer
abbrev pub BufferKept : Type 0
BufferKept = (numbers before : List ℕ) (r : ℕ × ℕ) → encode_outcome numbers before ≡ inl r → buffer_after numbers before ≡ before
