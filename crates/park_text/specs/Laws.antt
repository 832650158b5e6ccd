-- A number is printed in digits, and the printed numbers can be read back, so that no two answers of a kind print alike.
-- Assumes nothing.
use Rattle.std.specs.Prelude.{ℕ, zero, suc, ◌+◌, ◌*◌, ◌-◌, ◌/◌, ◌<◌, ◌≤◌, min, ◌≡◌, cond, List, [], ◌∷◌, ◌++◌, ltb, length, take, drop, get_or}
use Rattle.park_format.specs.Accepted.{Every}
use Rattle.park_bill.specs.Bill.{bill_numbers}
use Rattle.park_text.specs.Text.{bill_text, decimal, names_text, refusal_text, refused_text}

-- the number that digits spell, after those that came to n
unfoldable pub value_after : ℕ → List ℕ → ℕ
value_after n [] = n
value_after n (d ∷ rest) = value_after (10 * n + (d - 48)) rest

abbrev pub value : List ℕ → ℕ
value text = value_after 0 text

abbrev pub ReadsBack : Type 0
ReadsBack = (n : ℕ) → value (decimal n) ≡ n

abbrev pub PrintsApart : Type 0
PrintsApart = (m n : ℕ) → decimal m ≡ decimal n → m ≡ n

-- a number above 0 does not begin with `0`
abbrev pub FirstDigit : Type 0
FirstDigit = (n : ℕ) → 0 < n → 48 < get_or (decimal n) 0 0

-- every byte is one of `0` to `9`, and there is one
abbrev pub IsDigit : ℕ → Type 0
IsDigit b = (48 ≤ b) × (b ≤ 57)

abbrev pub OnlyDigits : Type 0
OnlyDigits = (n : ℕ) → Every IsDigit (decimal n)

abbrev pub SomeDigit : Type 0
SomeDigit = (n : ℕ) → 0 < length (decimal n)

-- the numbers of lines, each up to a comma or a newline, after digits that came to n
unfoldable pub numbers_after : ℕ → List ℕ → List ℕ
numbers_after n [] = []
numbers_after n (b ∷ rest) = cond (ltb b 48) (n ∷ numbers_after 0 rest) (numbers_after (10 * n + (b - 48)) rest)

abbrev pub numbers_in : List ℕ → List ℕ
numbers_in text = numbers_after 0 text

-- after the word and its comma: the number and the place
abbrev pub RefusalReadsBack : Type 0
RefusalReadsBack = (number place : ℕ) → numbers_in (drop (length refused_text + 1) (refusal_text number place)) ≡ number ∷ place ∷ []

-- each site's number and its eleven
unfoldable pub sites_in : ℕ → List ℕ → List ℕ
sites_in zero list = []
sites_in (suc n) list = sites_in n list ++ (suc n ∷ take bill_numbers (drop (bill_numbers * n) list))

-- after the line of names
abbrev pub BillReadsBack : Type 0
BillReadsBack =
    (s : ℕ) (list : List ℕ) → numbers_in (drop (length names_text) (bill_text s list)) ≡ sites_in (min s (length list / bill_numbers)) list
