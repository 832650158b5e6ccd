-- What `encode` answers, and the buffer that it leaves (02, R-1). The table of rules is that of a file; 1 and 9 count numbers, and 22 comes last.
-- Assumes nothing.
use Rattle.std.specs.Prelude.{ℕ, ◌⊎◌, ◌≡◌, Bool, not, List, ◌++◌, eqb, ltb, length, drop}
use Rattle.std.proofs.Math.Option.{Option, none}
use Rattle.park_format.specs.Call.{answer, refusal_with, unless_refused}
use Rattle.park_format.specs.Made.{file_of}
use Rattle.park_format.specs.Rules.{Row, first_broken, rules_of, size_of}
use Rattle.park_format.specs.Rules.Row.{rule}
use Rattle.park_encode.specs.Numbers.{header_fields, list_count, list_header, list_park}

-- 1: fewer than five numbers
abbrev pub has_too_few : List ℕ → Bool
has_too_few numbers = ltb (length numbers) header_fields

-- 9: the count is not 5 + 5s + 8n
abbrev pub has_wrong_count : List ℕ → Bool
has_wrong_count numbers = not (eqb (length numbers) (list_count (list_header numbers).sites (list_header numbers).lines))

-- the table of a list, and its first broken row
unfoldable pub list_rules : List ℕ → List Row
list_rules numbers = rules_of (has_too_few numbers) (has_wrong_count numbers) (list_park numbers)

unfoldable pub list_refusal : List ℕ → Option (ℕ × ℕ)
list_refusal numbers = first_broken (list_rules numbers)

abbrev pub IsAcceptedList : List ℕ → Type 0
IsAcceptedList numbers = list_refusal numbers ≡ none

-- the file that is made of a list, and its length
abbrev pub made_file : List ℕ → List ℕ
made_file numbers = file_of (list_park numbers)

abbrev pub made_size : List ℕ → ℕ
made_size numbers = size_of (list_header numbers)

-- 22: a buffer shorter than the file
unfoldable pub encode_refusal : List ℕ → List ℕ → Option (ℕ × ℕ)
encode_refusal numbers buffer = refusal_with (list_rules numbers) (rule 22 0 (ltb (length buffer) (made_size numbers)))

-- the reply: the file's length
abbrev pub encode_outcome : List ℕ → List ℕ → (ℕ × ℕ) ⊎ ℕ
encode_outcome numbers buffer = answer (encode_refusal numbers buffer) (made_size numbers)

-- the buffer: the file, and what stood after it; no byte changes on a refusal
abbrev pub buffer_after : List ℕ → List ℕ → List ℕ
buffer_after numbers before = unless_refused (encode_refusal numbers before) (made_file numbers ++ drop (made_size numbers) before) before
