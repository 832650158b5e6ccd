-- Lists and files (02, R-1): an accepted list makes a file that reads back as the list; an accepted file of version 1 is made of one
-- accepted list and of no other; and a list of the right count whose numbers fit their fields is refused as its file is.
-- `lists_read_back` of proofs/Laws.antt proves the first of them, and so on.
-- Assumes nothing.
use Rattle.std.specs.Prelude.{ℕ, ◌≤◌, ◌<◌, ◌^◌, ◌≡◌, List, length, take, drop}
use Rattle.std.proofs.Common.{inr}
use Rattle.park_format.specs.Accepted.{Every}
use Rattle.park_format.specs.Made.{AreBytes, FitsFile}
use Rattle.park_format.specs.Park.{header_of, park_of}
use Rattle.park_format.specs.Rules.{IsAccepted, refusal}
use Rattle.park_encode.specs.Encode.{buffer_after, encode_outcome, IsAcceptedList, list_refusal, made_file, made_size}
use Rattle.park_encode.specs.Numbers.{list_count, list_header, list_park, numbers_of, version}

-- (a) an accepted list: its file has the length replied, consists of bytes, is accepted, has version 1 and reads back as the list
pub record MadeOf (numbers : List ℕ) : Type 0 where
  pub size : length (made_file numbers) ≡ made_size numbers
  pub bytes : AreBytes (made_file numbers)
  pub accepted : IsAccepted (made_file numbers)
  pub first : (header_of (made_file numbers)).version ≡ version
  pub same : numbers_of (park_of (made_file numbers)) ≡ numbers

-- and `encode` puts it at the start of every buffer that has room for it, and keeps the rest
pub record EncodedInto (numbers before : List ℕ) : Type 0 where
  pub reply : encode_outcome numbers before ≡ inr (made_size numbers)
  pub file : take (made_size numbers) (buffer_after numbers before) ≡ made_file numbers
  pub rest : drop (made_size numbers) (buffer_after numbers before) ≡ drop (made_size numbers) before

abbrev pub ListsReadBack : Type 0
ListsReadBack =
    (numbers : List ℕ) → IsAcceptedList numbers
    → MadeOf numbers × ((before : List ℕ) → made_size numbers ≤ length before → EncodedInto numbers before)

-- (b) an accepted file of version 1 is made of one accepted list of 32-bit numbers, the list of its park, and of no other
pub record OneList (file : List ℕ) : Type 0 where
  pub wide : Every (λ (n : ℕ). n < 2 ^ 32) (numbers_of (park_of file))
  pub accepted : IsAcceptedList (numbers_of (park_of file))
  pub makes : made_file (numbers_of (park_of file)) ≡ file
  pub only : (numbers : List ℕ) → IsAcceptedList numbers → made_file numbers ≡ file → numbers ≡ numbers_of (park_of file)

abbrev pub FilesOfOneList : Type 0
FilesOfOneList = (file : List ℕ) → AreBytes file → IsAccepted file → (header_of file).version ≡ version → OneList file

-- (c) a list of the right count, of which every number fits its field, is refused by the number and at the place that its file is
abbrev pub RefusedAlike : Type 0
RefusedAlike =
    (numbers : List ℕ) → length numbers ≡ list_count (list_header numbers).sites (list_header numbers).lines
    → FitsFile (list_park numbers) → refusal (made_file numbers) ≡ list_refusal numbers
