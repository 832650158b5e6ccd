-- What parkbill prints for a file: its bill, or its refusal; and what this comes to for every file.
-- Assumes nothing.
use Rattle.std.specs.Prelude.{ℕ, ◌*◌, ◌<◌, ◌⊎◌, ◌≡◌, List, ◌++◌, replicate, take}
use Rattle.std.proofs.Common.{inl, inr}
use Rattle.std.proofs.Math.Option.{some}
use Rattle.park_format.specs.Cut.{longest}
use Rattle.park_format.specs.Limits.{most_sites}
use Rattle.park_format.specs.Park.{park_of}
use Rattle.park_format.specs.Rules.{IsAccepted, refusal}
use Rattle.park_bill.specs.Bill.{bill_numbers}
use Rattle.park_bill.specs.Reply.{bills_of, list_after, park_outcome}
use Rattle.park_text.specs.Text.{bill_text, names_text, refusal_text, sites_text}

-- the list that is lent: eleven zeros for each of as many sites as a park can have
abbrev pub unwritten : List ℕ
unwritten = replicate (most_sites * bill_numbers) 0

-- a refusal's number and place, or a count of sites and the list
abbrev pub answer_text : (ℕ × ℕ) ⊎ ℕ → List ℕ → List ℕ
answer_text (inl refusal) list = refusal_text refusal.0 refusal.1
answer_text (inr s) list = bill_text s list

unfoldable pub answer_to : List ℕ → List ℕ
answer_to file = answer_text (park_outcome file unwritten) (list_after file unwritten)

-- an accepted file prints a line for each of its sites
abbrev pub AcceptedAnswer : Type 0
AcceptedAnswer =
    (file : List ℕ) → IsAccepted file
    → answer_to file ≡ names_text ++ sites_text (park_of file).header.sites (bills_of (park_of file) (park_of file).header.sites)

-- every other file prints its own refusal
abbrev pub RefusedAnswer : Type 0
RefusedAnswer = (file : List ℕ) (number place : ℕ) → refusal file ≡ some (number, place) → answer_to file ≡ refusal_text number place

-- a file that is cut short has the same answer, if more bytes are left than the longest accepted file has
abbrev pub CutAnswer : Type 0
CutAnswer = (bytes : ℕ) → longest < bytes → (file : List ℕ) → answer_to (take bytes file) ≡ answer_to file
