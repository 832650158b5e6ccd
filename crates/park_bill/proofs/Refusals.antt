-- Laws of a billing call's refusal: the file's own comes first, and last the rule of the call.
-- Assumes nothing.
use Prim.Native.Nat.{ℕ, ◌*◌}
use mathlib.Core.Logic.{inl}
use mathlib.Core.Path.{◌≡◌, refl, sym, ap, ◌∙◌}
use mathlib.Core.Bool.{Bool, true, false}
use mathlib.Core.List.{List, ◌++◌}
use mathlib.Core.Option.{none, some}
use lib.Dec.{ltb}
use lib.ListN.{length, drop}
use Rattle.park_format.specs.Call.{answer, unless_refused}
use Rattle.park_format.specs.Park.{Park, park_of}
use Rattle.park_format.specs.Rules.{Row, IsAccepted, file_rules, refusal, zero_or_above}
use Rattle.park_format.specs.Rules.Row.{rule}
use Rattle.park_format.proofs.Call as call
use Rattle.park_bill.specs.Bill.{bill, bill_numbers}
use Rattle.park_bill.specs.Inner.Outcome.{all_after, all_outcome, one_outcome, own_rule, short_list}
use Rattle.park_bill.specs.Reply.{bills_of, call_refusal, list_after, park_outcome, park_refusal, site_outcome}

pub file_first : (file : List ℕ) (last : Row) {r : ℕ × ℕ} → some r ≡ refusal file → call_refusal file last ≡ some r
unfolding call_refusal refusal
file_first file last e = call.rules_first (file_rules file) last e

-- of an accepted file, by the call's own rule alone
module _ (file : List ℕ) (n p : ℕ) (b : Bool) (accepted : IsAccepted file) where
  pub call_refuses : b ≡ true → call_refusal file (rule n p b) ≡ some (n, p)
  unfolding call_refusal refusal
  call_refuses e = call.call_refuses (file_rules file) n p b accepted e

  pub call_allows : b ≡ false → call_refusal file (rule n p b) ≡ none
  unfolding call_refusal refusal
  call_allows e = call.call_allows (file_rules file) n p b accepted e

pub call_decides : (file : List ℕ) (n : ℕ) (b : Bool) → IsAccepted file → call_refusal file (rule n 0 b) ≡ own_rule n b
call_decides file n true accepted = call_refuses file n 0 true accepted refl
call_decides file n false accepted = call_allows file n 0 false accepted refl

-- what a call answers of a file that is refused
module _ (file : List ℕ) {r : ℕ × ℕ} (refused : some r ≡ refusal file) where
  pub site_refused : (site : ℕ) → inl r ≡ site_outcome file site
  site_refused site = ap (λ o. answer o (bill (park_of file) site)) (sym (file_first file _ refused))

  pub park_refused : (list : List ℕ) → inl r ≡ park_outcome file list
  park_refused list = ap (λ o. answer o (park_of file).header.sites) (sym (file_first file _ refused))

  pub list_refused : (before : List ℕ) → before ≡ list_after file before
  list_refused before =
      let s = (park_of file).header.sites in
      ap (λ o. unless_refused o (bills_of (park_of file) s ++ drop (bill_numbers * s) before) before) (sym (file_first file _ refused))

-- what a call answers of the park of an accepted file is what it answers of the file
module _ (file : List ℕ) (accepted : none ≡ refusal file) {p : Park} (its : p ≡ park_of file) where
  pub site_answered : (site : ℕ) → one_outcome p site ≡ site_outcome file site
  site_answered site =
      ap (λ (q : Park). one_outcome q site) its
      ∙ ap (λ o. answer o (bill (park_of file) site)) (sym (call_decides file 20 (zero_or_above (park_of file).header.sites site) (sym accepted)))

  short_is : (list : List ℕ) → short_list (park_of file) list ≡ park_refusal file list
  short_is list = sym (call_decides file 21 (ltb (length list) (bill_numbers * (park_of file).header.sites)) (sym accepted))

  pub park_answered : (list : List ℕ) → all_outcome p list ≡ park_outcome file list
  park_answered list =
      ap (λ (q : Park). all_outcome q list) its ∙ ap (λ o. answer o (park_of file).header.sites) (short_is list)

  pub list_left : (before : List ℕ) → all_after p before ≡ list_after file before
  list_left before =
      let s = (park_of file).header.sites in
      ap (λ (q : Park). all_after q before) its
      ∙ ap (λ o. unless_refused o (bills_of (park_of file) s ++ drop (bill_numbers * s) before) before) (short_is before)
