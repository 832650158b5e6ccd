-- What is printed: all sites of an accepted file, else its own refusal; and a file cut after the longest accepted one prints the same.
-- Assumes nothing.
use Prim.Native.Nat.{ℕ, zero, suc, ◌*◌, ◌/◌, ◌≤◌}
use native.Mathlib.Nat.{min-eq_left}
use native.Mathlib.Omega.{arith}
use mathlib.Core.Path.{◌≡◌, refl, sym, ap, ap₂, ◌∙◌}
use mathlib.Core.Bool.{Bool, true, false}
use mathlib.Core.List.{List, ◌++◌}
use borrow.Author.Tests.{le-ltb, ltb-false, ltb-true}
use lib.Dec.{ltb}
use lib.ListN.{length, take, drop, length-append, length-drop}
use lib.Seq.{drop-append-le, take_all, take-append-le}
use Rattle.park_format.specs.Park.{park_of}
use Rattle.park_format.specs.Rules.Row.{rule}
use Rattle.park_format.proofs.Accepted.{kept}
use Rattle.park_format.proofs.Cut.{cut_refusal}
use Rattle.park_bill.specs.Bill.{bill_numbers}
use Rattle.park_format.specs.Call.{answer, unless_refused}
use Rattle.park_bill.specs.Reply.{bills_of}
use Rattle.park_bill.proofs.Refusals.{call_allows, file_first}
use Rattle.park_bill.proofs.Slices.{length_bills}
use Rattle.park_text.specs.Answer.{AcceptedAnswer, answer_text, answer_to, CutAnswer, RefusedAnswer, unwritten}
use Rattle.park_text.specs.Text.{bill_text, names_text, site_text, sites_text}

-- what stands after the numbers of the sites is not printed
sites_of : (n : ℕ) (list rest : List ℕ) → bill_numbers * n ≤ length list → sites_text n (list ++ rest) ≡ sites_text n list
unfolding sites_text
sites_of zero list rest long = refl
sites_of (suc n) list rest long =
    ap₂ (λ (before numbers : List ℕ). before ++ site_text (suc n) numbers) (sites_of n list rest (omega arith))
    (ap (take bill_numbers) (drop-append-le (bill_numbers * n) list rest (omega arith)) ∙ take-append-le bill_numbers (drop (bill_numbers * n) list) rest (omega (arith, length-drop (bill_numbers * n) list)))

pub accepted_answer : AcceptedAnswer
unfolding answer_to bill_text
accepted_answer file accepted =
    let s = (park_of file).header.sites in
    let bills = bills_of (park_of file) s in
    let rest = drop (bill_numbers * s) unwritten in
    let list : List ℕ = bills ++ rest in
    let few = (kept file accepted).header.sites.1 in
    let whole : s ≤ length list / bill_numbers = omega (arith, length-append bills rest, length_bills (park_of file) s) in
    ap (λ o. answer_text (answer o s) (unless_refused o list unwritten))
    (call_allows file 21 0 _ accepted (le-ltb (length unwritten) (bill_numbers * s) (omega (arith, few))))
    ∙ ap (λ (n : ℕ). names_text ++ sites_text n list) (min-eq_left whole)
    ∙ ap (λ (text : List ℕ). names_text ++ text) (sites_of s bills rest (omega (arith, length_bills (park_of file) s)))

pub refused_answer : RefusedAnswer
unfolding answer_to
refused_answer file number place e =
    let s = (park_of file).header.sites in
    ap (λ o. answer_text (answer o s) (unless_refused o (bills_of (park_of file) s ++ drop (bill_numbers * s) unwritten) unwritten))
    (file_first file (rule 21 0 (ltb (length unwritten) (bill_numbers * s))) (sym e))

pub cut_answer : CutAnswer
cut_answer bytes more file = by (ltb bytes (length file)) refl
  where
    by : (b : Bool) → ltb bytes (length file) ≡ b → answer_to (take bytes file) ≡ answer_to file
    by false e = ap answer_to (take_all bytes file (ltb-false bytes (length file) e))
    by true e =
        let longer = ltb-true bytes (length file) e in
        let r = cut_refusal bytes more file (omega arith) in
        refused_answer (take bytes file) r.0.0 r.0.1 r.1.0 ∙ sym (refused_answer file r.0.0 r.0.1 r.1.1)
