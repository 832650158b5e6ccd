-- Rules 1 and 9 of a list: when each is said.
-- Assumes nothing.
use Prim.Native.Nat.{ℕ, ◌≤◌, ◌<◌}
use native.Mathlib.Omega.{arith}
use mathlib.Core.Path.{◌≡◌, refl, sym, ap, ◌∙◌}
use mathlib.Core.Bool.{Bool, true, false, not, true≢false}
use mathlib.Core.List.{List}
use mathlib.Core.Option.{Option, none, some}
use borrow.Author.Tests.{eq-eqb, ltb-false, ltb-true, ne_eqb}
use lib.Dec.{lit≤}
use lib.ListN.{length}
use Rattle.park_format.specs.Park.{list_of}
use Rattle.park_format.specs.Rules.{each, first_broken, header_rules}
use Rattle.park_format.specs.declared.header.Header.{Header}
use Rattle.park_format.proofs.Rules.{same_refusal}
use Rattle.park_format.proofs.Said.{before_nine, first_says, nine_decides, table_says}
use Rattle.park_encode.specs.Encode.{has_too_few, has_wrong_count, list_refusal, list_rules}
use Rattle.park_encode.specs.Numbers.{header_fields, list_header, list_park}
use Rattle.park_encode.specs.Refused.{TooFew, WrongCount}
use Rattle.park_encode.proofs.Table.{few_refused, list_refuses}

module _ (numbers : List ℕ) where
  -- what holds of 4 to 8 and from 10 on, of 1 where there are too few numbers and of 9 where their count is wrong holds of the refusal
  says : (P : ℕ → Type 0) → (has_too_few numbers ≡ true → P 1) → ((n : ℕ) → 4 ≤ n → n ≤ 8 → P n) → (has_wrong_count numbers ≡ true → P 9) → ((n : ℕ) → 10 ≤ n → P n) → (r : ℕ × ℕ) → list_refusal numbers ≡ some r → P r.0
  unfolding each list_refusal list_rules list_park list_header list_of header_rules
  says P one header nine rest r e =
      first_says P (list_rules numbers)
      (table_says P (has_too_few numbers) (has_wrong_count numbers) (list_park numbers) one
      (λ e. absurd (true≢false (sym e)), (λ e. absurd (true≢false (sym e)), (λ e. header 4 (lit≤ tt) (lit≤ tt), (λ e. header 5 (lit≤ tt) (lit≤ tt), (λ e. header 6 (lit≤ tt) (lit≤ tt), (λ e. header 7 (lit≤ tt) (lit≤ tt), (λ e. header 8 (lit≤ tt) (lit≤ tt), (λ e. absurd (true≢false (sym e)), (nine, tt)))))))))
      tt
      (λ n low high own. rest n low))
      e

pub too_few : TooFew
too_few numbers place = (
  λ e. by (has_too_few numbers) refl e,
  λ h. sym (few_refused numbers h.1) ∙ ap (λ (p : ℕ). some (1, p)) (sym h.0),
)
  where
    by : (b : Bool) → has_too_few numbers ≡ b → list_refusal numbers ≡ some (1, place) → (place ≡ 0) × (length numbers < header_fields)
    by true q e =
        let few = ltb-true (length numbers) header_fields q in
        (ap (λ (q : ℕ × ℕ). q.1) (sym (same_refusal (few_refused numbers few ∙ e))), few)
    by false q e =
        let above = says numbers (λ (n : ℕ). 4 ≤ n) (λ t. absurd (true≢false (sym t ∙ q))) (λ n low high. low) (λ w. lit≤ tt) (λ n low. omega arith) (1, place) e in
        absurd (omega arith)

module _ (numbers : List ℕ) where
  abbrev h : Header
  h = list_header numbers

  -- a broken rule of the header is the list's, if there is a header
  its_header : header_fields ≤ length numbers → {r : ℕ × ℕ} → first_broken (header_rules (has_wrong_count numbers) h) ≡ some r → list_refusal numbers ≡ some r
  its_header five e = sym (list_refuses numbers five (sym e))

  said_nine : header_fields ≤ length numbers → first_broken (header_rules false h) ≡ none → has_wrong_count numbers ≡ true → list_refusal numbers ≡ some (9, 0)
  said_nine five kept wrong = its_header five (nine_decides h (has_wrong_count numbers) kept wrong)

  module _ {place : ℕ} (e : list_refusal numbers ≡ some (9, place)) where
    wrong : has_wrong_count numbers ≡ true
    wrong = by (has_wrong_count numbers) refl
      where
        by : (b : Bool) → has_wrong_count numbers ≡ b → b ≡ true
        by true q = refl
        by false q =
            absurd (says numbers (λ (n : ℕ). n ≡ 9 → ⊥) (λ t z. omega arith) (λ n low high z. omega arith) (λ t. absurd (true≢false (sym t ∙ q))) (λ n low z. omega arith) (9, place) e refl)

    five : header_fields ≤ length numbers
    five = by (has_too_few numbers) refl
      where
        by : (b : Bool) → has_too_few numbers ≡ b → header_fields ≤ length numbers
        by true q =
            let one = ap (λ (r : ℕ × ℕ). r.0) (same_refusal (few_refused numbers (ltb-true (length numbers) header_fields q) ∙ e)) in
            absurd (omega (arith, one))
        by false q = ltb-false (length numbers) header_fields q

    header : first_broken (header_rules false h) ≡ none
    header = by (first_broken (header_rules false h)) refl
      where
        by : (o : Option (ℕ × ℕ)) → first_broken (header_rules false h) ≡ o → o ≡ none
        by none q = refl
        by (some r) q =
            let before = before_nine h (has_wrong_count numbers) q in
            let nine = ap (λ (p : ℕ × ℕ). p.0) (same_refusal (sym (its_header five before.0) ∙ e)) in
            absurd (before.1 nine)

pub wrong_count : WrongCount
wrong_count numbers place = (
  λ e.
      let nine = same_refusal (sym e ∙ said_nine numbers (five numbers e) (header numbers e) (wrong numbers e)) in
      (ap (λ (r : ℕ × ℕ). r.1) nine, record { five = five numbers e; header = header numbers e; count = λ right. true≢false (sym (wrong numbers e) ∙ ap not (eq-eqb (length numbers) _ right)) }),
  λ m.
      said_nine numbers m.1.five m.1.header (ap not (ne_eqb (length numbers) _ m.1.count))
      ∙ ap (λ (p : ℕ). some (9, p)) (sym m.0),
)
