-- The ends of a line: which of its rules is told, and what a refusal by one of them means.
-- Assumes nothing.
use Prim.Native.Nat.{ℕ, ◌+◌, ◌≤◌}
use native.Mathlib.Omega.{arith}
use mathlib.Core.Logic.{⊎_elim, ◌⊎◌, inl, inr}
use mathlib.Core.Path.{◌≡◌, refl, sym, ap, subst, ◌∙◌}
use mathlib.Core.Bool.{Bool, true, false, not, true≢false}
use mathlib.Core.List.{◌++◌}
use mathlib.Core.Option.{some}
use borrow.Author.Tests.{eq-eqb, eqb-false, eqb-true, le-leb, le-ltb, leb-true, lt-ltb, ltb-false, ltb-true, ne_eqb, not-true}
use lib.Dec.{eqb, leb, lit≤, ltb}
use lib.ListN.{get_or}
use Rattle.park_format.specs.Ends.{BothNetwork, EndAbove, EndsMeant, EndsTold, FileEndsMeant, Meant, OutOfOrder}
use Rattle.park_format.specs.Park.{no_line, Park}
use Rattle.park_format.specs.Rules.{backwards, both_network, each, end_above, file_rules, first_broken, generator_rules, header_rules, input_rules, line_rules, refusal, rules_of, rules_with, site_rules, start_rules}
use Rattle.park_format.specs.declared.header.Header.{Header}
use Rattle.park_format.specs.declared.line.Line.{Line}
use Rattle.park_format.proofs.Rules.{each_at, first_part, same_refusal}
use Rattle.park_format.proofs.Said.{each_says, first_says}
use Rattle.park_format.proofs.Tests.{and_both, or_either, or-false, or_last, or_no}

-- what the tests of a line's ends come to, and what they tell
module _ (s : ℕ) (l : Line) where
  above : EndAbove s l → end_above s l ≡ true
  above = ⊎_elim (λ from. rw (lt-ltb s l.from from)) (λ to. or_last (ltb s l.from) _ (lt-ltb s l.to to))

  is_above : end_above s l ≡ true → EndAbove s l
  is_above e = ⊎_elim (λ from. inl (ltb-true s l.from from)) (λ to. inr (ltb-true s l.to to)) (or_either (ltb s l.from) (ltb s l.to) e)

  within : l.from ≤ s → l.to ≤ s → end_above s l ≡ false
  within from to = or_no _ _ (le-ltb s l.from from) (le-ltb s l.to to)

  network : BothNetwork l → both_network l ≡ true
  network both = rw (eq-eqb l.from 0 both.0, eq-eqb l.to 0 both.1)

  is_network : both_network l ≡ true → BothNetwork l
  is_network e =
      let both = and_both (eqb l.from 0) (eqb l.to 0) e in
      (eqb-true l.from 0 both.0, eqb-true l.to 0 both.1)

  no_network : OutOfOrder s l → both_network l ≡ false
  no_network out = rw (ne_eqb l.from 0 (λ e. omega (arith, out.0, out.1.0)))

  out_of_order_lem : OutOfOrder s l → backwards l ≡ true
  out_of_order_lem out =
      rw (ne_eqb l.from 0 (λ e. omega (arith, out.0, out.1.0)), ne_eqb l.to 0 (λ e. omega (arith, out.0)), le-leb l.to l.from out.1.0)

  is_out_of_order : end_above s l ≡ false → backwards l ≡ true → OutOfOrder s l
  is_out_of_order inside e =
      let sites = and_both (not (eqb l.from 0)) _ e in
      let order = and_both (not (eqb l.to 0)) (leb l.to l.from) sites.1 in
      let site = eqb-false l.to 0 (not-true _ order.0) in
      let from = ltb-false s l.from (or-false (ltb s l.from) (ltb s l.to) inside).0 in
      (omega (arith, site), (leb-true l.to l.from order.1, from))

-- which rule is told of a line, by those tests
module _ (h : Header) (k : ℕ) (l : Line) where
  abbrev s : ℕ
  s = h.sites

  told_14 : end_above s l ≡ true → first_broken (line_rules h k l) ≡ some (14, k)
  unfolding line_rules first_broken
  told_14 above = rw above

  told_23 : end_above s l ≡ false → both_network l ≡ true → first_broken (line_rules h k l) ≡ some (23, k)
  unfolding line_rules first_broken
  told_23 within network = rw (within, network)

  told_24 : end_above s l ≡ false → both_network l ≡ false → backwards l ≡ true → first_broken (line_rules h k l) ≡ some (24, k)
  unfolding line_rules first_broken
  told_24 within site back = rw (within, site, back)

  told_none : end_above s l ≡ false → both_network l ≡ false → backwards l ≡ false → {r : ℕ × ℕ} → first_broken (line_rules h k l) ≡ some r → (15 ≤ r.0) × (r.0 ≤ 18)
  unfolding line_rules
  told_none within site forward e =
      first_says (λ (n : ℕ). (15 ≤ n) × (n ≤ 18)) (line_rules h k l)
      (λ t. absurd (true≢false (sym t ∙ within)), (λ t. absurd (true≢false (sym t ∙ site)), (λ t. absurd (true≢false (sym t ∙ forward)), (λ t. (lit≤ tt, lit≤ tt), (λ t. (lit≤ tt, lit≤ tt), (λ t. (lit≤ tt, lit≤ tt), (λ t. (lit≤ tt, lit≤ tt), tt))))))) e

  -- and all that can be told
  abbrev By : ℕ × ℕ → Type 0
  By r =
      ((r ≡ (14, k)) × EndAbove s l)
      ⊎ (((r ≡ (23, k)) × BothNetwork l) ⊎ (((r ≡ (24, k)) × OutOfOrder s l) ⊎ ((15 ≤ r.0) × (r.0 ≤ 18))))

  told : (r : ℕ × ℕ) → first_broken (line_rules h k l) ≡ some r → By r
  told r e = by (end_above s l) refl (both_network l) refl (backwards l) refl
    where
      by : (a : Bool) → end_above s l ≡ a → (b : Bool) → both_network l ≡ b → (c : Bool) → backwards l ≡ c → By r
      by true a b bs c cs = inl (same_refusal (sym e ∙ told_14 a), is_above s l a)
      by false a true b c cs = inr (inl (same_refusal (sym e ∙ told_23 a b), is_network s l b))
      by false a false b true c = inr (inr (inl (same_refusal (sym e ∙ told_24 a b c), is_out_of_order s l a c)))
      by false a false b false c = inr (inr (inr (told_none a b c e)))

pub ends_told : EndsTold
ends_told h k l =
    let s = h.sites in
    record {
      above = λ place. (
        λ e.
            ⊎_elim (λ x. (placed x.0, x.1))
            (⊎_elim (λ x. absurd (omega (arith, numbered x.0))) (⊎_elim (λ x. absurd (omega (arith, numbered x.0))) (λ x. absurd (omega (arith, x.0)))))
            (told h k l (14, place) e),
        λ q. told_14 h k l (above s l q.1) ∙ ap (λ (m : ℕ). some (14, m)) (sym q.0),
      );
      network = λ place. (
        λ e.
            ⊎_elim (λ x. absurd (omega (arith, numbered x.0)))
            (⊎_elim (λ x. (placed x.0, x.1)) (⊎_elim (λ x. absurd (omega (arith, numbered x.0))) (λ x. absurd (omega (arith, x.1)))))
            (told h k l (23, place) e),
        λ q.
            told_23 h k l (within s l (omega (arith, q.1.0)) (omega (arith, q.1.1))) (network s l q.1)
            ∙ ap (λ (m : ℕ). some (23, m)) (sym q.0),
      );
      out_of_order = λ place. (
        λ e.
            ⊎_elim (λ x. absurd (omega (arith, numbered x.0)))
            (⊎_elim (λ x. absurd (omega (arith, numbered x.0))) (⊎_elim (λ x. (placed x.0, x.1)) (λ x. absurd (omega (arith, x.1)))))
            (told h k l (24, place) e),
        λ q.
            told_24 h k l (within s l q.1.1.1 (omega (arith, q.1.1.0, q.1.1.1))) (no_network s l q.1) (out_of_order_lem s l q.1)
            ∙ ap (λ (m : ℕ). some (24, m)) (sym q.0),
      );
    }
  where
    numbered : {q r : ℕ × ℕ} → q ≡ r → q.0 ≡ r.0
    numbered e = ap (λ (q : ℕ × ℕ). q.0) e

    placed : {q r : ℕ × ℕ} → q ≡ r → q.1 ≡ r.1
    placed e = ap (λ (q : ℕ × ℕ). q.1) e

-- the numbers of all other rows
abbrev Other : ℕ → Type 0
Other n = (n ≤ 13) ⊎ ((n ≡ 19) ⊎ (25 ≤ n))

module _ (short wrongLength : Bool) (p : Park) where
  -- what no other row refuses is refused by a line's
  in_lines : {r : ℕ × ℕ} → (Other r.0 → ⊥) → first_broken (rules_of short wrongLength p) ≡ some r → first_broken (each (line_rules p.header) 1 p.lines) ≡ some r
  unfolding rules_with header_rules site_rules generator_rules input_rules
  in_lines apart e =
      let start = start_rules short ++ header_rules wrongLength p.header in
      let sites = each (site_rules p.header) 1 p.sites in
      let lines = each (line_rules p.header) 1 p.lines in
      let generators = each (generator_rules p.header p.sites) 1 p.generators in
      let inputs = each (input_rules p.lines) 1 p.sites in
      ⊎_elim (λ h. absurd (apart (first_says Other start (λ t. inl (lit≤ tt), (λ t. inl (lit≤ tt), (λ t. inl (lit≤ tt), (λ t. inl (lit≤ tt), (λ t. inl (lit≤ tt), (λ t. inl (lit≤ tt), (λ t. inl (lit≤ tt), (λ t. inl (lit≤ tt), (λ t. inr (inr (lit≤ tt)), (λ t. inl (lit≤ tt), tt)))))))))) h)))
      (λ after. ⊎_elim (λ h. absurd (apart (first_says Other sites (each_says Other (site_rules p.header) (λ k x. (λ t. inl (lit≤ tt), (λ t. inl (lit≤ tt), (λ t. inl (lit≤ tt), (λ t. inl (lit≤ tt), tt))))) 1 p.sites) h)))
      (λ after. ⊎_elim (λ h. h)
      (λ after. ⊎_elim (λ h. absurd (apart (first_says Other generators (each_says Other (generator_rules p.header p.sites) (λ k g. (λ t. inr (inr (lit≤ tt)), (λ t. inr (inr (lit≤ tt)), tt))) 1 p.generators) h)))
      (λ h. absurd (apart (first_says Other inputs (each_says Other (input_rules p.lines) (λ k x. (λ t. inr (inl refl), tt)) 1 p.sites) h)))
      (first_part generators inputs after))
      (first_part lines (generators ++ inputs) after))
      (first_part sites (lines ++ (generators ++ inputs)) after))
      (first_part start (sites ++ (lines ++ (generators ++ inputs))) e)

  meant : (Fault : Line → Type 0) {n place : ℕ} → (Other n → ⊥) → ((k : ℕ) (l : Line) → first_broken (line_rules p.header k l) ≡ some (n, place) → (place ≡ k) × Fault l) → first_broken (rules_of short wrongLength p) ≡ some (n, place) → Meant p place Fault
  meant Fault {n} {place} apart line e =
      each_at (line_rules p.header) no_line 1 p.lines (in_lines apart e)
      (λ i inside here.
      let h = line (1 + i) (get_or p.lines i no_line) here in
      record {
        line = (omega (arith, h.0), omega (arith, h.0, inside));
        fault = subst (λ (j : ℕ). Fault (get_or p.lines j no_line)) (omega (arith, h.0)) h.1;
      })

pub ends_meant : EndsMeant
ends_meant short wrongLength p =
    let s = p.header.sites in
    record {
      above = λ place. meant short wrongLength p (EndAbove s) (apart 14 (lit≤ tt) (lit≤ tt) (λ e. omega arith)) (λ k l. ((ends_told p.header k l).above place).0);
      network = λ place. meant short wrongLength p BothNetwork (apart 23 (lit≤ tt) (lit≤ tt) (λ e. omega arith)) (λ k l. ((ends_told p.header k l).network place).0);
      out_of_order = λ place. meant short wrongLength p (OutOfOrder s) (apart 24 (lit≤ tt) (lit≤ tt) (λ e. omega arith)) (λ k l. ((ends_told p.header k l).out_of_order place).0);
    }
  where
    apart : (n : ℕ) → 14 ≤ n → n ≤ 24 → (n ≡ 19 → ⊥) → Other n → ⊥
    apart n high most other = ⊎_elim (λ low. omega arith) (⊎_elim other (λ above. omega arith))

pub file_ends_meant : FileEndsMeant
unfolding refusal file_rules
file_ends_meant file = ends_meant _ _ _
