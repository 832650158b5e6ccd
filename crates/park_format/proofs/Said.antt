-- What is said of a refusal's number: by the rows of a table, and by the rule of a call, which comes last.
-- Assumes nothing.
use Prim.Native.Nat.{ℕ, suc, ◌≤◌}
use native.Mathlib.Omega.{arith}
use mathlib.Core.Logic.{⊎_elim, ◌↔◌, ◌⊎◌, inl, inr}
use mathlib.Core.Path.{◌≡◌, refl, sym, ap, subst, ◌∙◌}
use mathlib.Core.Bool.{Bool, true, false, cond, ◌&&◌, ◌||◌, true≢false}
use mathlib.Core.List.{List, [], ◌∷◌, ◌++◌}
use mathlib.Core.Option.{Option, none, some}
use borrow.Author.Tests.{eqb-false, leb-true}
use lib.Dec.{eqb, leb, lit≤}
use lib.ListN.{take}
use Rattle.park_format.specs.Accepted.{Every}
use Rattle.park_format.specs.Call.{answer, refusal_with, unless_refused}
use Rattle.park_format.specs.Park.{Park}
use Rattle.park_format.specs.Rules.{Row, each, first_broken, generator_rules, header_rules, input_rules, line_rules, OfTable, rules_of, rules_with, site_rules, start_rules}
use Rattle.park_format.specs.Rules.Row.{rule}
use Rattle.park_format.specs.declared.header.Header.{Header}
use Rattle.park_format.proofs.Call.{call_allows, call_refuses, rules_first}
use Rattle.park_format.proofs.Lists.{Every_join}
use Rattle.park_format.proofs.Rules.{first_append, first_none, first_stays}
use Rattle.park_format.proofs.Tests.{and_both}

-- one of the table's numbers, by looking at it
listed : (n : ℕ) → ((leb 1 n && leb n 19) || (leb 23 n && leb n 27)) ≡ true → OfTable n
listed n e = by (leb 1 n && leb n 19) refl
  where
    by : (b : Bool) → (leb 1 n && leb n 19) ≡ b → OfTable n
    by true q = let h = and_both (leb 1 n) (leb n 19) q in inl (leb-true 1 n h.0, leb-true n 19 h.1)
    by false q =
        let h = and_both (leb 23 n) (leb n 27) (ap (λ (b : Bool). b || (leb 23 n && leb n 27)) (sym q) ∙ e) in
        inr (leb-true 23 n h.0, leb-true n 27 h.1)

module _ (P : ℕ → Type 0) where
  -- P holds of the row's number, if the row is broken
  abbrev pub Says : Row → Type 0
  Says (rule n place b) = b ≡ true → P n

  pub first_says : (rows : List Row) → Every Says rows → {r : ℕ × ℕ} → first_broken rows ≡ some r → P r.0
  unfolding first_broken
  first_says [] says e = let z : ◌≡◌ {A = ℕ} 0 1 = cc in absurd (omega arith)
  first_says (rule n place true ∷ rows) says {r} e =
      let same : (n, place) ≡ r = cc in
      subst (λ (q : ℕ × ℕ). P q.0) same (says.0 refl)
  first_says (rule n place false ∷ rows) says e = first_says rows says.1 e

  pub each_says : {A : Type 0} (g : ℕ → A → List Row) → ((k : ℕ) (x : A) → Every Says (g k x)) → (k : ℕ) (xs : List A) → Every Says (each g k xs)
  unfolding each
  each_says g says k [] = tt
  each_says g says k (x ∷ xs) = Every_join Says (g k x) (each g (suc k) xs) (says k x) (each_says g says (suc k) xs)

  -- a whole table: what P says of 1, of the header's rows, of the generators', and of the other rows from 10 on
  pub table_says : (short wrongLength : Bool) (p : Park) → (short ≡ true → P 1) → Every Says (header_rules wrongLength p.header) → Every Says (each (generator_rules p.header p.sites) 1 p.generators) → ((n : ℕ) → 10 ≤ n → n ≤ 24 → OfTable n → P n) → Every Says (rules_of short wrongLength p)
  unfolding rules_with site_rules line_rules input_rules
  table_says short wrongLength p one header ofGenerators rest =
      let sites = each (site_rules p.header) 1 p.sites in
      let lines = each (line_rules p.header) 1 p.lines in
      let generators = each (generator_rules p.header p.sites) 1 p.generators in
      let inputs = each (input_rules p.lines) 1 p.sites in
      Every_join Says (start_rules short ++ header_rules wrongLength p.header) (sites ++ (lines ++ (generators ++ inputs))) (one, header)
      (Every_join Says sites (lines ++ (generators ++ inputs))
      (each_says (site_rules p.header) (λ k x. (λ e. rest _ (lit≤ tt) (lit≤ tt) (listed _ refl), (λ e. rest _ (lit≤ tt) (lit≤ tt) (listed _ refl), (λ e. rest _ (lit≤ tt) (lit≤ tt) (listed _ refl), (λ e. rest _ (lit≤ tt) (lit≤ tt) (listed _ refl), tt))))) 1 p.sites)
      (Every_join Says lines (generators ++ inputs)
      (each_says (line_rules p.header) (λ k l. (λ e. rest _ (lit≤ tt) (lit≤ tt) (listed _ refl), (λ e. rest _ (lit≤ tt) (lit≤ tt) (listed _ refl), (λ e. rest _ (lit≤ tt) (lit≤ tt) (listed _ refl), (λ e. rest _ (lit≤ tt) (lit≤ tt) (listed _ refl), (λ e. rest _ (lit≤ tt) (lit≤ tt) (listed _ refl), (λ e. rest _ (lit≤ tt) (lit≤ tt) (listed _ refl), (λ e. rest _ (lit≤ tt) (lit≤ tt) (listed _ refl), tt)))))))) 1 p.lines)
      (Every_join Says generators inputs ofGenerators
      (each_says (input_rules p.lines) (λ k x. (λ e. rest _ (lit≤ tt) (lit≤ tt) (listed _ refl), tt)) 1 p.sites))))

-- the table's refusals have the table's numbers
pub first_own : (short wrongLength : Bool) (p : Park) {r : ℕ × ℕ} → first_broken (rules_of short wrongLength p) ≡ some r → OfTable r.0
unfolding header_rules generator_rules
first_own short wrongLength p e =
    first_says OfTable (rules_of short wrongLength p)
    (table_says OfTable short wrongLength p (λ e. listed _ refl)
    (λ e. listed _ refl, (λ e. listed _ refl, (λ e. listed _ refl, (λ e. listed _ refl, (λ e. listed _ refl, (λ e. listed _ refl, (λ e. listed _ refl, (λ e. listed _ refl, (λ e. listed _ refl, tt)))))))))
    (each_says OfTable (generator_rules p.header p.sites) (λ k g. (λ e. listed _ refl, (λ e. listed _ refl, tt))) 1 p.generators)
    (λ n low high own. own))
    e

-- none of them is 0, nor that of a call
pub own_positive : (n : ℕ) → OfTable n → 1 ≤ n
own_positive n = ⊎_elim (λ h. h.0) (λ h. omega arith)

pub no_call : (n : ℕ) → 20 ≤ n → n ≤ 22 → OfTable n → ⊥
no_call n low high = ⊎_elim (λ h. omega arith) (λ h. omega arith)

-- 9 is the last rule of the header: a broken one before it is the first, and has another number; else it is 9 that decides
module _ (h : Header) (wrongLength : Bool) where
  abbrev before_length : List Row
  before_length = take 8 (header_rules false h)

  apart : (n : ℕ) → eqb n 9 ≡ false → n ≡ 9 → ⊥
  apart n e = eqb-false n 9 e

  pub before_nine : {r : ℕ × ℕ} → first_broken (header_rules false h) ≡ some r → (first_broken (header_rules wrongLength h) ≡ some r) × (r.0 ≡ 9 → ⊥)
  unfolding header_rules first_broken
  before_nine {r} e = (by (first_broken before_length) refl, other)
    where
      other : r.0 ≡ 9 → ⊥
      other =
          first_says (λ (n : ℕ). n ≡ 9 → ⊥) (header_rules false h)
          (λ e. apart 2 refl, (λ e. apart 3 refl, (λ e. apart 4 refl, (λ e. apart 5 refl, (λ e. apart 6 refl, (λ e. apart 7 refl, (λ e. apart 8 refl, (λ e. apart 25 refl, (λ e. absurd (true≢false (sym e)), tt))))))))) e

      by : (o : Option (ℕ × ℕ)) → first_broken before_length ≡ o → first_broken (header_rules wrongLength h) ≡ some r
      by none kept =
          let passed = first_append before_length (rule 9 0 false ∷ []) kept in
          let z : ◌≡◌ {A = ℕ} 0 1 = cc in
          absurd (omega arith)
      by (some q) own = first_stays before_length (rule 9 0 wrongLength ∷ []) own ∙ sym (first_stays before_length (rule 9 0 false ∷ []) own) ∙ e

  pub nine_decides : first_broken (header_rules false h) ≡ none → wrongLength ≡ true → first_broken (header_rules wrongLength h) ≡ some (9, 0)
  unfolding header_rules first_broken
  nine_decides kept wrong =
      first_append before_length (rule 9 0 wrongLength ∷ []) (first_none before_length (rule 9 0 false ∷ []) kept).0
      ∙ ap (λ (b : Bool). cond b (some (9, 0)) none) wrong

-- a call's refusal is that of what is given, or that of the call's rule, which is broken
module _ (rules : List Row) (n : ℕ) {A : Type 0} (value : A) (r : ℕ × ℕ) where
  by_call : (b : Bool) → first_broken rules ≡ none → answer (refusal_with rules (rule n 0 b)) value ≡ inl r → (b ≡ true) × (r ≡ (n, 0))
  by_call true kept e = let said = ap (λ refused. answer refused value) (call_refuses rules n 0 true kept refl) in (refl, cc)
  by_call false kept e =
      let allowed = ap (λ refused. answer refused value) (call_allows rules n 0 false kept refl) in
      let z : ◌≡◌ {A = ℕ} 0 1 = cc in
      absurd (omega arith)

  pub refused_by : (b : Bool) → answer (refusal_with rules (rule n 0 b)) value ≡ inl r → (first_broken rules ≡ some r) ⊎ ((first_broken rules ≡ none) × ((b ≡ true) × (r ≡ (n, 0))))
  refused_by b e = by (first_broken rules) refl
    where
      by : (o : Option (ℕ × ℕ)) → first_broken rules ≡ o → (first_broken rules ≡ some r) ⊎ ((first_broken rules ≡ none) × ((b ≡ true) × (r ≡ (n, 0))))
      by none kept = inr (kept, by_call b kept e)
      by (some q) own =
          let said = ap (λ refused. answer refused value) (rules_first rules (rule n 0 b) (sym own)) in
          let same : q ≡ r = cc in
          inl (own ∙ ap some same)

-- where no row has the call's number, it is said exactly when the rows are kept and the call's own rule is broken
pub said_exactly : (rules : List Row) (n place : ℕ) → ((r : ℕ × ℕ) → first_broken rules ≡ some r → r.0 ≡ n → ⊥) → {A : Type 0} (value : A) (b : Bool) → (answer (refusal_with rules (rule n 0 b)) value ≡ inl (n, place)) ↔ ((place ≡ 0) × ((first_broken rules ≡ none) × (b ≡ true)))
said_exactly rules n place other value b = (
  λ e.
      ⊎_elim (λ own. absurd (other (n, place) own refl))
      (λ last. (ap (λ (q : ℕ × ℕ). q.1) last.1.1, (last.0, last.1.0)))
      (refused_by rules n value (n, place) b e),
  λ h. ap (λ refused. answer refused value) (call_refuses rules n 0 b h.1.0 h.1.1) ∙ ap (λ (m : ℕ). inl (n, m)) (sym h.0),
)

-- a refusal leaves a list as it was
pub refused_keeps : (o : Option (ℕ × ℕ)) {A : Type 0} (value : A) (r : ℕ × ℕ) (written before : List ℕ) → answer o value ≡ inl r → unless_refused o written before ≡ before
refused_keeps none value r written before e = let z : ◌≡◌ {A = ℕ} 0 1 = cc in absurd (omega arith)
refused_keeps (some q) value r written before e = refl
