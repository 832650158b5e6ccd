-- Laws of the rule table: how the first broken row of a list is found part by part.
-- Assumes nothing.
use Prim.Native.Nat.{ℕ, suc, ◌+◌, ◌≤◌, ◌<◌}
use native.Mathlib.Nat.{add-zero, suc-add, add-suc}
use native.Mathlib.Decide.{le_ind}
use native.Mathlib.Numerals.{add-one}
use native.Mathlib.Omega.{arith}
use mathlib.Core.Logic.{⊎_elim, ◌⊎◌, inl, inr}
use mathlib.Core.Path.{◌≡◌, refl, sym, ap, ◌∙◌}
use mathlib.Core.Bool.{Bool, true, false}
use mathlib.Core.List.{List, [], ◌∷◌, ◌++◌, append_assoc, append-nil}
use mathlib.Core.Option.{Option, none, some}
use lib.Dec.{eqb, ltb}
use lib.ListN.{drop, drop_of_length-le, get_or, length}
use lib.Seq.{drop-cons}
use borrow.Author.Tests.{eqb-false, ltb-false}
use Rattle.park_format.specs.Park.{list_of}
use Rattle.park_format.specs.Rules.{Row, first_broken, each, zero_or_above}
use Rattle.park_format.specs.Rules.Row.{rule}
use Rattle.park_format.proofs.Tests.{or-false}
use Rattle.park_format.proofs.Lists.{length-list_of}

-- two refusals that are alike
pub same_refusal : {q r : ℕ × ℕ} → some q ≡ some r → q ≡ r
same_refusal e = cc

-- the rows of a list before the rest are passed: what is broken first is in the rest
pub record After (rows rest : List Row) : Type 0 where
  pub same : first_broken rows ≡ first_broken rest

-- the next row is broken, or is passed too, or there is none
pub row_broken : {rows rest : List Row} {n p : ℕ} {b : Bool} → After rows (rule n p b ∷ rest) → b ≡ true → some (n, p) ≡ first_broken rows
unfolding first_broken
row_broken a e = sym (a.same ∙ rw e)

pub row_passed : {rows rest : List Row} {n p : ℕ} {b : Bool} → After rows (rule n p b ∷ rest) → b ≡ false → After rows rest
unfolding first_broken
row_passed a e = record { same = a.same ∙ rw e }

pub no_rows : {rows : List Row} → After rows [] → none ≡ first_broken rows
unfolding first_broken
no_rows a = sym a.same

-- the first of two lists that has a broken row says which
pub first_append : (xs ys : List Row) → first_broken xs ≡ none → first_broken (xs ++ ys) ≡ first_broken ys
unfolding first_broken
first_append [] ys e = refl
first_append (rule n p true ∷ xs) ys e = cc
first_append (rule n p false ∷ xs) ys e = first_append xs ys e

pub first_stays : (xs ys : List Row) {r : ℕ × ℕ} → first_broken xs ≡ some r → first_broken (xs ++ ys) ≡ some r
unfolding first_broken
first_stays [] ys e = cc
first_stays (rule n p true ∷ xs) ys e = e
first_stays (rule n p false ∷ xs) ys e = first_stays xs ys e

-- it is in one of them
pub first_part : (xs ys : List Row) {r : ℕ × ℕ} → first_broken (xs ++ ys) ≡ some r → (first_broken xs ≡ some r) ⊎ (first_broken ys ≡ some r)
unfolding first_broken
first_part [] ys e = inr e
first_part (rule n p true ∷ xs) ys e = inl e
first_part (rule n p false ∷ xs) ys e = first_part xs ys e

-- where neither list has a broken row
pub first_none : (xs ys : List Row) → first_broken (xs ++ ys) ≡ none → (first_broken xs ≡ none) × (first_broken ys ≡ none)
unfolding first_broken
first_none [] ys e = (refl, e)
first_none (rule n p true ∷ xs) ys e = (e, cc)
first_none (rule n p false ∷ xs) ys e = first_none xs ys e

module _ {ℓ} {A : Type ℓ} (g : ℕ → A → List Row) where
  each_append : (k : ℕ) (xs : List A) (y : A) → each g k (xs ++ (y ∷ [])) ≡ each g k xs ++ g (k + length xs) y
  unfolding each
  each_append k [] y = rw (add-zero, append-nil)
  each_append k (x ∷ xs) y = rw (each_append (suc k) xs y, append_assoc, suc-add, add-suc)

  -- a refusal by the rules of each record is that of one of them, which stands at i, counted from 0
  pub each_at : (d : A) (k : ℕ) (xs : List A) {r : ℕ × ℕ} {Q : Type 0} → first_broken (each g k xs) ≡ some r → ((i : ℕ) → i < length xs → first_broken (g (k + i) (get_or xs i d)) ≡ some r → Q) → Q
  unfolding each first_broken
  each_at d k [] e at = let z : ◌≡◌ {A = ℕ} 0 1 = cc in absurd (omega arith)
  each_at d k (x ∷ xs) {r} e at =
      ⊎_elim (λ here. at 0 (omega arith) (rw add-zero here))
      (λ later. each_at d (suc k) xs later (λ i inside here. at (suc i) (omega arith) (rw (add-suc k i, sym (suc-add k i)) here)))
      (first_part (g k x) (each g (suc k) xs) e)

  -- the records of a list from the n-th on, counted from 0: what is broken first among them
  module _ (d : A) (xs : List A) where
    abbrev pub rest_from : ℕ → Option (ℕ × ℕ)
    rest_from n = first_broken (each g (suc n) (drop n xs))

    rest_next : (n : ℕ) → n < length xs → each g (suc n) (drop n xs) ≡ g (suc n) (get_or xs n d) ++ each g (suc (suc n)) (drop (suc n) xs)
    unfolding each
    rest_next n inside = rw (drop-cons xs n d inside) refl

    -- that record breaks no rule, or it refuses
    pub rest_turn : (n : ℕ) {x : A} → n < length xs → x ≡ get_or xs n d → none ≡ first_broken (g (n + 1) x) → rest_from (n + 1) ≡ rest_from n
    rest_turn n {x} inside read kept =
        rw add-one (sym (ap first_broken (rest_next n inside) ∙ first_append (g (suc n) (get_or xs n d)) _ (rw (← read, ← (add-one n)) (sym kept))))

    pub rest_refused : (n : ℕ) {x : A} {r : ℕ × ℕ} → n < length xs → x ≡ get_or xs n d → some r ≡ first_broken (g (n + 1) x) → some r ≡ rest_from n
    rest_refused n {x} inside read broken =
        sym (ap first_broken (rest_next n inside) ∙ first_stays (g (suc n) (get_or xs n d)) _ (rw (← read, ← (add-one n)) (sym broken)))

    -- after the last there is none
    pub rest_none : (n : ℕ) → length xs ≤ n → none ≡ rest_from n
    unfolding each first_broken
    rest_none n all = rw (drop_of_length-le xs all) refl

  -- the rules of the first n records of a file, read by f
  module _ (f : ℕ → A) where
    abbrev pub up_to : ℕ → Option (ℕ × ℕ)
    up_to n = first_broken (each g 1 (list_of f n))

    up_to_suc : (n : ℕ) → each g 1 (list_of f (suc n)) ≡ each g 1 (list_of f n) ++ g (suc n) (f n)
    unfolding list_of
    up_to_suc n =
        let e = length-list_of f n in
        each_append 1 (list_of f n) (f n) ∙ ap (λ (k : ℕ). each g 1 (list_of f n) ++ g k (f n)) (omega arith)

    pub up_to_zero : up_to 0 ≡ none
    unfolding list_of each first_broken
    up_to_zero = refl

    pub up_to_next : (n : ℕ) → up_to n ≡ none → up_to (suc n) ≡ first_broken (g (suc n) (f n))
    up_to_next n e = ap first_broken (up_to_suc n) ∙ first_append (each g 1 (list_of f n)) (g (suc n) (f n)) e

    pub up_to_stays : (n m : ℕ) {r : ℕ × ℕ} → n ≤ m → up_to n ≡ some r → up_to m ≡ some r
    up_to_stays n m {r} h e =
        le_ind (λ (k : ℕ). up_to k ≡ some r) e
        (λ k l d. ap first_broken (up_to_suc k) ∙ first_stays (each g 1 (list_of f k)) (g (suc k) (f k)) d) m h

pub within : (most x : ℕ) → zero_or_above most x ≡ false → (1 ≤ x) × (x ≤ most)
within most x e =
    let h = or-false (eqb x 0) (ltb most x) e in
    let above = ltb-false most x h.1 in
    let zero = eqb-false x 0 h.0 in
    omega arith
