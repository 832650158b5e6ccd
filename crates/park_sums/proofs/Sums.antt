-- Laws of sums over a list: of two lists together, of the values that pass a test, and of values that are bounded.
-- Assumes nothing.
use Prim.Native.Nat.{ℕ, suc, ◌+◌, ◌*◌, ◌≤◌, zero-le}
use native.Mathlib.Nat.{mul-suc, add_comm, add-le-add, le_trans, mul-le-mul_left}
use native.Mathlib.Omega.{arith}
use mathlib.Core.Path.{◌≡◌, refl, ap, ap₂, ◌∙◌}
use mathlib.Core.Bool.{Bool, true, false, cond, ◌&&◌}
use mathlib.Core.List.{List, [], ◌∷◌, ◌++◌}
use lib.ListN.{length}
use Rattle.park_format.proofs.Lists.{every_map}
use Rattle.park_sums.specs.Sums.{sum_by, all_of}
use Rattle.park_sums.specs.Inner.Rows.{when}
use Rattle.park_format.specs.Park.{select}
use Rattle.park_format.specs.Accepted.{Every}

module _ {ℓ} {A : Type ℓ} where
  pub sum_by-append : (f : A → ℕ) (xs ys : List A) → sum_by f (xs ++ ys) ≡ sum_by f xs + sum_by f ys
  unfolding sum_by
  sum_by-append f [] ys = omega arith
  sum_by-append f (x ∷ xs) ys = omega (arith, sum_by-append f xs ys)

  -- one value more at the end
  pub sum_by_snoc : (f : A → ℕ) (xs : List A) (y : A) → sum_by f (xs ++ (y ∷ [])) ≡ sum_by f xs + f y
  unfolding sum_by
  sum_by_snoc f xs y = sum_by-append f xs (y ∷ []) ∙ omega arith

  pub sum_by-select : (f : A → ℕ) (test : A → Bool) (xs : List A) → sum_by f (select test xs) ≡ sum_by (λ (x : A). when (test x) (f x)) xs
  unfolding sum_by select
  sum_by-select f test [] = refl
  sum_by-select f test (x ∷ xs) = by (sum_by-select f test xs) (test x)
    where
      by : sum_by f (select test xs) ≡ sum_by (λ (y : A). when (test y) (f y)) xs → (b : Bool) → sum_by f (cond b (x ∷ select test xs) (select test xs)) ≡ when b (f x) + sum_by (λ (y : A). when (test y) (f y)) xs
      by e true = ap (λ (n : ℕ). f x + n) e
      by e false = e ∙ omega arith

  -- of values that are equal on each, that add up, that are 0, and that are 1
  pub sum_by_cong : (P : A → Type 0) (f g : A → ℕ) → ((x : A) → P x → f x ≡ g x) → (xs : List A) → Every P xs → sum_by f xs ≡ sum_by g xs
  unfolding sum_by
  sum_by_cong P f g e [] h = refl
  sum_by_cong P f g e (x ∷ xs) h = ap₂ ◌+◌ (e x h.0) (sum_by_cong P f g e xs h.1)

  pub sum_by-add : (f g : A → ℕ) (xs : List A) → sum_by (λ (x : A). f x + g x) xs ≡ sum_by f xs + sum_by g xs
  unfolding sum_by
  sum_by-add f g [] = refl
  sum_by-add f g (x ∷ xs) = omega (arith, sum_by-add f g xs)

  pub sum_by_none : (xs : List A) → sum_by (λ (x : A). 0) xs ≡ 0
  unfolding sum_by
  sum_by_none [] = refl
  sum_by_none (x ∷ xs) = omega (arith, sum_by_none xs)

  pub sum_by_one : (xs : List A) → sum_by (λ (x : A). 1) xs ≡ length xs
  unfolding sum_by
  sum_by_one [] = refl
  sum_by_one (x ∷ xs) = omega (arith, sum_by_one xs)

  pub sum_by_le : (f : A → ℕ) (most : ℕ) (xs : List A) → Every (λ (x : A). f x ≤ most) xs → sum_by f xs ≤ most * length xs
  unfolding sum_by
  sum_by_le f most [] e = zero-le
  sum_by_le f most (x ∷ xs) e = rw (mul-suc, add_comm (most * length xs) most) (add-le-add e.0 (sum_by_le f most xs e.1))

  pub Every-select : (P : A → Type 0) (test : A → Bool) (xs : List A) → Every P xs → Every P (select test xs)
  unfolding select
  Every-select P test [] e = tt
  Every-select P test (x ∷ xs) e = by (Every-select P test xs e.1) (test x)
    where
      by : Every P (select test xs) → (b : Bool) → Every P (cond b (x ∷ select test xs) (select test xs))
      by rest true = (e.0, rest)
      by rest false = rest

  pub length-select : (test : A → Bool) (xs : List A) → length (select test xs) ≤ length xs
  unfolding select
  length-select test [] = zero-le
  length-select test (x ∷ xs) = by (length-select test xs) (test x)
    where
      by : length (select test xs) ≤ length xs → (b : Bool) → length (cond b (x ∷ select test xs) (select test xs)) ≤ suc (length xs)
      by rest true = omega arith
      by rest false = omega arith

  -- a sum over the values that pass a test, of a list of at most so many values that are each bounded
  pub sum_small : (P : A → Type 0) (f : A → ℕ) (most : ℕ) → ((x : A) → P x → f x ≤ most) → (test : A → Bool) (xs : List A) → Every P xs → {n : ℕ} → length xs ≤ n → sum_by f (select test xs) ≤ most * n
  sum_small P f most small test xs e h =
      le_trans (sum_by_le f most (select test xs) (Every-select (λ (x : A). f x ≤ most) test xs (every_map P (λ (x : A). f x ≤ most) small xs e)))
      (mul-le-mul_left most (le_trans (length-select test xs) h))

  -- all of two lists pass a test where all of each do, and one value more
  pub all_append : (test : A → Bool) (xs ys : List A) → all_of test (xs ++ ys) ≡ (all_of test xs && all_of test ys)
  unfolding all_of
  all_append test [] ys = refl
  all_append test (x ∷ xs) ys = ap (λ (b : Bool). test x && b) (all_append test xs ys) ∙ and_assoc (test x) (all_of test xs) (all_of test ys)
    where
      and_assoc : (a b d : Bool) → (a && (b && d)) ≡ ((a && b) && d)
      and_assoc true b d = refl
      and_assoc false b d = refl

  pub all_snoc : (test : A → Bool) (xs : List A) (y : A) → all_of test (xs ++ (y ∷ [])) ≡ (all_of test xs && test y)
  unfolding all_of
  all_snoc test xs y = all_append test xs (y ∷ []) ∙ ap (λ (b : Bool). all_of test xs && b) (and-true (test y))
    where
      and-true : (b : Bool) → (b && true) ≡ b
      and-true true = refl
      and-true false = refl
