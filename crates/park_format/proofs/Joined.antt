-- Records of one size, written one after the other into a list, and read from it by their index.
-- Assumes nothing.
use Prim.Native.Nat.{ℕ, zero, suc, ◌+◌, ◌*◌, ◌<◌}
use native.Mathlib.Nat.{add-zero, mul-suc, mul-zero, not-suc-le-zero, le_of_suc-le-suc}
use native.Mathlib.Omega.{arith}
use mathlib.Core.Path.{◌≡◌, sym, ap, ap₂, ◌∙◌}
use mathlib.Core.List.{List, [], ◌∷◌, ◌++◌, append_assoc, append-nil}
use lib.ListN.{length, get_or, take, drop, length-append}
use lib.Seq.{drop-drop, ext_get_or, take-add}
use Rattle.park_format.specs.Accepted.{Every}
use Rattle.park_format.specs.Inner.Stored.{Stored}
use Rattle.park_format.specs.Made.{joined}
use Rattle.park_format.specs.Park.{list_of}
use Rattle.park_format.proofs.Lists.{Every_join, get_or-list_of, length-list_of, list_of_next}
use Rattle.park_format.proofs.Stores.{none_stored, then_stored}

module _ {A : Type 0} (writes : A → List ℕ) where
  pub joined-append : (xs : List A) (y : A) → joined writes (xs ++ (y ∷ [])) ≡ joined writes xs ++ writes y
  unfolding joined
  joined-append [] y = append-nil (writes y)
  joined-append (x ∷ xs) y = rw (joined-append xs y, append_assoc)

  pub joined_next : (f : ℕ → A) (n : ℕ) → joined writes (list_of f (n + 1)) ≡ joined writes (list_of f n) ++ writes (f n)
  joined_next f n = ap (joined writes) (list_of_next f n) ∙ joined-append (list_of f n) (f n)

  -- what holds of all that is written of each value
  pub Every-joined : (P : ℕ → Type 0) (xs : List A) → Every (λ (x : A). Every P (writes x)) xs → Every P (joined writes xs)
  unfolding joined
  Every-joined P [] e = tt
  Every-joined P (x ∷ xs) e = Every_join P (writes x) (joined writes xs) e.0 (Every-joined P xs e.1)

  module _ (size : ℕ) where
    pub length-joined : ((x : A) → length (writes x) ≡ size) → (xs : List A) → length (joined writes xs) ≡ size * length xs
    unfolding joined
    length-joined sized [] = rw mul-zero
    length-joined sized (x ∷ xs) = rw (length-append, sized x, length-joined sized xs, mul-suc) (omega arith)

    -- what is written of values that are read from a list is what stands there
    pub joined_read : (l : List ℕ) (at : ℕ) (f : ℕ → A) (n : ℕ) → ((i : ℕ) → i < n → writes (f i) ≡ take size (drop (at + size * i) l)) → joined writes (list_of f n) ≡ take (size * n) (drop at l)
    unfolding joined list_of
    joined_read l at f zero reads = rw mul-zero
    joined_read l at f (suc n) reads =
        joined-append (list_of f n) (f n)
        ∙ ap₂ ◌++◌ (joined_read l at f n (λ i h. reads i (omega arith))) (reads n (omega arith))
        ∙ rw (mul-suc, take-add, drop-drop)

    module _ (reads : List ℕ → ℕ → A) where
      -- a value that is read back wherever it is written
      pub record Back (x : A) : Type 0 where
        pub fits : length (writes x) ≡ size
        pub back : (pre post : List ℕ) → reads (pre ++ (writes x ++ post)) (length pre) ≡ x

      back_at : (d : A) (xs : List A) (i : ℕ) (pre post : List ℕ) → Every Back xs → i < length xs → reads (pre ++ (joined writes xs ++ post)) (length pre + size * i) ≡ get_or xs i d
      unfolding joined
      back_at d [] i pre post b h = absurd (not-suc-le-zero h)
      back_at d (x ∷ xs) zero pre post b h = rw (mul-zero, add-zero, append_assoc) (b.0.back pre (joined writes xs ++ post))
      back_at d (x ∷ xs) (suc i) pre post b h =
          let place : length (pre ++ writes x) + size * i ≡ length pre + size * suc i = rw (length-append, b.0.fits, mul-suc) (omega arith) in
          rw (← place, append_assoc, ← (append_assoc pre (writes x) (joined writes xs ++ post))) (back_at d xs i (pre ++ writes x) post b.1 (le_of_suc-le-suc h))

      -- and so are all the values of a list
      pub all_back : (d : A) (xs : List A) (pre post : List ℕ) → Every Back xs → (f : ℕ → A) → ((i : ℕ) → f i ≡ reads (pre ++ (joined writes xs ++ post)) (length pre + size * i)) → (n : ℕ) → length xs ≡ n → list_of f n ≡ xs
      all_back d xs pre post b f e n count =
          ext_get_or d (list_of f n) xs (length-list_of f n ∙ sym count)
          (λ i h. get_or-list_of f n d i (rw (length-list_of f n) at h) ∙ e i ∙ back_at d xs i pre post b (rw (length-list_of f n, ← count) at h))

    -- stored one after the other, from a position on
    module _ (sized : (x : A) → length (writes x) ≡ size) (f : ℕ → A) where
      pub nothing_joined : (at : ℕ) (a : List ℕ) → Stored (joined writes (list_of f 0)) at a a
      unfolding joined list_of
      nothing_joined at a = none_stored at a

      pub next_joined : (n at : ℕ) {a b c : List ℕ} → Stored (joined writes (list_of f n)) at a b → Stored (writes (f n)) (at + size * n) b c → Stored (joined writes (list_of f (n + 1))) at a c
      next_joined n at p q =
          let count = length-joined sized (list_of f n) ∙ ap (λ (k : ℕ). size * k) (length-list_of f n) in
          rw (joined_next f n) (then_stored p (ap (λ (k : ℕ). at + k) count) q)
