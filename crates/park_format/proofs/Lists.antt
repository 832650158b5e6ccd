-- Laws of lists: of a list made of its values in order, of the values that pass a test, and of what holds of each value.
-- Assumes nothing.
use Prim.Native.Nat.{ℕ, zero, suc, ◌+◌, ◌<◌}
use native.Mathlib.Nat.{add_assoc, not-suc-le-zero, le_of_suc-le-suc, eq-or-lt_of_le}
use native.Mathlib.Numerals.{add-one}
use native.Mathlib.Omega.{arith}
use mathlib.Core.Logic.{⊎_elim}
use mathlib.Core.Path.{◌≡◌, refl, sym, ap, subst, ◌∙◌}
use mathlib.Core.Bool.{Bool, true, false, ◌&&◌, cond}
use mathlib.Core.List.{List, [], ◌∷◌, ◌++◌}
use lib.ListN.{drop, get_or, length, length-append, get_or-append, take}
use lib.Seq.{drop-drop, ext_get_or, get_or_at, take-add, take-length}
use Rattle.park_format.specs.Park.{list_of, select}
use Rattle.park_format.specs.Rules.{is_empty}
use Rattle.park_format.specs.Accepted.{Every}

module _ {ℓ} {A : Type ℓ} where
  pub length-list_of : (f : ℕ → A) (n : ℕ) → length (list_of f n) ≡ n
  unfolding list_of
  length-list_of f zero = refl
  length-list_of f (suc n) = length-append (list_of f n) (f n ∷ []) ∙ ap (λ (k : ℕ). k + 1) (length-list_of f n) ∙ omega arith

  -- the value at a place of a list made in order
  pub get_or-list_of : (f : ℕ → A) (n : ℕ) (d : A) (i : ℕ) → i < n → get_or (list_of f n) i d ≡ f i
  unfolding list_of
  get_or-list_of f zero d i h = absurd (not-suc-le-zero h)
  get_or-list_of f (suc n) d i h =
      ⊎_elim
      (λ e. ap (λ (k : ℕ). get_or (list_of f n ++ (f n ∷ [])) k d) e ∙ get_or_at (list_of f n) (f n) [] d n (length-list_of f n) ∙ ap f (sym e))
      (λ l. get_or-append (list_of f n) (f n ∷ []) d i (subst (λ (m : ℕ). i < m) (sym (length-list_of f n)) l) ∙ get_or-list_of f n d i l)
      (eq-or-lt_of_le (le_of_suc-le-suc h))

  pub list_of_next : (f : ℕ → A) (n : ℕ) → list_of f (n + 1) ≡ list_of f n ++ (f n ∷ [])
  unfolding list_of
  list_of_next f n = rw add-one

  -- a list is that of its own values
  pub list_of_its : (d : A) (xs : List A) → list_of (λ (i : ℕ). get_or xs i d) (length xs) ≡ xs
  list_of_its d xs =
      let its = λ (i : ℕ). get_or xs i d in
      ext_get_or d (list_of its (length xs)) xs (length-list_of its (length xs))
      (λ i h. get_or-list_of its (length xs) d i (rw (length-list_of its (length xs)) at h))

  pub select-append : (test : A → Bool) (xs ys : List A) → select test (xs ++ ys) ≡ select test xs ++ select test ys
  unfolding select
  select-append test [] ys = refl
  select-append test (x ∷ xs) ys = rw (select-append test xs ys) (split (test x))
    where
      split : (b : Bool) → cond b (x ∷ (select test xs ++ select test ys)) (select test xs ++ select test ys) ≡ cond b (x ∷ select test xs) (select test xs) ++ select test ys
      split true = refl
      split false = refl

  pub is_empty-append : (xs ys : List A) → is_empty (xs ++ ys) ≡ (is_empty xs && is_empty ys)
  is_empty-append [] ys = refl
  is_empty-append (x ∷ xs) ys = refl

  pub every_append : (P : A → Type 0) (xs ys : List A) → Every P (xs ++ ys) → Every P xs × Every P ys
  every_append P [] ys e = (tt, e)
  every_append P (x ∷ xs) ys e = let r = every_append P xs ys e.1 in ((e.0, r.0), r.1)

  pub Every_join : (P : A → Type 0) (xs ys : List A) → Every P xs → Every P ys → Every P (xs ++ ys)
  Every_join P [] ys e f = f
  Every_join P (x ∷ xs) ys e f = (e.0, Every_join P xs ys e.1 f)

  pub Every_snoc : (P : A → Type 0) (xs : List A) (y : A) → Every P xs → P y → Every P (xs ++ (y ∷ []))
  Every_snoc P xs y e h = Every_join P xs (y ∷ []) e (h, tt)

  pub every_map : (P Q : A → Type 0) → ((x : A) → P x → Q x) → (xs : List A) → Every P xs → Every Q xs
  every_map P Q gives [] e = tt
  every_map P Q gives (x ∷ xs) e = (gives x e.0, every_map P Q gives xs e.1)

  -- two things that hold of each value, the second where something holds
  pub Every_both : (P Q : A → Type 0) {C : Type 0} (xs : List A) → Every P xs → (C → Every Q xs) → Every (λ (x : A). P x × (C → Q x)) xs
  Every_both P Q [] e f = tt
  Every_both P Q (x ∷ xs) e f = ((e.0, λ c. (f c).0), Every_both P Q xs e.1 (λ c. (f c).1))

  pub Every_all : {P : A → Type 0} → ((x : A) → P x) → (xs : List A) → Every P xs
  Every_all holds [] = tt
  Every_all holds (x ∷ xs) = (holds x, Every_all holds xs)

  -- what holds of each value of a list, and of what stands past its end, holds at every place
  pub Every-get_or : (P : A → Type 0) (d : A) → P d → (xs : List A) → Every P xs → (i : ℕ) → P (get_or xs i d)
  Every-get_or P d h [] e i = h
  Every-get_or P d h (x ∷ xs) e zero = e.0
  Every-get_or P d h (x ∷ xs) e (suc i) = Every-get_or P d h xs e.1 i

  pub Every-list_of : (P : A → Type 0) (f : ℕ → A) (n : ℕ) → ((i : ℕ) → i < n → P (f i)) → Every P (list_of f n)
  unfolding list_of
  Every-list_of P f zero h = tt
  Every-list_of P f (suc n) h = Every_snoc P (list_of f n) (f n) (Every-list_of P f n (λ i l. h i (omega arith))) (h n (omega arith))

  -- what holds of each value of a list made in order holds of the value at each place
  pub Every_at : (P : A → Type 0) (f : ℕ → A) (n : ℕ) → Every P (list_of f n) → (i : ℕ) → i < n → P (f i)
  unfolding list_of
  Every_at P f zero e i h = absurd (not-suc-le-zero h)
  Every_at P f (suc n) e i h =
      let r = every_append P (list_of f n) (f n ∷ []) e in
      ⊎_elim (λ q. subst (λ (k : ℕ). P (f k)) (sym q) r.1.0) (λ l. Every_at P f n r.0 i l) (eq-or-lt_of_le (le_of_suc-le-suc h))

  -- a list in three parts
  pub three_parts : (l : List A) (i j k : ℕ) → i + j + k ≡ length l → take i l ++ (take j (drop i l) ++ take k (drop (i + j) l)) ≡ l
  three_parts l i j k all =
      ap (λ (part : List A). take i l ++ (take j (drop i l) ++ take k part)) (sym (drop-drop j i l))
      ∙ ap (λ (rest : List A). take i l ++ rest) (sym (take-add j k (drop i l)))
      ∙ sym (take-add i (j + k) l)
      ∙ ap (λ (n : ℕ). take n l) (sym (add_assoc i j k) ∙ all)
      ∙ take-length l

  -- and in four
  pub four_parts : (l : List A) (i j k m : ℕ) → i + j + k + m ≡ length l → take i l ++ (take j (drop i l) ++ (take k (drop (i + j) l) ++ take m (drop (i + j + k) l))) ≡ l
  four_parts l i j k m all =
      ap (λ (part : List A). take i l ++ (take j (drop i l) ++ (take k (drop (i + j) l) ++ take m part))) (sym (drop-drop k (i + j) l))
      ∙ ap (λ (rest : List A). take i l ++ (take j (drop i l) ++ rest)) (sym (take-add k m (drop (i + j) l)))
      ∙ three_parts l i j (k + m) (sym (add_assoc (i + j) k m) ∙ all)
