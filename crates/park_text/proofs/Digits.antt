-- Laws of a number in decimal: its first digits are those of its tenth, it is as std prints it, and how many digits it has.
-- Assumes nothing.
use Prim.Native.Nat.{ℕ, zero, suc, ◌/◌, ◌%◌, ◌^◌, ◌≤◌, ◌<◌}
use native.Mathlib.Nat.{pow-suc, div-lt_iff_lt-mul}
use native.Mathlib.Omega.{arith}
use mathlib.Core.Logic.{⊎_elim}
use mathlib.Core.Path.{◌≡◌, sym, ap, ◌∙◌}
use mathlib.Core.List.{List, [], ◌∷◌, ◌++◌}
use borrow.Author.Tests.{lt-ltb, le-ltb}
use lib.ListN.{length, length-append}
use Rattle.std.specs.Fmt.{decimal as printed}
use Rattle.std.proofs.lemmas.Bool.{cases_lt}
use Rattle.std.proofs.lemmas.Fmt.{decimal_from_appends, length-decimal-le_succ}
use Rattle.park_text.specs.Text.{decimal, digit, digits_within}

pub small_within : (most n : ℕ) → n < 10 → digits_within (suc most) n ≡ digit n ∷ []
unfolding digits_within
small_within most n small = rw (lt-ltb n 10 small)

pub more_within : (most n : ℕ) → 10 ≤ n → digits_within (suc most) n ≡ digits_within most (n / 10) ++ (digit (n % 10) ∷ [])
unfolding digits_within
more_within most n more = rw (le-ltb n 10 more)

-- std prints a number of at most 64 bits in the same digits
pub std_decimal : (n : ℕ) → n < 2 ^ 64 → printed n ≡ decimal n
unfolding decimal
std_decimal n word = sym (decimal_from_appends digits_within (record { one = small_within; more = more_within }) (suc n) n word (omega (arith, length-decimal-le_succ n word)))

-- it does not matter how many digits were allowed
same_within : (most other n : ℕ) → n < most → n < other → digits_within most n ≡ digits_within other n
same_within zero other n h k = absurd (omega arith)
same_within (suc most) zero n h k = absurd (omega arith)
same_within (suc most) (suc other) n h k =
    ⊎_elim
    (λ small. small_within most n small ∙ sym (small_within other n small))
    (λ more.
    more_within most n more
    ∙ ap (λ (l : List ℕ). l ++ (digit (n % 10) ∷ [])) (same_within most other (n / 10) (omega arith) (omega arith))
    ∙ sym (more_within other n more))
    (cases_lt n 10)

pub decimal_more : (n : ℕ) → 10 ≤ n → decimal n ≡ decimal (n / 10) ++ (digit (n % 10) ∷ [])
unfolding decimal
decimal_more n more =
    more_within n n more
    ∙ ap (λ (l : List ℕ). l ++ (digit (n % 10) ∷ [])) (same_within n (suc (n / 10)) (n / 10) (omega arith) (omega arith))

length_within : (k most n : ℕ) → n < 10 ^ suc k → length (digits_within most n) ≤ suc k
unfolding digits_within
length_within k zero n h = omega arith
length_within zero (suc most) n h = rw (small_within most n h) (omega arith)
length_within (suc k) (suc most) n h =
    ⊎_elim
    (λ small. rw (small_within most n small) (omega arith))
    (λ more.
    rw (more_within most n more, length-append (digits_within most (n / 10)) (digit (n % 10) ∷ []))
    (omega (arith, length_within k most (n / 10) ((div-lt_iff_lt-mul (omega arith)).1 (rw pow-suc at h)))))
    (cases_lt n 10)

-- a number of any size, below 10 ^ suc k
pub length-decimal : (k n : ℕ) → n < 10 ^ suc k → length (decimal n) ≤ suc k
unfolding decimal
length-decimal k n h = length_within k (suc n) n h

pub length_pair : (n : ℕ) → n < 100 → length (decimal n) ≤ 2
length_pair n less = length-decimal 1 n less

pub length_word : (n : ℕ) → n < 2 ^ 64 → length (decimal n) ≤ 20
length_word n word = length-decimal 19 n (omega arith)
