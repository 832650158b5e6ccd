-- Laws of a set's digits: of a union, of one digit, of a complement, and of the zeros below the lowest digit.
-- Assumes nothing.
use Prim.Native.Nat.{ℕ, zero, suc, ◌+◌, ◌-◌, ◌*◌, ◌/◌, ◌%◌, ◌^◌, ◌≤◌, ◌<◌, suc-le-suc}
use native.Mathlib.Nat.{pow-suc, not-suc-le-zero, le_of_suc-le-suc}
use native.Mathlib.Omega.{arith}
use mathlib.Core.List.{List, [], ◌∷◌}
use mathlib.Core.Path.{◌≡◌, refl, sym, ap, ◌∙◌}
use mathlib.Core.Bool.{true, false, not, ◌||◌}
use lib.Dec.{eqb, eqb-zero-suc, eqb-suc-zero, eqb-suc-suc}
use lib.Bits.{bit_or, or_shr, or_mod}
use lib.ListN.{get_or}
use lib.Count.{count_trailing_zeros, under, trailing_le}
use borrow.Author.Tests.{not-true, not-false}
use Rattle.park_format.specs.Inner.Set.{has, Lowest}
use Rattle.park_format.specs.Park.{list_of}
use Rattle.park_format.proofs.Lists.{get_or-list_of}

-- a digit is 0 or 1
pub digit {ℓ} : (P : ℕ → Type ℓ) (x : ℕ) → x < 2 → P 0 → P 1 → P x
digit P zero h z o = z
digit P (suc zero) h z o = o
digit P (suc (suc x)) h z o = absurd (not-suc-le-zero (le_of_suc-le-suc (le_of_suc-le-suc h)))

low_or : (x y : ℕ) → x < 2 → y < 2 → eqb (bit_or x y) 1 ≡ (eqb x 1 || eqb y 1)
low_or x y h k =
    digit (λ (a : ℕ). eqb (bit_or a y) 1 ≡ (eqb a 1 || eqb y 1)) x h
    (digit (λ (b : ℕ). eqb (bit_or 0 b) 1 ≡ (eqb 0 1 || eqb b 1)) y k refl refl)
    (digit (λ (b : ℕ). eqb (bit_or 1 b) 1 ≡ (eqb 1 1 || eqb b 1)) y k refl refl)

pub has-or : (j a b : ℕ) → has (bit_or a b) j ≡ (has a j || has b j)
unfolding has
has-or zero a b = ap (λ (x : ℕ). eqb x 1) (or_mod a b 1) ∙ low_or (a % 2) (b % 2) (omega arith) (omega arith)
has-or (suc j) a b = ap (λ (x : ℕ). has x j) (or_shr a b 1) ∙ has-or j (a / 2) (b / 2)

pub has-zero : (j : ℕ) → has 0 j ≡ false
unfolding has
has-zero zero = refl
has-zero (suc j) = has-zero j

even : (x : ℕ) → x * 2 % 2 ≡ 0
even x = omega arith

half : (x : ℕ) → x * 2 / 2 ≡ x
half x = omega arith

power_even : (t : ℕ) → 2 ^ suc t % 2 ≡ 0
power_even t = rw pow-suc (even (2 ^ t))

power_half : (t : ℕ) → 2 ^ suc t / 2 ≡ 2 ^ t
power_half t = rw pow-suc (half (2 ^ t))

has_power : (t j : ℕ) → has (2 ^ t) j ≡ eqb t j
unfolding has
has_power zero zero = refl
has_power zero (suc j) = has-zero j ∙ sym (eqb-zero-suc j)
has_power (suc t) zero = ap (λ (x : ℕ). eqb x 1) (power_even t) ∙ sym (eqb-suc-zero t)
has_power (suc t) (suc j) = ap (λ (x : ℕ). has x j) (power_half t) ∙ has_power t j ∙ sym (eqb-suc-suc t j)

-- the sets with one site alone, by its number; that of the network, 0, is empty
abbrev pub alone : List ℕ
alone = 0 ∷ 1 ∷ 2 ∷ 4 ∷ 8 ∷ 16 ∷ 32 ∷ 64 ∷ 128 ∷ 256 ∷ 512 ∷ 1024 ∷ 2048 ∷ 4096 ∷ 8192 ∷ 16384 ∷ 32768 ∷ []

alone_at : (to : ℕ) → to ≤ 16 → get_or alone to 0 ≡ 2 ^ to / 2
unfolding list_of
alone_at to h = get_or-list_of (λ (i : ℕ). 2 ^ i / 2) 17 0 to (suc-le-suc h)

pub has_half_power : (to j : ℕ) → has (2 ^ to / 2) j ≡ eqb to (suc j)
has_half_power zero j = has-zero j ∙ sym (eqb-zero-suc j)
has_half_power (suc t) j = ap (λ (x : ℕ). has x j) (power_half t) ∙ has_power t j ∙ sym (eqb-suc-suc t j)

pub has_alone : (to j : ℕ) → to ≤ 16 → has (get_or alone to 0) j ≡ eqb to (suc j)
has_alone to j h = ap (λ (x : ℕ). has x j) (alone_at to h) ∙ has_half_power to j

-- the number with k digits 1
full : ℕ → ℕ
full zero = 0
full (suc k) = 2 * full k + 1

low_not : (x y : ℕ) → y < 2 → x + y ≡ 1 → eqb x 1 ≡ not (eqb y 1)
low_not x y h e =
    digit (λ (b : ℕ). x + b ≡ 1 → eqb x 1 ≡ not (eqb b 1)) y h
    (λ e. ap (λ (a : ℕ). eqb a 1) (zeroth x e)) (λ e. ap (λ (a : ℕ). eqb a 1) (first x e)) e
  where
    zeroth : (a : ℕ) → a + 0 ≡ 1 → a ≡ 1
    zeroth a e = omega arith

    first : (a : ℕ) → a + 1 ≡ 1 → a ≡ 0
    first a e = omega arith

has-not : (k j n : ℕ) → n ≤ full k → j < k → has (full k - n) j ≡ not (has n j)
unfolding has full
has-not zero j n h l = absurd (not-suc-le-zero l)
has-not (suc k) zero n h l = low_not ((2 * full k + 1 - n) % 2) (n % 2) (omega arith) (parity (full k) n h)
  where
    parity : (f n : ℕ) → n ≤ 2 * f + 1 → (2 * f + 1 - n) % 2 + n % 2 ≡ 1
    parity f n h = omega arith
has-not (suc k) (suc j) n h l =
    ap (λ (x : ℕ). has x j) (halved (full k) n h) ∙ has-not k j (n / 2) (omega arith) (le_of_suc-le-suc l)
  where
    halved : (f n : ℕ) → n ≤ 2 * f + 1 → (2 * f + 1 - n) / 2 ≡ f - n / 2
    halved f n h = omega arith

below_digit : (n t d : ℕ) → n % 2 ≡ d → ((j : ℕ) → j < t → has (n / 2) j ≡ false) → (j : ℕ) → j < under d t → has n j ≡ false
unfolding has
below_digit n t zero e ih zero h = ap (λ (x : ℕ). eqb x 1) e
below_digit n t zero e ih (suc j) h = ih j (le_of_suc-le-suc h)
below_digit n t (suc d) e ih j h = absurd (not-suc-le-zero h)

zeros_below : (k n j : ℕ) → j < count_trailing_zeros k n → has n j ≡ false
unfolding count_trailing_zeros
zeros_below zero n j h = absurd (not-suc-le-zero h)
zeros_below (suc k) n j h = below_digit n (count_trailing_zeros k (n / 2)) (n % 2) refl (zeros_below k (n / 2)) j h

one_of : (n d : ℕ) → n % 2 ≡ suc d → n % 2 ≡ 1
one_of n d e = omega arith

here_digit : (n t k d : ℕ) → n % 2 ≡ d → (t < k → has (n / 2) t ≡ true) → under d t < suc k → has n (under d t) ≡ true
unfolding has
here_digit n t k zero e ih h = ih (le_of_suc-le-suc h)
here_digit n t k (suc d) e ih h = ap (λ (x : ℕ). eqb x 1) (one_of n d e)

zeros_end : (k n : ℕ) → count_trailing_zeros k n < k → has n (count_trailing_zeros k n) ≡ true
unfolding count_trailing_zeros
zeros_end zero n h = absurd (not-suc-le-zero h)
zeros_end (suc k) n h = here_digit n (count_trailing_zeros k (n / 2)) k (n % 2) refl (zeros_end k (n / 2)) h

pub lowest : (set : ℕ) → set < 2 ^ 16 → Lowest set (count_trailing_zeros 16 (65535 - set))
unfolding full
lowest set h =
    let le = trailing_le 16 (65535 - set) in
    record {
      below = λ j l. not-false (has set j) (sym (has-not 16 j set (omega arith) (omega arith)) ∙ zeros_below 16 (65535 - set) j l);
      here = λ l. not-true (has set _) (sym (has-not 16 _ set (omega arith) l) ∙ zeros_end 16 (65535 - set) l);
      most = le;
    }
