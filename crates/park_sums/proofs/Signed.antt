-- Laws of a signed sum that gains or loses a natural: how far it is from 0, and that the machine reads it whole.
-- Assumes nothing.
use Prim.Native.Nat.{ℕ, zero, suc, ◌+◌, ◌-◌, ◌^◌, ◌≤◌, ◌<◌}
use mathlib.Core.Path.{◌≡◌, sym, ap, ◌∙◌}
use mathlib.Core.Bool.{Bool, true, false, cond}
use native.Mathlib.Omega.{arith}
use lib.Dec.{ltb}
use lib.IntN.{ℤ, pos, negsuc, neg_ℤ, nat_abs, ◌+ℤ◌, ◌-ℤ◌, +ℤ_assoc, +ℤ_comm, neg_ℤ-+ℤ}
use lib.Signed.{mag}
use Rattle.park_charge.specs.Losses.{above_is, cut_is, size_is}
use Rattle.park_format.specs.Limits.{most_net}
use mir.Syntax.{w64}
use mir.Val.{SFits, to_z, of_z}
use mir.ValLaws.{to_z-of_z}

difference_mag : (a b : ℕ) → mag (cond (ltb a b) (negsuc (b - suc a)) (pos (a - b))) ≤ a + b
difference_mag a b = by (ltb a b)
  where
    by : (t : Bool) → mag (cond t (negsuc (b - suc a)) (pos (a - b))) ≤ a + b
    by true = omega arith
    by false = omega arith

gained_mag : (z : ℤ) (n : ℕ) → mag (z +ℤ pos n) ≤ nat_abs z + n
gained_mag (pos a) n = omega arith
gained_mag (negsuc a) n = omega (arith, difference_mag n (suc a))

pub lost_mag : (z : ℤ) (n : ℕ) → mag (z -ℤ pos n) ≤ nat_abs z + n
lost_mag z zero = gained_mag z 0
lost_mag (pos a) (suc n) = difference_mag a (suc n)
lost_mag (negsuc a) (suc n) = omega arith

-- a sum is no farther from 0 than both
pub gained_size : (z : ℤ) (n : ℕ) → nat_abs (z +ℤ pos n) ≤ nat_abs z + n
gained_size (pos a) n = omega arith
gained_size (negsuc a) n = omega (arith, size_is (pos n -ℤ pos (suc a)), above_is n (suc a), cut_is n (suc a))

lost_size : (z : ℤ) (n : ℕ) → nat_abs (z -ℤ pos n) ≤ nat_abs z + n
lost_size z zero = gained_size z 0
lost_size (pos a) (suc n) = omega (arith, size_is (pos a -ℤ pos (suc n)), above_is a (suc n), cut_is a (suc n))
lost_size (negsuc a) (suc n) = omega arith

pub sum-size : (z y : ℤ) → nat_abs (z +ℤ y) ≤ nat_abs z + nat_abs y
sum-size z (pos n) = gained_size z n
sum-size z (negsuc n) = lost_size z (suc n)

-- a sum that is near enough to 0 fits
pub small_fits : (z : ℤ) → nat_abs z < 2 ^ 63 → SFits w64 z
small_fits (pos n) h = record { sfits = omega arith }
small_fits (negsuc n) h = record { sfits = omega arith }

pub near_fits : (z : ℤ) → nat_abs z ≤ most_net → SFits w64 z
near_fits z h = small_fits z (omega arith)

-- the machine reads a number that is small enough as it is
pub read_whole : (z : ℤ) → SFits w64 z → to_z w64 (of_z w64 z) ≡ z
read_whole z h = to_z-of_z w64 z h

-- a difference of naturals is no larger than both
pub difference_le : (a b : ℕ) {most : ℕ} → a ≤ most → b ≤ most → nat_abs (pos a -ℤ pos b) ≤ most
difference_le a b h l = omega (arith, size_is (pos a -ℤ pos b), above_is a b, cut_is a b)

-- a difference that gains or loses a natural
pub net-gain : (a b g : ℕ) → (pos a -ℤ pos b) +ℤ pos g ≡ pos (a + g) -ℤ pos b
net-gain a b g =
    +ℤ_assoc (pos a) (neg_ℤ (pos b)) (pos g) ∙ ap (λ (z : ℤ). pos a +ℤ z) (+ℤ_comm (neg_ℤ (pos b)) (pos g)) ∙ sym (+ℤ_assoc (pos a) (pos g) (neg_ℤ (pos b)))

pub take_both : (z : ℤ) (a b : ℕ) → (z -ℤ pos a) -ℤ pos b ≡ z -ℤ pos (a + b)
take_both z a b = +ℤ_assoc z (neg_ℤ (pos a)) (neg_ℤ (pos b)) ∙ ap (λ (y : ℤ). z +ℤ y) (sym (neg_ℤ-+ℤ (pos a) (pos b)))
