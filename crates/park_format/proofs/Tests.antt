-- Laws of tests joined by `||` and `&&`: what the whole comes to by its tests, and what it tells of them.
-- Assumes nothing.
use mathlib.Core.Logic.{◌⊎◌, inl, inr}
use mathlib.Core.Path.{◌≡◌, refl, sym}
use mathlib.Core.Bool.{Bool, true, false, ◌&&◌, ◌||◌, true≢false}

pub or_yes : (a b : Bool) → a ≡ true → true ≡ (a || b)
or_yes true b e = refl
or_yes false b e = absurd (true≢false (sym e))

pub or_last : (a b : Bool) → b ≡ true → (a || b) ≡ true
or_last true b e = refl
or_last false b e = e

pub or_either : (a b : Bool) → (a || b) ≡ true → (a ≡ true) ⊎ (b ≡ true)
or_either true b e = inl refl
or_either false b e = inr e

pub or_next : (a b : Bool) {r : Bool} → a ≡ false → r ≡ b → r ≡ (a || b)
or_next true b e f = absurd (true≢false e)
or_next false b e f = f

pub or_no : (a b : Bool) → a ≡ false → b ≡ false → (a || b) ≡ false
or_no a b e f = sym (or_next a b e (sym f))

pub or-false : (a b : Bool) → (a || b) ≡ false → (a ≡ false) × (b ≡ false)
or-false true b e = absurd (true≢false e)
or-false false b e = (refl, e)

pub and_both : (a b : Bool) → (a && b) ≡ true → (a ≡ true) × (b ≡ true)
and_both true b e = (refl, e)
and_both false b e = absurd (true≢false (sym e))

-- the second test of an `&&` that is false is false where the first is true
pub and-false : (a b : Bool) → (a && b) ≡ false → a ≡ true → b ≡ false
and-false true b e f = e
and-false false b e f = absurd (true≢false (sym f))
