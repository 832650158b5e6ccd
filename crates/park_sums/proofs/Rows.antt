-- Laws of a row: made number by number, and a number of it that is cut at 0.
-- Assumes nothing.
use Prim.Native.Nat.{ℕ, zero, suc, ◌+◌, ◌≤◌, ◌<◌}
use native.Mathlib.Nat.{not-suc-le-zero, le_of_suc-le-suc, le_trans, add-zero, add-suc, suc-add, zero-add}
use native.Mathlib.Numerals.{add-one}
use mathlib.Core.List.{List}
use denote.Param.Members.{Called, Mut}
use lib.IntN.{ℤ}
use lib.ListN.{get_or}
use Rattle.std.specs.Array.{IsFromFnResultFrom}
use Rattle.park_charge.specs.Losses.{above_le}
use Rattle.park_format.specs.Limits.{most_net}
use Rattle.park_sums.specs.Inner.Rows.{net_at, Room, size}

-- numbers that calls made, one for each place, where each call keeps K and gives what is Q there
module _ {F B : Type 0} (g : Mut F (ℕ × Unit {0}) B) (K : F → Type 0) (Q : ℕ → B → Type 0) (turn : (f : F) (i : ℕ) (y : B) (q : F) → K f → Called g f (i, tt) y q → K q × Q i y) where
  made_from : (f : F) (ys : List B) (i n : ℕ) → K f → IsFromFnResultFrom g f ys i n → (k : ℕ) → k < n → (d : B) → Q (i + k) (get_or ys (i + k) d)
  made_from f ys i zero keeps made k h d = absurd (not-suc-le-zero h)
  made_from f ys i (suc n) keeps made zero h d = rw (add-zero, made.2.1 d) (turn f i made.1 made.0 keeps made.3).1
  made_from f ys i (suc n) keeps made (suc k) h d =
      rw (add-suc i k, ← suc-add i k, ← add-one i)
      (made_from made.0 ys (i + 1) n (turn f i made.1 made.0 keeps made.3).0 made.4 k (le_of_suc-le-suc h) d)

  pub made_each : (f : F) (ys : List B) (n : ℕ) → K f → IsFromFnResultFrom g f ys 0 n → (d : B) (k : ℕ) → k < n → Q k (get_or ys k d)
  made_each f ys n keeps made d k h = rw zero-add at (made_from f ys 0 n keeps made k h d)

-- how large a number of a row is that is cut at 0
pub net-le : (row : List ℤ) → Room row → (i : ℕ) → i < size → net_at row i ≤ most_net
net-le row room i h = le_trans (above_le _) (room.near i h)
