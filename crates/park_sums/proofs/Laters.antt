-- Laws of the second walk: a transit more.
-- Assumes nothing.
use Prim.Native.Nat.{ℕ, ◌≤◌, zero-le}
use native.Mathlib.Nat.{mul-le-mul, le_trans}
use native.Mathlib.Decide.{ℕ_discrete}
use native.Mathlib.Omega.{arith}
use mathlib.Core.Path.{◌≡◌, sym, ap, ◌∙◌}
use mathlib.Core.Bool.{not}
use mathlib.Core.List.{List, [], ◌∷◌, ◌++◌}
use borrow.Author.Tests.{eq-eqb, ne_eqb}
use lib.Dec.{eqb}
use lib.IntN.{ℤ, pos, nat_abs, ◌-ℤ◌, +ℤ_idr}
use lib.ListN.{length}
use lib.Signed.{nat_abs-le}
use Rattle.park_format.specs.Accepted.{KeptLine}
use Rattle.park_format.specs.Limits.{most_loss, most_losses, most_net, most_reading}
use Rattle.park_format.specs.Park.{transits}
use Rattle.park_format.specs.Rules.{measures_reactive}
use Rattle.park_format.specs.declared.header.Header.{Header}
use Rattle.park_format.specs.declared.line.Line.{Line}
use Rattle.park_charge.proofs.Bounds.{estimated_out-le}
use Rattle.park_sums.specs.Sums.{sum_by}
use Rattle.park_sums.specs.Inner.Rows.{at, IsDifference, IsLess, IsNear, LessAt, Room, size, SmallLine, taken_later, takes_later, unmetered_flow}
use Rattle.park_sums.proofs.Nets.{each_le, Few, kept_small, more_chosen, more_other, when-le}
use Rattle.park_sums.proofs.Signed.{lost_mag, take_both}
use Rattle.park_sums.proofs.Sums.{sum_small}

pub less_none : (tg : ℕ) (row : List ℤ) → length row ≡ size → IsLess tg row row []
unfolding sum_by
less_none tg row h = record { numbers = h; less = λ i l. sym (+ℤ_idr (at row i)) }

-- a transit more: at the site that it leaves, and at the others
module _ (k : ℕ) {tg : ℕ} {row before : List ℤ} (lines : List Line) (l : Line) (b : IsLess tg row before (transits k lines)) {after : List ℤ} where
  pub less_here : l.from ≡ k → IsDifference after row (takes_later tg l) → IsLess tg after before (transits k (lines ++ (l ∷ [])))
  less_here e s =
      record {
        numbers = s.numbers;
        less = λ i h.
            s.difference i h
            ∙ ap (λ (z : ℤ). z -ℤ pos (taken_later tg i l)) (b.less i h)
            ∙ take_both (at before i) (sum_by (taken_later tg i) (transits k lines)) (taken_later tg i l)
            ∙ ap (λ (n : ℕ). at before i -ℤ pos n) (sym (more_chosen (taken_later tg i) (λ (x : Line). eqb x.from k) lines l (eq-eqb l.from k e)));
      }

  pub less_elsewhere : (l.from ≡ k → ⊥) → after ≡ row → IsLess tg after before (transits k (lines ++ (l ∷ [])))
  less_elsewhere n same =
      rw same
      (record {
        numbers = b.numbers;
        less = λ i h. b.less i h ∙ ap (λ (w : ℕ). at before i -ℤ pos w) (sym (more_other (taken_later tg i) (λ (y : Line). eqb y.from k) lines l (ne_eqb l.from k n)));
      })

  -- by what a turn for one site does
  pub less_at : LessAt k tg l row after → IsLess tg after before (transits k (lines ++ (l ∷ [])))
  less_at s = by (ℕ_discrete l.from k)
    where
      by : Dec (l.from ≡ k) → IsLess tg after before (transits k (lines ++ (l ∷ [])))
      by (yes e) = less_here e (s.row e)
      by (no n) = less_elsewhere n (s.elsewhere n)

module _ (tg : ℕ) (l : Line) (s : SmallLine l) where
  later-flow : unmetered_flow tg l ≤ most_reading
  later-flow = estimated_out-le tg (le_trans (when-le (not (measures_reactive l.meters)) l.active) s.active)

  pub later-le : (i : ℕ) → taken_later tg i l ≤ most_loss
  later-le =
      each_le most_loss (takes_later tg l)
      (zero-le, (omega (arith, later-flow), (zero-le, (zero-le, (mul-le-mul later-flow s.eerp, (zero-le, (zero-le, (zero-le, (zero-le, tt)))))))))

less_near : (z : ℤ) (n : ℕ) → nat_abs z ≤ most_losses → n ≤ most_losses → nat_abs (z -ℤ pos n) ≤ most_net
less_near z n h k = nat_abs-le (z -ℤ pos n) (omega (arith, lost_mag z n))

-- a row of the second walk has room for a line more
pub later_room : (head : Header) (k tg : ℕ) (lines : List Line) → Few head lines → {row before : List ℤ} → IsLess tg row before (transits k lines) → IsNear before → Room row
later_room head k tg lines few {row} {before} b near =
    record {
      numbers = b.numbers;
      near =
          λ i h. rw (b.less i h)
          (less_near (at before i) (sum_by (taken_later tg i) (transits k lines)) (near.near i h)
          (sum_small (KeptLine head) (taken_later tg i) most_loss (λ x y. later-le tg x (kept_small head x y) i) (λ (x : Line). eqb x.from k) lines few.kept few.few));
    }
