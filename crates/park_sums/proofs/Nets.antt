-- Laws of the walk over the lines: a store into one of many places, a line more at one of its ends, and how large the numbers of a row are.
-- Assumes nothing.
use Prim.Native.Nat.{ℕ, ◌+◌, ◌≤◌, ◌<◌, zero-le}
use native.Mathlib.Nat.{add-le-add, mul-le-mul, le_trans, add-zero}
use native.Mathlib.Omega.{arith}
use mathlib.Core.Path.{◌≡◌, refl, sym, ap, subst, ◌∙◌}
use mathlib.Core.Bool.{Bool, true, false}
use mathlib.Core.List.{List, [], ◌∷◌, ◌++◌}
use borrow.Author.Tests.{eqb-true, eqb-false, eq-eqb, ne_eqb}
use lib.Dec.{eqb, lit≤}
use lib.IntN.{ℤ, pos, ◌+ℤ◌, ◌-ℤ◌}
use lib.ListN.{length, get_or, get_or-replicate, replicate, set}
use lib.Seq.{get_or-set_same, get_or-set_other}
use Rattle.park_format.specs.Park.{inputs, transits, select}
use Rattle.park_format.specs.Rules.{measures_reactive}
use Rattle.park_format.specs.Accepted.{Every, KeptLine}
use Rattle.park_format.specs.declared.header.Header.{Header}
use Rattle.park_format.specs.declared.line.Line.{Line}
use Rattle.park_format.proofs.Lists.{Every-get_or}
use Rattle.park_charge.proofs.Bounds.{inflow-le}
use Rattle.park_format.specs.Limits.{most_lines, most_loss, most_losses, most_reading}
use Rattle.park_sums.specs.Sums.{sum_by}
use Rattle.park_sums.specs.Flows.{flow_in}
use Rattle.park_sums.proofs.Sums.{sum_by_snoc, sum_by-select, sum_small}
use Rattle.park_sums.proofs.Signed.{difference_le, gained_size, net-gain, take_both}
use Rattle.park_sums.specs.Inner.Rows.{at, gain, taken, gains, takes, IsDifference, IsNear, IsNet, IsSum, Room, size, SmallLine, when}

-- places that each hold P, after a store of what holds Q, where P elsewhere is Q
module _ {ℓ} {A : Type ℓ} (P Q : ℕ → A → Type 0) (n : ℕ) (xs : List A) (d : A) where
  pub store : ((k : ℕ) → k < n → P k (get_or xs k d)) → (j : ℕ) → j < length xs → {v : A} → Q j v → ((k : ℕ) (x : A) → (j ≡ k → ⊥) → P k x → Q k x) → (k : ℕ) → k < n → Q k (get_or (set xs j v) k d)
  store all j h {v} here other k l = by (eqb j k) refl
    where
      by : (b : Bool) → eqb j k ≡ b → Q k (get_or (set xs j v) k d)
      by true e =
          subst (λ (m : ℕ). Q m (get_or (set xs j v) m d)) (eqb-true j k e) (rw (get_or-set_same xs j v d h) here)
      by false e =
          rw (get_or-set_other xs j k v d (λ q. eqb-false j k e (sym q))) (other k (get_or xs k d) (eqb-false j k e) (all k l))

-- a sum over the chosen lines, with one line more
module _ (f : Line → ℕ) (test : Line → Bool) (lines : List Line) (l : Line) where
  pub more : sum_by f (select test (lines ++ (l ∷ []))) ≡ sum_by f (select test lines) + when (test l) (f l)
  more = sum_by-select f test (lines ++ (l ∷ [])) ∙ sum_by_snoc (λ (x : Line). when (test x) (f x)) lines l ∙ ap (λ (n : ℕ). n + when (test l) (f l)) (sym (sum_by-select f test lines))

  pub more_chosen : test l ≡ true → sum_by f (select test (lines ++ (l ∷ []))) ≡ sum_by f (select test lines) + f l
  more_chosen e = more ∙ ap (λ (b : Bool). sum_by f (select test lines) + when b (f l)) e

  pub more_other : test l ≡ false → sum_by f (select test (lines ++ (l ∷ []))) ≡ sum_by f (select test lines)
  more_other e = more ∙ ap (λ (b : Bool). sum_by f (select test lines) + when b (f l)) e ∙ add-zero _

-- a row of zeros
pub net_none : IsNet (replicate size (pos 0)) [] []
unfolding sum_by
net_none = record { numbers = refl; net = λ i h. get_or-replicate size i (pos 0) (pos 0) h }

-- an input more: at the site that it goes to, and at the others
module _ (k : ℕ) (outs lines : List Line) (l : Line) {row : List ℤ} where
  pub net_input_here : {before : List ℤ} → l.to ≡ k → IsNet before (inputs k lines) outs → IsSum row before (gains l) → IsNet row (inputs k (lines ++ (l ∷ []))) outs
  net_input_here {before} e b s =
      record {
        numbers = s.numbers;
        net = λ i h.
            s.sum i h
            ∙ ap (λ (z : ℤ). z +ℤ pos (gain i l)) (b.net i h)
            ∙ net-gain (sum_by (gain i) (inputs k lines)) (sum_by (taken i) outs) (gain i l)
            ∙ ap (λ (n : ℕ). pos n -ℤ pos (sum_by (taken i) outs)) (sym (more_chosen (gain i) (λ (x : Line). eqb x.to k) lines l (eq-eqb l.to k e)));
      }

  pub net_input_elsewhere : (l.to ≡ k → ⊥) → IsNet row (inputs k lines) outs → IsNet row (inputs k (lines ++ (l ∷ []))) outs
  net_input_elsewhere n b =
      record {
        numbers = b.numbers;
        net = λ i h. b.net i h ∙ ap (λ (n : ℕ). pos n -ℤ pos (sum_by (taken i) outs)) (sym (more_other (gain i) (λ (x : Line). eqb x.to k) lines l (ne_eqb l.to k n)));
      }

-- a transit more
module _ (k : ℕ) (ins lines : List Line) (l : Line) {row : List ℤ} where
  pub net_transit_here : {before : List ℤ} → l.from ≡ k → IsNet before ins (transits k lines) → IsDifference row before (takes l) → IsNet row ins (transits k (lines ++ (l ∷ [])))
  net_transit_here {before} e b s =
      record {
        numbers = s.numbers;
        net = λ i h.
            s.difference i h
            ∙ ap (λ (z : ℤ). z -ℤ pos (taken i l)) (b.net i h)
            ∙ take_both (pos (sum_by (gain i) ins)) (sum_by (taken i) (transits k lines)) (taken i l)
            ∙ ap (λ (n : ℕ). pos (sum_by (gain i) ins) -ℤ pos n) (sym (more_chosen (taken i) (λ (x : Line). eqb x.from k) lines l (eq-eqb l.from k e)));
      }

  pub net_transit_elsewhere : (l.from ≡ k → ⊥) → IsNet row ins (transits k lines) → IsNet row ins (transits k (lines ++ (l ∷ [])))
  net_transit_elsewhere n b =
      record {
        numbers = b.numbers;
        net = λ i h. b.net i h ∙ ap (λ (n : ℕ). pos (sum_by (gain i) ins) -ℤ pos n) (sym (more_other (taken i) (λ (x : Line). eqb x.from k) lines l (ne_eqb l.from k n)));
      }

-- how large a line's numbers are
pub each_le : (most : ℕ) (xs : List ℕ) → Every (λ (x : ℕ). x ≤ most) xs → (i : ℕ) → get_or xs i 0 ≤ most
each_le most xs e i = Every-get_or (λ (x : ℕ). x ≤ most) 0 zero-le xs e i

pub when-le : (b : Bool) (x : ℕ) → when b x ≤ x
when-le true x = omega arith
when-le false x = omega arith

module _ (l : Line) (s : SmallLine l) where
  pub flow_small : flow_in l ≤ most_reading
  flow_small = inflow-le (measures_reactive l.meters) s.active s.reactive

  pub gain-le : (i : ℕ) → gain i l ≤ most_loss
  gain-le = each_le most_loss (gains l) (omega arith, (omega (arith, flow_small), (omega arith, (omega arith, (mul-le-mul flow_small s.eerp, (mul-le-mul s.generated s.eerp, (mul-le-mul s.night s.eerp, (omega arith, (omega arith, tt)))))))))

  pub taken-le : (i : ℕ) → taken i l ≤ most_loss
  taken-le = each_le most_loss (takes l) (le_trans (when-le (measures_reactive l.meters) l.active) (omega arith), (omega arith, (omega arith, (omega arith, (mul-le-mul s.reactive s.eerp, (mul-le-mul s.generated s.eerp, (mul-le-mul s.night s.eerp, (zero-le, (zero-le, tt)))))))))

-- lines of an accepted park, no more than one has
pub record Few (head : Header) (lines : List Line) : Type 0 where
  pub kept : Every (KeptLine head) lines
  pub few : length lines ≤ most_lines

-- a line that keeps its rules is small
pub kept_small : (head : Header) (l : Line) → KeptLine head l → SmallLine l
kept_small head l k = record { active = k.active; reactive = k.reactive; eerp = k.eerp.1; generated = k.generated; night = k.night }

-- each sum over such lines is small, and so are the rows
module _ (head : Header) (lines : List Line) (f : Few head lines) where
  pub gains_small : (i : ℕ) (test : Line → Bool) → sum_by (gain i) (select test lines) ≤ most_losses
  gains_small i test = sum_small (KeptLine head) (gain i) most_loss (λ x y. gain-le x (kept_small head x y) i) test lines f.kept f.few

  pub takes_small : (i : ℕ) (test : Line → Bool) → sum_by (taken i) (select test lines) ≤ most_losses
  takes_small i test = sum_small (KeptLine head) (taken i) most_loss (λ x y. taken-le x (kept_small head x y) i) test lines f.kept f.few

module _ (head : Header) (k : ℕ) (ins outs : List Line) (i : Few head ins) (o : Few head outs) {row : List ℤ} (b : IsNet row (inputs k ins) (transits k outs)) where
  pub net_near : IsNear row
  net_near =
      record {
        numbers = b.numbers;
        near =
            λ m h. rw (b.net m h)
            (difference_le _ _ (gains_small head ins i m (λ (x : Line). eqb x.to k)) (takes_small head outs o m (λ (x : Line). eqb x.from k)));
      }

  pub net_room : Room row
  net_room = record { numbers = b.numbers; near = λ m h. le_trans (net_near.near m h) (lit≤ tt) }

-- rows with room for a line at both its ends
pub near_room : {row : List ℤ} → IsNear row → Room row
near_room near = record { numbers = near.numbers; near = λ i h. le_trans (near.near i h) (lit≤ tt) }

pub sum_room : {row before : List ℤ} (l : Line) → SmallLine l → IsNear before → IsSum row before (gains l) → Room row
sum_room {before = before} l small near sum =
    record {
      numbers = sum.numbers;
      near =
          λ i h. rw (sum.sum i h)
          (le_trans (gained_size (at before i) (gain i l)) (le_trans (add-le-add (near.near i h) (gain-le l small i)) (lit≤ tt)));
    }
