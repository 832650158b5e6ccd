-- Laws of the first walk at one site: a line more at one of its ends, where that is the site and where it is not.
-- Assumes nothing.
use Prim.Native.Nat.{ℕ}
use native.Mathlib.Decide.{ℕ_discrete}
use mathlib.Core.Path.{◌≡◌}
use mathlib.Core.List.{List, [], ◌∷◌, ◌++◌}
use borrow.Author.Tests.{eq-eqb, ne_eqb}
use lib.Dec.{eqb}
use lib.IntN.{pos}
use lib.ListN.{replicate}
use Rattle.park_format.specs.Park.{inputs, select, transits}
use Rattle.park_format.specs.declared.line.Line.{Line}
use Rattle.park_sums.specs.Inner.Rows.{InputAt, IsNear, IsSiteSums, LineAt, Room, size, SmallLine, TransitAt, WithInput, WithTransit}
use Rattle.park_sums.specs.declared.walk.SiteSums.{SiteSums}
use Rattle.park_sums.proofs.Meters.{lacking_elsewhere, lacking_here, lacking_none}
use Rattle.park_sums.proofs.Nets.{near_room, net_input_elsewhere, net_input_here, net_none, net_transit_elsewhere, net_transit_here, sum_room}

-- no line yet
pub sums_none : (k : ℕ) (s : SiteSums) → s.row ≡ replicate size (pos 0) → s.input_lacks ≡ 0 → s.transit_lacks ≡ 0 → IsSiteSums k s [] []
unfolding select
sums_none k s r i t = record { net = rw r net_none; inputs = rw i lacking_none; transits = rw t lacking_none }

-- an input more
module _ (k : ℕ) (lines outs : List Line) (l : Line) {before : SiteSums} (b : IsSiteSums k before lines outs) where
  pub input_here : {after : SiteSums} → l.to ≡ k → WithInput l before after → IsSiteSums k after (lines ++ (l ∷ [])) outs
  input_here e s =
      record {
        net = net_input_here k (transits k outs) lines l e b.net s.row;
        inputs = rw s.inputs (lacking_here (λ (x : Line). eqb x.to k) lines l (eq-eqb l.to k e) b.inputs);
        transits = rw s.transits b.transits;
      }

  pub input_elsewhere : (l.to ≡ k → ⊥) → IsSiteSums k before (lines ++ (l ∷ [])) outs
  input_elsewhere n =
      record {
        net = net_input_elsewhere k (transits k outs) lines l n b.net;
        inputs = lacking_elsewhere (λ (x : Line). eqb x.to k) lines l (ne_eqb l.to k n) b.inputs;
        transits = b.transits;
      }

  pub input_at : {after : SiteSums} → InputAt k l before after → IsSiteSums k after (lines ++ (l ∷ [])) outs
  input_at {after} s = by (ℕ_discrete l.to k)
    where
      by : Dec (l.to ≡ k) → IsSiteSums k after (lines ++ (l ∷ [])) outs
      by (yes e) = input_here e (s.here e)
      by (no n) = rw (s.elsewhere n) (input_elsewhere n)

-- a transit more
module _ (k : ℕ) (ins lines : List Line) (l : Line) {before : SiteSums} (b : IsSiteSums k before ins lines) where
  pub transit_here : {after : SiteSums} → l.from ≡ k → WithTransit l before after → IsSiteSums k after ins (lines ++ (l ∷ []))
  transit_here e s =
      record {
        net = net_transit_here k (inputs k ins) lines l e b.net s.row;
        inputs = rw s.inputs b.inputs;
        transits = rw s.transits (lacking_here (λ (x : Line). eqb x.from k) lines l (eq-eqb l.from k e) b.transits);
      }

  pub transit_elsewhere : (l.from ≡ k → ⊥) → IsSiteSums k before ins (lines ++ (l ∷ []))
  transit_elsewhere n =
      record {
        net = net_transit_elsewhere k (inputs k ins) lines l n b.net;
        inputs = b.inputs;
        transits = lacking_elsewhere (λ (x : Line). eqb x.from k) lines l (ne_eqb l.from k n) b.transits;
      }

  pub transit_at : {after : SiteSums} → TransitAt k l before after → IsSiteSums k after ins (lines ++ (l ∷ []))
  transit_at {after} s = by (ℕ_discrete l.from k)
    where
      by : Dec (l.from ≡ k) → IsSiteSums k after ins (lines ++ (l ∷ []))
      by (yes e) = transit_here e (s.here e)
      by (no n) = rw (s.elsewhere n) (transit_elsewhere n)

-- a line more, at both its ends
pub line_at : (k : ℕ) {before after : SiteSums} (lines : List Line) (l : Line) → IsSiteSums k before lines lines → LineAt k l before after → IsSiteSums k after (lines ++ (l ∷ [])) (lines ++ (l ∷ []))
line_at k lines l b s = transit_at k (lines ++ (l ∷ [])) lines l (input_at k lines lines l b s.input) s.transit

-- sums with room for a line at both its ends
pub room_after : (k : ℕ) {before after : SiteSums} (l : Line) → SmallLine l → IsNear before.row → InputAt k l before after → Room after.row
room_after k {before} {after} l small near at-input = by (ℕ_discrete l.to k)
  where
    by : Dec (l.to ≡ k) → Room after.row
    by (yes e) = sum_room l small near (at-input.here e).row
    by (no n) = rw (at-input.elsewhere n) (near_room near)
