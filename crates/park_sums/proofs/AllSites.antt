-- Laws of the walks over all sites: a line more, stored at its ends.
-- Assumes nothing.
use Prim.Native.Nat.{ℕ, ◌+◌, ◌≤◌, ◌<◌}
use native.Mathlib.Nat.{eq-or-lt_of_le, le_trans, not-suc-le-zero}
use native.Mathlib.Omega.{arith}
use mathlib.Core.Logic.{◌⊎◌, inl, inr}
use mathlib.Core.Path.{◌≡◌, refl, sym, ap, subst, ◌∙◌}
use mathlib.Core.List.{List, [], ◌∷◌, ◌++◌}
use lib.IntN.{ℤ, pos}
use lib.ListN.{length, get_or-replicate, replicate, set, length-set}
use lib.Seq.{get_or-set_same, get_or-set_other}
use Rattle.park_format.specs.Park.{Park, select, transits}
use Rattle.park_format.specs.declared.header.Header.{Header}
use Rattle.park_format.specs.declared.line.Line.{Line}
use Rattle.park_sums.specs.Inner.Rows.{AddsLine, AreLess, AreNear, AreSums, AreTangents, IsDifference, IsLess, IsNear, IsSiteSums, more_at, no_sums, places, Room, size, SmallLine, sums_at, takes_later, tangent_from, WithInput}
use Rattle.park_sums.specs.declared.walk.SiteSums.{SiteSums}
use Rattle.park_sums.proofs.Laters.{less_elsewhere, less_here, less_none}
use Rattle.park_sums.proofs.Nets.{Few, near_room, net_near, store as store_each, sum_room}
use Rattle.park_sums.proofs.OneSite.{input_elsewhere, input_here, sums_none, transit_elsewhere, transit_here}

-- sums that each are P, after a store of what is Q at its place, where P elsewhere is Q
module _ (P Q : ℕ → SiteSums → Type 0) (sums : List SiteSums) (sites : length sums ≡ places) where
  store : ((k : ℕ) → k < places → P k (sums_at sums k)) → (j : ℕ) → j < places → {s : SiteSums} → Q j s → ((k : ℕ) (x : SiteSums) → (j ≡ k → ⊥) → P k x → Q k x) → (k : ℕ) → k < places → Q k (sums_at (set sums j s) k)
  store all j h here other = store_each P Q places sums no_sums all j (omega arith) here other

-- nothing is added up yet
abbrev pub nothing_added : SiteSums
nothing_added = record { row = replicate size (pos 0); tangent = 0; input_lacks = 0; transit_lacks = 0 }

pub sums_fresh : AreSums (replicate places nothing_added) [] []
sums_fresh =
    record {
      sites = refl;
      site = λ k h. rw (get_or-replicate places k nothing_added no_sums h) (sums_none k nothing_added refl refl refl);
    }

-- a line more, added at both its ends
pub line_added : {sums after : List SiteSums} (lines : List Line) (l : Line) → l.to < places → l.from < places → AreSums sums lines lines → AddsLine l sums after → AreSums after (lines ++ (l ∷ [])) (lines ++ (l ∷ []))
line_added {sums} {after} lines l to from b a =
    let more = lines ++ (l ∷ []) in
    let none = λ (k : ℕ) (s : SiteSums). IsSiteSums k s lines lines in
    let input = λ (k : ℕ) (s : SiteSums). IsSiteSums k s more lines in
    let both = λ (k : ℕ) (s : SiteSums). IsSiteSums k s more more in
    let there = store none input sums b.sites b.site l.to to (input_here l.to lines lines l (b.site l.to to) refl a.is_input) (λ k s n c. input_elsewhere k lines lines l c n) in
    let sites : length (set sums l.to a.input) ≡ places = simp length-set b.sites in
    rw a.are
    (record {
      sites = simp length-set b.sites;
      site =
          store input both (set sums l.to a.input) sites there l.from from
          (transit_here l.from more lines l (there l.from from) refl a.is_transit) (λ k s n c. transit_elsewhere k more lines l c n);
    })

-- rows with room for a line at both its ends, once it is stored at the first
pub both_room : (sums : List SiteSums) (l : Line) → SmallLine l → AreNear sums → l.to < places → {s : SiteSums} → WithInput l (sums_at sums l.to) s → (k : ℕ) → k < places → Room (sums_at (set sums l.to s) k).row
both_room sums l small near to with =
    store (λ (k : ℕ) (s : SiteSums). IsNear s.row) (λ (k : ℕ) (s : SiteSums). Room s.row) sums near.sites near.row l.to to
    (sum_room l small (near.row l.to to) with.row) (λ k s n c. near_room c)

-- after the lines that were added, there is such room
pub sums_near : {sums : List SiteSums} (lines : List Line) → AreSums sums lines lines → {head : Header} → Few head lines → AreNear sums
sums_near lines b {head} few = record { sites = b.sites; row = λ k h. net_near head k lines lines few few (b.site k h).net }

-- no transit is taken yet
pub all_less_none : (sums : List SiteSums) → AreNear sums → AreLess sums sums []
unfolding select
all_less_none sums near = record { sites = near.sites; row = λ k h. less_none _ _ (near.row k h).numbers; rest = λ k h. refl }

-- a transit more, taken in the second walk
pub transit_taken : {sums before : List SiteSums} (lines : List Line) (l : Line) → l.from < places → AreLess sums before lines → {row : List ℤ} → IsDifference row (sums_at sums l.from).row (takes_later (sums_at sums l.from).tangent l) → AreLess (set sums l.from (record (sums_at sums l.from) { row = row })) before (lines ++ (l ∷ []))
transit_taken {sums} {before} lines l from b {row} s =
    record {
      sites = simp length-set b.sites;
      row = store (less lines) (less (lines ++ (l ∷ []))) sums b.sites b.row l.from from (less_here l.from lines l (b.row l.from from) refl (subst (λ (tg : ℕ). IsDifference row (sums_at sums l.from).row (takes_later tg l)) (ap (λ (x : SiteSums). x.tangent) (b.rest l.from from)) s)) (λ k x n c. less_elsewhere k lines l c n refl);
      rest = store rest rest sums b.sites b.rest l.from from (ap (λ (x : SiteSums). record x { row = row }) (b.rest l.from from)) (λ k x n c. c);
    }
  where
    less : List Line → ℕ → SiteSums → Type 0
    less taken k x = IsLess (sums_at before k).tangent x.row (sums_at before k).row (transits k taken)

    rest : ℕ → SiteSums → Type 0
    rest k x = x ≡ record (sums_at before k) { row = x.row }

-- no tangent is known yet
pub no_tangents : (sums : List SiteSums) (p : Park) → length sums ≡ places → AreTangents sums sums p 0
no_tangents sums p sites = record { sites = sites; tangent = λ k low high. absurd (not-suc-le-zero (le_trans low high)); rest = λ k h. refl }

-- the tangent of one site more
pub tangent_more : {sums before : List SiteSums} {p : Park} (s : ℕ) → s + 1 < places → AreTangents sums before p s → {v : ℕ} → v ≡ tangent_from (more_at (s + 1) p) (sums_at sums (s + 1)).row → AreTangents (set sums (s + 1) (record (sums_at sums (s + 1)) { tangent = v })) before p (s + 1)
tangent_more {sums} {before} {p} s h so_far {v} e =
    record {
      sites = simp length-set so_far.sites;
      tangent = λ k low high. by k low (eq-or-lt_of_le high);
      rest = store rest rest sums so_far.sites so_far.rest (s + 1) h (ap (λ (x : SiteSums). record x { tangent = v }) (so_far.rest (s + 1) h)) (λ k x n c. c);
    }
  where
    rest : ℕ → SiteSums → Type 0
    rest k x = x ≡ record (sums_at before k) { tangent = x.tangent }

    after : SiteSums
    after = record (sums_at sums (s + 1)) { tangent = v }

    by : (k : ℕ) → 1 ≤ k → (k ≡ s + 1) ⊎ (k < s + 1) → (sums_at (set sums (s + 1) after) k).tangent ≡ tangent_from (more_at k p) (sums_at before k).row
    by k low (inl q) =
        rw q
        (ap (λ (x : SiteSums). x.tangent) (get_or-set_same sums (s + 1) after no_sums (omega (arith, so_far.sites)))
        ∙ e
        ∙ ap (λ (x : SiteSums). tangent_from (more_at (s + 1) p) x.row) (so_far.rest (s + 1) h))
    by k low (inr l) =
        ap (λ (x : SiteSums). x.tangent) (get_or-set_other sums (s + 1) k after no_sums (λ q. omega arith)) ∙ so_far.tangent k low (omega arith)
