-- The loss balance: from each site's split to the park, line by line.
-- Assumes nothing.
use Prim.Native.Nat.{ℕ, zero, suc, ◌+◌, ◌*◌, ◌≤◌, ◌<◌}
use native.Mathlib.Nat.{add-zero, zero-add, add-mul, zero-mul, not-suc-le-zero, le_of_suc-le-suc, eq-or-lt_of_le, le_trans}
use native.Mathlib.Omega.{arith}
use mathlib.Core.Logic.{⊎_elim}
use mathlib.Core.Path.{◌≡◌, refl, sym, ap, ap₂, subst, ◌∙◌}
use mathlib.Core.Bool.{Bool, true, cond}
use mathlib.Core.List.{List, [], ◌∷◌}
use native.Mathlib.Decide.{ℕ_discrete}
use lib.Dec.{eqb, eqb-zero-suc, lit<}
use lib.IntN.{ℤ, pos, ◌+ℤ◌, ◌-ℤ◌, neg_ℤ, nat_abs, +ℤ_assoc, +ℤ_comm, +ℤ_idl, +ℤ_idr, +ℤ_invl, +ℤ-neg_ℤ_cancel}
use borrow.Author.Tests.{eq-eqb, ne_eqb}
use Rattle.park_format.specs.Park.{Park, inputs, transits}
use Rattle.park_format.specs.Rules.{measures_reactive}
use Rattle.park_format.specs.Accepted.{Every, KeptLine}
use Rattle.park_format.specs.declared.header.Header.{Header}
use Rattle.park_format.specs.declared.line.Line.{Line}
use Rattle.park_format.proofs.Lists.{every_map}
use Rattle.park_charge.specs.Flow.{inflow, outflow}
use Rattle.park_charge.specs.Losses.{settled, cut, settled_balance}
use Rattle.park_charge.specs.Rounding.{rounded, rounded_upper, rounded_lower}
use Rattle.park_charge.specs.Charge.{consumption_due, loss_charge}
use Rattle.park_sums.specs.Flows.{loss_in, loss_out}
use Rattle.park_sums.specs.Sums.{over_sites, sum_by, EachSite}
use Rattle.park_bill.specs.Bill.{bill, site_record, tangent_of, touching, weighted_at, weighted_sum}
use Rattle.park_sums.specs.Inner.Rows.{when}
use Rattle.park_bill.specs.Balance.{AllConsumptionDue, Measured, MeasuredBetween, coming_in, going_back, network_energy, Balance}
use Rattle.park_sums.proofs.Sums.{sum_by-add, sum_by_cong, sum_by-select}

-- sums over sites 1 to n
pub over_cong : (f g : ℕ → ℕ) (n : ℕ) → EachSite (λ (k : ℕ). f k ≡ g k) n → over_sites f n ≡ over_sites g n
unfolding over_sites
over_cong f g zero e = refl
over_cong f g (suc n) e = ap₂ ◌+◌ (over_cong f g n (λ k l h. e k l (omega arith))) (e (suc n) (omega arith) (omega arith))

over_add : (f g : ℕ → ℕ) (n : ℕ) → over_sites (λ (k : ℕ). f k + g k) n ≡ over_sites f n + over_sites g n
unfolding over_sites
over_add f g zero = refl
over_add f g (suc n) = omega (arith, over_add f g n)

pub over_none : (n : ℕ) → over_sites (λ (k : ℕ). 0) n ≡ 0
unfolding over_sites
over_none zero = refl
over_none (suc n) = omega (arith, over_none n)

pub over_zero : (f : ℕ → ℕ) (n : ℕ) → over_sites f n ≡ 0 → EachSite (λ (k : ℕ). f k ≡ 0) n
unfolding over_sites
over_zero f zero e k l h = absurd (not-suc-le-zero (le_trans l h))
over_zero f (suc n) e k l h =
    ⊎_elim (λ q. subst (λ (m : ℕ). f m ≡ 0) (sym q) (omega arith)) (λ m. over_zero f n (omega arith) k l (le_of_suc-le-suc m)) (eq-or-lt_of_le h)

-- the sum over the sites of sums over the lines, line by line
over_lines : (f : ℕ → Line → ℕ) (n : ℕ) (lines : List Line) → over_sites (λ (k : ℕ). sum_by (f k) lines) n ≡ sum_by (λ (l : Line). over_sites (λ (k : ℕ). f k l) n) lines
unfolding sum_by
over_lines f n [] = over_none n
over_lines f n (l ∷ lines) = over_add (λ (k : ℕ). f k l) (λ (k : ℕ). sum_by (f k) lines) n ∙ ap (λ (m : ℕ). over_sites (λ (k : ℕ). f k l) n + m) (over_lines f n lines)

-- an end that is a site is met once, and the network never
met_none : (g : ℕ → ℕ) (a n : ℕ) → n < a → over_sites (λ (k : ℕ). when (eqb a k) (g k)) n ≡ 0
unfolding over_sites
met_none g a zero h = refl
met_none g a (suc n) h =
    ap₂ ◌+◌ (met_none g a n (omega arith)) (ap (λ (b : Bool). when b (g (suc n))) (ne_eqb a (suc n) (λ e. omega arith)))

met_site : (g : ℕ → ℕ) (a n : ℕ) → 1 ≤ a → a ≤ n → over_sites (λ (k : ℕ). when (eqb a k) (g k)) n ≡ g a
unfolding over_sites
met_site g a zero l h = absurd (not-suc-le-zero (le_trans l h))
met_site g a (suc n) l h =
    ⊎_elim
    (λ e.
    ap₂ ◌+◌ (met_none g a n (omega arith)) (ap (λ (b : Bool). when b (g (suc n))) (eq-eqb a (suc n) e)) ∙ zero-add (g (suc n)) ∙ ap g (sym e))
    (λ m.
    ap₂ ◌+◌ (met_site g a n l (le_of_suc-le-suc m)) (ap (λ (b : Bool). when b (g (suc n))) (ne_eqb a (suc n) (λ e. omega arith))) ∙ add-zero (g a))
    (eq-or-lt_of_le h)

met_network : (g : ℕ → ℕ) (n : ℕ) → over_sites (λ (k : ℕ). when (eqb 0 k) (g k)) n ≡ 0
unfolding over_sites
met_network g zero = refl
met_network g (suc n) = ap₂ ◌+◌ (met_network g n) (ap (λ (b : Bool). when b (g (suc n))) (eqb-zero-suc n))

both : (P Q : Line → Type 0) (lines : List Line) → Every P lines → Every Q lines → Every (λ (l : Line). P l × Q l) lines
both P Q [] p q = tt
both P Q (l ∷ lines) p q = ((p.0, q.0), both P Q lines p.1 q.1)

-- the flow of a line with its meter is the same at both ends
same_flow : (tg : ℕ) (l : Line) → measures_reactive l.meters ≡ true → loss_in l ≡ loss_out tg l
unfolding inflow outflow
same_flow tg l e = rw e

-- what the rules say of the ends of a line, in a park of n sites
record Ends (n : ℕ) (l : Line) : Type 0 where
  from : l.from ≤ n
  to : l.to ≤ n
  not_both_network : l.from ≡ 0 → l.to ≡ 0 → ⊥

kept_ends : (h : Header) (lines : List Line) → Every (KeptLine h) lines → Every (Ends h.sites) lines
kept_ends h lines kept = every_map (KeptLine h) (Ends h.sites) (λ l k. record { from = k.from; to = k.to; not_both_network = k.not_both_network }) lines kept

-- one line: what its ends put into the sums of sites 1 to n and of the network comes to the same on both sides
line_cancels : (tg : ℕ → ℕ) (n : ℕ) (l : Line) → Ends n l → MeasuredBetween l
    → over_sites (λ (k : ℕ). when (eqb l.to k) (loss_in l)) n + when (eqb l.to 0) (loss_out (tg l.from) l)
    ≡ over_sites (λ (k : ℕ). when (eqb l.from k) (loss_out (tg k) l)) n + when (eqb l.from 0) (loss_in l)
line_cancels tg n l kept metered = by (ℕ_discrete l.from 0) (ℕ_discrete l.to 0)
  where
    -- an end at the network, or at a site
    to_network : l.to ≡ 0 → over_sites (λ (k : ℕ). when (eqb l.to k) (loss_in l)) n + when (eqb l.to 0) (loss_out (tg l.from) l) ≡ loss_out (tg l.from) l
    to_network e =
        ap₂ ◌+◌ (subst (λ (a : ℕ). over_sites (λ (k : ℕ). when (eqb a k) (loss_in l)) n ≡ 0) (sym e) (met_network (λ (k : ℕ). loss_in l) n))
        (ap (λ (b : Bool). when b (loss_out (tg l.from) l)) (eq-eqb l.to 0 e))
        ∙ zero-add _

    to_site : (l.to ≡ 0 → ⊥) → over_sites (λ (k : ℕ). when (eqb l.to k) (loss_in l)) n + when (eqb l.to 0) (loss_out (tg l.from) l) ≡ loss_in l
    to_site e =
        ap₂ ◌+◌ (met_site (λ (k : ℕ). loss_in l) l.to n (omega arith) kept.to)
        (ap (λ (b : Bool). when b (loss_out (tg l.from) l)) (ne_eqb l.to 0 e))
        ∙ add-zero _

    from_network : l.from ≡ 0 → over_sites (λ (k : ℕ). when (eqb l.from k) (loss_out (tg k) l)) n + when (eqb l.from 0) (loss_in l) ≡ loss_in l
    from_network e =
        ap₂ ◌+◌ (subst (λ (a : ℕ). over_sites (λ (k : ℕ). when (eqb a k) (loss_out (tg k) l)) n ≡ 0) (sym e) (met_network (λ (k : ℕ). loss_out (tg k) l) n))
        (ap (λ (b : Bool). when b (loss_in l)) (eq-eqb l.from 0 e))
        ∙ zero-add _

    from_site : (l.from ≡ 0 → ⊥) → over_sites (λ (k : ℕ). when (eqb l.from k) (loss_out (tg k) l)) n + when (eqb l.from 0) (loss_in l) ≡ loss_out (tg l.from) l
    from_site e =
        ap₂ ◌+◌ (met_site (λ (k : ℕ). loss_out (tg k) l) l.from n (omega arith) kept.from)
        (ap (λ (b : Bool). when b (loss_in l)) (ne_eqb l.from 0 e))
        ∙ add-zero _

    by : Dec (l.from ≡ 0) → Dec (l.to ≡ 0)
        → over_sites (λ (k : ℕ). when (eqb l.to k) (loss_in l)) n + when (eqb l.to 0) (loss_out (tg l.from) l)
        ≡ over_sites (λ (k : ℕ). when (eqb l.from k) (loss_out (tg k) l)) n + when (eqb l.from 0) (loss_in l)
    by (yes f) (yes t) = absurd (kept.not_both_network f t)
    by (yes f) (no t) = to_site t ∙ sym (from_network f)
    by (no f) (yes t) = to_network t ∙ sym (from_site f)
    by (no f) (no t) = to_site t ∙ same_flow (tg l.from) l (metered f t) ∙ sym (from_site f)

-- all lines: the sites' inflows with what goes back are the sites' outflows with what comes in
lines_cancel : (tg : ℕ → ℕ) (n : ℕ) (lines : List Line) → Every (Ends n) lines → Every MeasuredBetween lines
    → over_sites (λ (k : ℕ). sum_by loss_in (inputs k lines)) n + sum_by (λ (l : Line). loss_out (tg l.from) l) (inputs 0 lines)
    ≡ over_sites (λ (k : ℕ). sum_by (loss_out (tg k)) (transits k lines)) n + sum_by loss_in (transits 0 lines)
lines_cancel tg n lines kept metered =
    ap₂ ◌+◌
    (over_cong _ _ n (λ k l h. sum_by-select loss_in (λ (x : Line). eqb x.to k) lines) ∙ over_lines (λ (k : ℕ) (x : Line). when (eqb x.to k) (loss_in x)) n lines)
    (sum_by-select (λ (x : Line). loss_out (tg x.from) x) (λ (x : Line). eqb x.to 0) lines)
    ∙ sym (sum_by-add _ _ lines)
    ∙ sum_by_cong _ _ _ (λ l h. line_cancels tg n l h.0 h.1) lines (both _ _ lines kept metered)
    ∙ sum_by-add _ _ lines
    ∙ sym (ap₂ ◌+◌
    (over_cong _ _ n (λ k l h. sum_by-select (loss_out (tg k)) (λ (x : Line). eqb x.from k) lines) ∙ over_lines (λ (k : ℕ) (x : Line). when (eqb x.from k) (loss_out (tg k) x)) n lines)
    (sum_by-select loss_in (λ (x : Line). eqb x.from 0) lines))

-- the whole numbers behind the balance, for any park whose lines keep the rules
module _ (p : Park) (kept : Every (KeptLine p.header) p.lines) (measured : Measured p) where
  abbrev n : ℕ
  n = p.header.sites

  abbrev tangents : ℕ → ℕ
  tangents k = tangent_of (touching k p)

  abbrev sum_of : ℕ → ℤ
  sum_of k = weighted_sum (touching k p)

  -- each site: settled and out are in and cut
  site_split : (k : ℕ) → settled (sum_of k) + sum_by (loss_out (tangents k)) (transits k p.lines) ≡ sum_by loss_in (inputs k p.lines) + cut (sum_of k)
  unfolding weighted_at
  site_split k = settled_balance (sum_by loss_in (inputs k p.lines)) (sum_by (loss_out (tangents k)) (transits k p.lines))

  sites_split : over_sites (λ (k : ℕ). settled (sum_of k)) n + over_sites (λ (k : ℕ). sum_by (loss_out (tangents k)) (transits k p.lines)) n ≡ over_sites (λ (k : ℕ). sum_by loss_in (inputs k p.lines)) n + over_sites (λ (k : ℕ). cut (sum_of k)) n
  sites_split = sym (over_add _ _ n) ∙ over_cong _ _ n (λ k l h. site_split k) ∙ over_add _ _ n

  -- the park: settled and going back are coming in and cut
  pub park_split : over_sites (λ (k : ℕ). settled (sum_of k)) n + going_back p ≡ coming_in p + over_sites (λ (k : ℕ). cut (sum_of k)) n
  park_split = omega (arith, sites_split, lines_cancel tangents n p.lines (kept_ends p.header p.lines kept) measured)

-- from whole numbers to signed ones
signed : (a g c k : ℕ) → a + g ≡ c + k → pos a ≡ (pos c -ℤ pos g) +ℤ pos k
signed a g c k e =
    sym (+ℤ-neg_ℤ_cancel (pos a) (pos g))
    ∙ ap (λ (m : ℕ). pos m -ℤ pos g) e
    ∙ +ℤ_assoc (pos c) (pos k) (neg_ℤ (pos g))
    ∙ ap (λ (z : ℤ). pos c +ℤ z) (+ℤ_comm (pos k) (neg_ℤ (pos g)))
    ∙ sym (+ℤ_assoc (pos c) (neg_ℤ (pos g)) (pos k))

nothing_added : (z : ℤ) (k : ℕ) → z ≡ z +ℤ pos k → k ≡ 0
nothing_added z k e =
    ap nat_abs
    (sym (+ℤ_idl (pos k))
    ∙ ap (λ (y : ℤ). y +ℤ pos k) (sym (+ℤ_invl z))
    ∙ +ℤ_assoc (neg_ℤ z) z (pos k)
    ∙ ap (λ (y : ℤ). neg_ℤ z +ℤ y) (sym e)
    ∙ +ℤ_invl z)

-- prices rounded site by site, against the price of the whole
priced : (losses charges : ℕ → ℕ) (price n : ℕ) → EachSite (λ (k : ℕ). charges k ≡ loss_charge (losses k) price) n
    → (2 * (10000000 * over_sites charges n) ≤ 2 * (over_sites losses n * price) + 10000000 * n)
    × (2 * (over_sites losses n * price) ≤ 2 * (10000000 * over_sites charges n) + 10000000 * n)
unfolding over_sites loss_charge
priced losses charges price zero e = (omega (arith, zero-mul price), omega (arith, zero-mul price))
priced losses charges price (suc n) e =
    let rest = priced losses charges price n (λ k l h. e k l (omega arith)) in
    let split = add-mul (over_sites losses n) (losses (suc n)) price in
    let here : charges (suc n) ≡ rounded (losses (suc n) * price) 10000000 = e (suc n) (omega arith) (omega arith) in
    let up = rounded_upper (losses (suc n) * price) 10000000 in
    let low = rounded_lower (losses (suc n) * price) 10000000 (lit< tt) in
    (omega arith, omega arith)

-- a table of bills: its numbers are those of the sites
pub record Bills (p : Park) (bills : ℕ → ℕ → ℕ) : Type 0 where
  pub consumption : EachSite (λ (k : ℕ). bills k 1 ≡ (bill p k).consumption) p.header.sites
  pub settled : EachSite (λ (k : ℕ). bills k 3 ≡ (bill p k).settled) p.header.sites
  pub cut : EachSite (λ (k : ℕ). bills k 4 ≡ (bill p k).cut) p.header.sites
  pub charge : EachSite (λ (k : ℕ). bills k 6 ≡ (bill p k).pc) p.header.sites

module _ (p : Park) (kept : Every (KeptLine p.header) p.lines) (measured : Measured p) (bills : ℕ → ℕ → ℕ) (of : Bills p bills) where
  abbrev s : ℕ
  s = p.header.sites

  in_balance : pos (over_sites (λ (k : ℕ). bills k 3) s) ≡ network_energy p +ℤ pos (over_sites (λ (k : ℕ). bills k 4) s)
  in_balance =
      signed (over_sites (λ (k : ℕ). bills k 3) s) (going_back p) (coming_in p) (over_sites (λ (k : ℕ). bills k 4) s)
      (ap (λ (m : ℕ). m + going_back p) (over_cong _ _ s of.settled)
      ∙ park_split p kept measured
      ∙ ap (λ (m : ℕ). coming_in p + m) (sym (over_cong _ _ s of.cut)))

  equal_uncut : EachSite (λ (k : ℕ). bills k 4 ≡ 0) s → pos (over_sites (λ (k : ℕ). bills k 3) s) ≡ network_energy p
  equal_uncut none =
      in_balance
      ∙ ap (λ (m : ℕ). network_energy p +ℤ pos m) (over_cong _ _ s none ∙ over_none s)
      ∙ +ℤ_idr (network_energy p)

  is_due : AllConsumptionDue p bills → EachSite (λ (k : ℕ). consumption_due (site_record p k).power (bill p k).consumption ≡ true) s
  is_due due k l h = sym (ap (consumption_due (site_record p k).power) (of.consumption k l h)) ∙ due k l h

  due_charge : AllConsumptionDue p bills → EachSite (λ (k : ℕ). bills k 6 ≡ loss_charge (bills k 3) p.header.price) s
  due_charge due k l h =
      of.charge k l h
      ∙ ap (λ (b : Bool). cond b (loss_charge (bill p k).settled p.header.price) 0) (is_due due k l h)
      ∙ ap (λ (x : ℕ). loss_charge x p.header.price) (sym (of.settled k l h))

  pub balanced : Balance p bills
  balanced =
      record {
        step5 = λ k l h. (of.settled k l h, of.cut k l h);
        balance = in_balance;
        uncut = (λ e. over_zero _ s (nothing_added (network_energy p) _ (sym e ∙ in_balance)), equal_uncut);
        charges = λ none due. priced (λ (k : ℕ). bills k 3) (λ (k : ℕ). bills k 6) p.header.price s (due_charge due);
      }
