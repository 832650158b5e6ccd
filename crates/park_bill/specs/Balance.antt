-- The loss balance (demand 3; 01, the paragraph after the eleven numbers; 02, R-5, of both versions, R-7, and R-8, of power stations too), for every
-- accepted park whose lines between two sites all have a meter of reactive consumption. It speaks of what a line carries at its ends, of no version,
-- of no kind of site and of no way to the surcharge.
-- Assumes nothing.
use Rattle.std.specs.Prelude.{ℕ, ◌+◌, ◌*◌, ◌-◌, ◌≤◌, ◌↔◌, ◌≡◌, true, cond, List, eqb, ℤ, pos, ◌+ℤ◌, ◌-ℤ◌, get_or, length}
use Rattle.park_format.specs.Park.{Park, inputs, park_of, transits}
use Rattle.park_format.specs.Rules.{IsAccepted, measures_reactive}
use Rattle.park_format.specs.Accepted.{Every}
use Rattle.park_format.specs.declared.line.Line.{Line}
use Rattle.park_charge.specs.Losses.{settled, cut}
use Rattle.park_charge.specs.Charge.{consumption_due}
use Rattle.park_sums.specs.Sums.{over_sites, sum_by, EachSite}
use Rattle.park_sums.specs.Flows.{loss_in, loss_out}
use Rattle.park_bill.specs.Bill.{bill_numbers, site_record, tangent_of, touching, weighted_sum}
use Rattle.park_bill.specs.Reply.{in_list, in_reply, list_after, site_outcome}

-- the condition: a line between two sites has a meter of reactive consumption
abbrev pub MeasuredBetween : Line → Type 0
MeasuredBetween l = (l.from ≡ 0 → ⊥) → (l.to ≡ 0 → ⊥) → measures_reactive l.meters ≡ true

abbrev pub Measured : Park → Type 0
Measured p = Every MeasuredBetween p.lines

-- losses in from the network (step 1's flow), back to it (step 3's, at the tangent of the line's own site), and the energy, maybe negative
abbrev pub coming_in : Park → ℕ
coming_in p = sum_by loss_in (transits 0 p.lines)

abbrev pub going_back : Park → ℕ
going_back p =
    sum_by (λ (l : Line). loss_out (tangent_of (touching l.from p)) l) (inputs 0 p.lines)

abbrev pub network_energy : Park → ℤ
network_energy p = pos (coming_in p) -ℤ pos (going_back p)

-- number j added over the sites, and that it is 0 at each: `bills k j` is number j of site k, 1 consumption, 3 settled, 4 the cut, 6 Pc
abbrev pub added : Park → (ℕ → ℕ → ℕ) → ℕ → ℕ
added p bills j = over_sites (λ (k : ℕ). bills k j) p.header.sites

abbrev pub AllZero : Park → (ℕ → ℕ → ℕ) → ℕ → Type 0
AllZero p bills j = EachSite (λ (k : ℕ). bills k j ≡ 0) p.header.sites

-- step 7 (02, R-7): the consumption charge of every site is due, by its power and its consumption
abbrev pub AllConsumptionDue : Park → (ℕ → ℕ → ℕ) → Type 0
AllConsumptionDue p bills =
    EachSite (λ (k : ℕ). consumption_due (site_record p k).power (bills k 1) ≡ true) p.header.sites

-- step 5's weighted sum of site k
abbrev pub sum_at : Park → ℕ → ℤ
sum_at p k = weighted_sum (touching k p)

-- the charges are within half a kopeck a site of the price of the settled energy, energy × T / 10,000,000
abbrev pub ChargesWithin : Park → (ℕ → ℕ → ℕ) → Type 0
ChargesWithin p bills =
    (2 * (10000000 * added p bills 6) ≤ 2 * (added p bills 3 * p.header.price) + 10000000 * p.header.sites)
    × (2 * (added p bills 3 * p.header.price) ≤ 2 * (10000000 * added p bills 6) + 10000000 * p.header.sites)

pub record Balance (p : Park) (bills : ℕ → ℕ → ℕ) : Type 0 where
  -- each site's settled losses and cut are those of step 5
  pub step5 : EachSite (λ (k : ℕ). (bills k 3 ≡ settled (sum_at p k)) × (bills k 4 ≡ cut (sum_at p k))) p.header.sites
  -- settled losses = losses in − losses back + cuts
  pub balance : pos (added p bills 3) ≡ network_energy p +ℤ pos (added p bills 4)
  -- the two energies are equal if and only if no site is cut
  pub uncut : (pos (added p bills 3) ≡ network_energy p) ↔ AllZero p bills 4
  -- if no site is cut and all consumption charges are due, the charges are within half a kopeck a site (by `uncut`, of either energy)
  pub charges : AllZero p bills 4 → AllConsumptionDue p bills → ChargesWithin p bills

-- what bill_park promises of the list that it leaves
abbrev pub InBalance : List ℕ → List ℕ → List ℕ → Type 0
InBalance file before after =
    IsAccepted file → Measured (park_of file) → bill_numbers * (park_of file).header.sites ≤ length before → Balance (park_of file) (in_list after)

-- number j of site k: of one site as it is given, of every other as bill_site is defined to reply it
abbrev pub with_numbers : List ℕ → ℕ → List ℕ → ℕ → ℕ → ℕ
with_numbers file site numbers k j = cond (eqb k site) (get_or numbers (j - 1) 0) (in_reply (site_outcome file k) j)

-- what bill_site promises of the numbers that it returns, of which a refusal has none: a site of the park gets all of them, and every table
-- of bills that has them at the site asked for, and the defined replies at the other sites, is in balance
abbrev pub SiteInBalance : List ℕ → ℕ → List ℕ → Type 0
SiteInBalance file site numbers =
    IsAccepted file → Measured (park_of file)
    → (1 ≤ site → site ≤ (park_of file).header.sites → length numbers ≡ bill_numbers)
    × ((bills : ℕ → ℕ → ℕ) → EachSite (λ (k : ℕ). (j : ℕ) → bills k j ≡ with_numbers file site numbers k j) (park_of file).header.sites → Balance (park_of file) bills)

-- the replies of bill_site for all sites
abbrev pub RepliesInBalance : List ℕ → Type 0
RepliesInBalance file = IsAccepted file → Measured (park_of file) → Balance (park_of file) (λ (k j : ℕ). in_reply (site_outcome file k) j)

-- the theorem (`loss_balance` of Outcomes is its proof): for what bill_park leaves in every list with room, and for bill_site
abbrev pub LossBalance : Type 0
LossBalance = ((file before : List ℕ) → InBalance file before (list_after file before)) × ((file : List ℕ) → RepliesInBalance file)
