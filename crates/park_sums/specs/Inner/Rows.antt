-- What the walks over the lines add up for a site: a row of nine signed numbers, its inputs less its transits, and the meters that its lines lack;
-- and what its generators give.
-- Assumes nothing.
use Rattle.std.specs.Prelude.{ℕ, ◌+◌, ◌*◌, ◌≤◌, ◌<◌, ◌≡◌, Bool, cond, not, List, [], ◌∷◌, ℤ, pos, ◌+ℤ◌, ◌-ℤ◌, nat_abs, length, get_or, set}
use Rattle.std.specs.Int.Bits.{bit_or, bit_xor}
use Rattle.park_sums.specs.Sums.{all_of, sum_by}
use Rattle.park_sums.specs.declared.own.Given.{Given}
use Rattle.park_sums.specs.declared.walk.SiteSums.{SiteSums}
use Rattle.park_sums.specs.Flows.{flow_in, loss_in, outputs, produced}
use Rattle.park_charge.specs.Flow.{estimated_out, tangent}
use Rattle.park_charge.specs.Losses.{above_zero}
use Rattle.park_format.specs.Limits.{latest_version, most_eerp, most_losses, most_mark, most_net, most_reading, most_readings, most_sites}
use Rattle.park_format.specs.Park.{generators_at, inputs, Park, transits}
use Rattle.park_format.specs.Rules.{is_empty, measures_generated, measures_night, measures_reactive}
use Rattle.park_format.specs.declared.generator.Generator.{Generator}
use Rattle.park_format.specs.declared.line.Line.{Line}

-- places of a row: WP of the lines that count for the tangent, the reactive flow, WG, WN, and the last three times D; of inputs alone, D and how many
abbrev pub size : ℕ
size = 9

abbrev pub active : ℕ
active = 0

abbrev pub flow : ℕ
flow = 1

abbrev pub generated : ℕ
generated = 2

abbrev pub night : ℕ
night = 3

abbrev pub losses : ℕ
losses = 4

abbrev pub generated_losses : ℕ
generated_losses = 5

abbrev pub night_losses : ℕ
night_losses = 6

abbrev pub eerp : ℕ
eerp = 7

abbrev pub count : ℕ
count = 8

-- the network, and as many sites as a park may have
abbrev pub places : ℕ
places = most_sites + 1

-- x if on, else 0
abbrev pub when : Bool → ℕ → ℕ
when on x = cond on x 0

-- what an input adds to the row of the site that it goes to
abbrev pub gains : Line → List ℕ
gains l = l.active ∷ flow_in l ∷ l.generated ∷ l.night ∷ loss_in l ∷ l.generated * l.eerp ∷ l.night * l.eerp ∷ l.eerp ∷ 1 ∷ []

-- what a transit takes from the row of the site that it leaves, but for the flow of one without a meter, which needs the tangent
abbrev pub takes : Line → List ℕ
takes l = when (measures_reactive l.meters) l.active ∷ l.reactive ∷ l.generated ∷ l.night ∷ l.reactive * l.eerp ∷ l.generated * l.eerp ∷ l.night * l.eerp ∷ 0 ∷ 0 ∷ []

-- the flow of a transit without a meter of reactive consumption, by the tangent of the site that it leaves; else 0
abbrev pub unmetered_flow : ℕ → Line → ℕ
unmetered_flow tg l = estimated_out tg (when (not (measures_reactive l.meters)) l.active)

-- what it takes in the second walk
abbrev pub takes_later : ℕ → Line → List ℕ
takes_later tg l = 0 ∷ unmetered_flow tg l ∷ 0 ∷ 0 ∷ unmetered_flow tg l * l.eerp ∷ 0 ∷ 0 ∷ 0 ∷ 0 ∷ []

-- number i of a row, and of a line
abbrev pub at : List ℤ → ℕ → ℤ
at row i = get_or row i (pos 0)

abbrev pub gain : ℕ → Line → ℕ
gain i l = get_or (gains l) i 0

abbrev pub taken : ℕ → Line → ℕ
taken i l = get_or (takes l) i 0

abbrev pub taken_later : ℕ → ℕ → Line → ℕ
taken_later tg i l = get_or (takes_later tg l) i 0

-- a line whose numbers are small enough to be added
pub record SmallLine (l : Line) : Type 0 where
  pub active : l.active ≤ most_reading
  pub reactive : l.reactive ≤ most_reading
  pub eerp : l.eerp ≤ most_eerp
  pub generated : l.generated ≤ most_reading
  pub night : l.night ≤ most_reading

-- a row that has room for a line
pub record Room (row : List ℤ) : Type 0 where
  pub numbers : length row ≡ size
  pub near : (i : ℕ) → i < size → nat_abs (at row i) ≤ most_net

-- a row with numbers added to it, and taken from it
pub record IsSum (row before : List ℤ) (more : List ℕ) : Type 0 where
  pub numbers : length row ≡ size
  pub sum : (i : ℕ) → i < size → at row i ≡ at before i +ℤ pos (get_or more i 0)

pub record IsDifference (row before : List ℤ) (less : List ℕ) : Type 0 where
  pub numbers : length row ≡ size
  pub difference : (i : ℕ) → i < size → at row i ≡ at before i -ℤ pos (get_or less i 0)

-- the row of a site with these inputs and these transits, after the first walk
pub record IsNet (row : List ℤ) (ins outs : List Line) : Type 0 where
  pub numbers : length row ≡ size
  pub net : (i : ℕ) → i < size → at row i ≡ pos (sum_by (gain i) ins) -ℤ pos (sum_by (taken i) outs)

-- and less what these transits take in the second walk
pub record IsLess (tg : ℕ) (row before : List ℤ) (outs : List Line) : Type 0 where
  pub numbers : length row ≡ size
  pub less : (i : ℕ) → i < size → at row i ≡ at before i -ℤ pos (sum_by (taken_later tg i) outs)

-- number i of a row, 0 if it is negative
abbrev pub net_at : List ℤ → ℕ → ℕ
net_at row i = above_zero (at row i)

-- step 2, from a row after the first walk: WP0 with what a site's generators and its lines' active generation add, and its tangent
abbrev pub active_from : ℤ → List ℤ → ℕ
active_from more row = above_zero (at row active +ℤ more)

abbrev pub tangent_from : ℤ → List ℤ → ℕ
tangent_from more row = tangent (active_from more row) (net_at row flow)

pub record RoomForTangent (row : List ℤ) : Type 0 where
  pub room : Room row
  pub flow : net_at row flow ≤ most_readings

-- what is added to a site's WP0: nothing where it has no generator; else its generators' output and its transits' active generation, less its
-- inputs'
abbrev pub with_output : ℕ → List Line → List Line → ℤ
with_output output ins outs = pos (output + produced outs) -ℤ pos (produced ins)

abbrev pub more_at : ℕ → Park → ℤ
more_at k p =
    cond (is_empty (generators_at k p.generators)) (pos 0)
    (with_output (outputs (generators_at k p.generators)) (inputs k p.lines) (transits k p.lines))

-- what the generators of a site give together, and how many they are
pub record IsGiven (given : Given) (generators : List Generator) : Type 0 where
  pub output : given.output ≡ outputs generators
  pub count : given.count ≡ length generators

-- one generator more, if it is of the site
pub record GivenAt (site : ℕ) (g : Generator) (before after : Given) : Type 0 where
  pub elsewhere : (g.site ≡ site → ⊥) → after ≡ before
  pub here : g.site ≡ site → after ≡ record { output = before.output + g.output; count = before.count + 1 }

-- the meters that a line lacks
abbrev pub lacked : Line → ℕ
lacked l = bit_xor (most_mark latest_version) l.meters

-- the meters of generation that some of these lines lack: a meter that is none of them is one of every line
pub record Lacking (lacks : ℕ) (lines : List Line) : Type 0 where
  pub generated : not (measures_generated lacks) ≡ all_of (λ (l : Line). measures_generated l.meters) lines
  pub night : not (measures_night lacks) ≡ all_of (λ (l : Line). measures_night l.meters) lines

-- rows of the first walk, with room for the second
pub record IsNear (row : List ℤ) : Type 0 where
  pub numbers : length row ≡ size
  pub near : (i : ℕ) → i < size → nat_abs (at row i) ≤ most_losses

-- what stands for a site past the last
abbrev pub no_sums : SiteSums
no_sums = record { row = []; tangent = 0; input_lacks = 0; transit_lacks = 0 }

abbrev pub sums_at : List SiteSums → ℕ → SiteSums
sums_at sums k = get_or sums k no_sums

-- what the first walk adds up for one site, of the inputs among some lines and the transits among others
pub record IsSiteSums (k : ℕ) (s : SiteSums) (into out : List Line) : Type 0 where
  pub net : IsNet s.row (inputs k into) (transits k out)
  pub inputs : Lacking s.input_lacks (inputs k into)
  pub transits : Lacking s.transit_lacks (transits k out)

-- and for every site, and for the network at 0
pub record AreSums (sums : List SiteSums) (into out : List Line) : Type 0 where
  pub sites : length sums ≡ places
  pub site : (k : ℕ) → k < places → IsSiteSums k (sums_at sums k) into out

-- less what the second walk takes, each site by its tangent
pub record AreLess (sums before : List SiteSums) (lines : List Line) : Type 0 where
  pub sites : length sums ≡ places
  pub row : (k : ℕ) → k < places → IsLess (sums_at before k).tangent (sums_at sums k).row (sums_at before k).row (transits k lines)
  pub rest : (k : ℕ) → k < places → sums_at sums k ≡ record (sums_at before k) { row = (sums_at sums k).row }

pub record AreNear (sums : List SiteSums) : Type 0 where
  pub sites : length sums ≡ places
  pub row : (k : ℕ) → k < places → IsNear (sums_at sums k).row

-- the same sums, but with the tangents of sites 1 to s, by the generators of each
pub record AreTangents (sums before : List SiteSums) (p : Park) (s : ℕ) : Type 0 where
  pub sites : length sums ≡ places
  pub tangent : (k : ℕ) → 1 ≤ k → k ≤ s → (sums_at sums k).tangent ≡ tangent_from (more_at k p) (sums_at before k).row
  pub rest : (k : ℕ) → k < places → sums_at sums k ≡ record (sums_at before k) { tangent = (sums_at sums k).tangent }

-- the sums of a site with one line more, as an input, and as a transit
pub record WithInput (l : Line) (before after : SiteSums) : Type 0 where
  pub row : IsSum after.row before.row (gains l)
  pub inputs : after.input_lacks ≡ bit_or before.input_lacks (lacked l)
  pub transits : after.transit_lacks ≡ before.transit_lacks

pub record WithTransit (l : Line) (before after : SiteSums) : Type 0 where
  pub row : IsDifference after.row before.row (takes l)
  pub inputs : after.input_lacks ≡ before.input_lacks
  pub transits : after.transit_lacks ≡ bit_or before.transit_lacks (lacked l)

-- a line added at both its ends
pub record AddsLine (l : Line) (before after : List SiteSums) : Type 0 where
  pub input : SiteSums
  pub transit : SiteSums
  pub is_input : WithInput l (sums_at before l.to) input
  pub is_transit : WithTransit l (sums_at (set before l.to input) l.from) transit
  pub are : after ≡ set (set before l.to input) l.from transit

-- one line more at one of its ends, if that is the site
pub record InputAt (site : ℕ) (l : Line) (before after : SiteSums) : Type 0 where
  pub elsewhere : (l.to ≡ site → ⊥) → after ≡ before
  pub here : l.to ≡ site → WithInput l before after

pub record TransitAt (site : ℕ) (l : Line) (before after : SiteSums) : Type 0 where
  pub elsewhere : (l.from ≡ site → ⊥) → after ≡ before
  pub here : l.from ≡ site → WithTransit l before after

-- at both
pub record LineAt (site : ℕ) (l : Line) (before after : SiteSums) : Type 0 where
  pub between : SiteSums
  pub input : InputAt site l before between
  pub transit : TransitAt site l between after

pub record LessAt (site tangent : ℕ) (l : Line) (before after : List ℤ) : Type 0 where
  pub elsewhere : (l.from ≡ site → ⊥) → after ≡ before
  pub row : l.from ≡ site → IsDifference after before (takes_later tangent l)
