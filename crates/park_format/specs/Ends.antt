-- The ends of a line (02, R-2): which of rules 14, 23 and 24 is told, what it means, and that they refuse what the one rule 14 of 01 refused.
-- `ends_told` of proofs/Ends.antt proves the first of these laws, and so on; the last two are in proofs/Former.antt.
-- Assumes nothing.
use Rattle.std.specs.Prelude.{ℕ, ◌-◌, ◌≤◌, ◌<◌, ◌↔◌, ◌⊎◌, ◌≡◌, Bool, cond, ◌||◌, List, [], ◌∷◌, eqb, get_or, length}
use Rattle.std.proofs.Math.Option.{Option, none, some}
use Rattle.park_format.specs.Limits.{most_eerp}
use Rattle.park_format.specs.Park.{no_line, Park, park_of}
use Rattle.park_format.specs.Rules.{Row, backwards, both_network, end_above, first_broken, has_wrong_length, is_short, line_rules, reading_above, refusal, rules_of, rules_with, wrong_meters, wrong_readings, zero_or_above}
use Rattle.park_format.specs.Rules.Row.{rule}
use Rattle.park_format.specs.declared.header.Header.{Header}
use Rattle.park_format.specs.declared.line.Line.{Line}

-- a line of a park of s sites: an end is above s
abbrev pub EndAbove : ℕ → Line → Type 0
EndAbove s l = (s < l.from) ⊎ (s < l.to)

-- both ends are the network
abbrev pub BothNetwork : Line → Type 0
BothNetwork l = (l.from ≡ 0) × (l.to ≡ 0)

-- two sites of the park, the first not below the second
abbrev pub OutOfOrder : ℕ → Line → Type 0
OutOfOrder s l = (1 ≤ l.to) × ((l.to ≤ l.from) × (l.from ≤ s))

-- line k of a park with that header is refused by each of the three numbers exactly when it has the fault, whatever else is wrong with it
pub record Told (h : Header) (k : ℕ) (l : Line) : Type 0 where
  pub above : (place : ℕ) → (first_broken (line_rules h k l) ≡ some (14, place)) ↔ ((place ≡ k) × EndAbove h.sites l)
  pub network : (place : ℕ) → (first_broken (line_rules h k l) ≡ some (23, place)) ↔ ((place ≡ k) × BothNetwork l)
  pub out_of_order : (place : ℕ) → (first_broken (line_rules h k l) ≡ some (24, place)) ↔ ((place ≡ k) × OutOfOrder h.sites l)

abbrev pub EndsTold : Type 0
EndsTold = (h : Header) (k : ℕ) (l : Line) → Told h k l

-- the place is a line of the park, and that line has the fault
pub record Meant (p : Park) (place : ℕ) (Fault : Line → Type 0) : Type 0 where
  pub line : (1 ≤ place) × (place ≤ length p.lines)
  pub fault : Fault (get_or p.lines (place - 1) no_line)

-- what a refusal by one of the three means
pub record MeantBy (refused : Option (ℕ × ℕ)) (p : Park) : Type 0 where
  pub above : (place : ℕ) → refused ≡ some (14, place) → Meant p place (EndAbove p.header.sites)
  pub network : (place : ℕ) → refused ≡ some (23, place) → Meant p place BothNetwork
  pub out_of_order : (place : ℕ) → refused ≡ some (24, place) → Meant p place (OutOfOrder p.header.sites)

-- of every table, and so of every file
abbrev pub EndsMeant : Type 0
EndsMeant = (short wrongLength : Bool) (p : Park) → MeantBy (first_broken (rules_of short wrongLength p)) p

abbrev pub FileEndsMeant : Type 0
FileEndsMeant = (file : List ℕ) → MeantBy (refusal file) (park_of file)

-- 14 in 01: any of the three
abbrev pub wrong_ends : ℕ → Line → Bool
wrong_ends s l = end_above s l || (both_network l || backwards l)

-- a line's rows with 01's one rule for its ends
abbrev pub former_line_rules : Header → ℕ → Line → List Row
former_line_rules h k l =
    rule 14 k (wrong_ends h.sites l)
    ∷ rule 15 k (wrong_meters h.version l.meters)
    ∷ rule 16 k (zero_or_above most_eerp l.eerp)
    ∷ rule 17 k (reading_above l)
    ∷ rule 18 k (wrong_readings l)
    ∷ []

-- a refusal with its number in 01
abbrev pub former_number : ℕ → ℕ
former_number n = cond (eqb n 23 || eqb n 24) 14 n

abbrev pub formerly : Option (ℕ × ℕ) → Option (ℕ × ℕ)
formerly none = none
formerly (some r) = some (former_number r.0, r.1)

-- the table with 01's one rule for the ends accepts the same parks, and refuses at the same place and by the same number, but for 14, where now it is 14, 23
-- or 24
abbrev pub SameRefused : Type 0
SameRefused =
    (short wrongLength : Bool) (p : Park)
    → first_broken (rules_with former_line_rules short wrongLength p) ≡ formerly (first_broken (rules_of short wrongLength p))

-- what the table with 01's one rule for the ends says of a file
abbrev pub former_refusal : List ℕ → Option (ℕ × ℕ)
former_refusal file = first_broken (rules_with former_line_rules (is_short file) (has_wrong_length file) (park_of file))

-- and so of every file
abbrev pub SameFilesRefused : Type 0
SameFilesRefused = (file : List ℕ) → former_refusal file ≡ formerly (refusal file)
