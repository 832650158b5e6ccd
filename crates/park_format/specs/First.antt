-- Version 1 of the park file is what it was before version 2 (02, R-5 and R-8). `first_fields` of proofs/First.antt proves the first of these laws,
-- and so on.
-- Assumes nothing.
use Rattle.std.specs.Prelude.{ℕ, ◌+◌, ◌*◌, ◌≡◌, Bool, true, false, not, ◌&&◌, ◌||◌, List, [], ◌∷◌, ◌++◌, map, eqb, ltb}
use Rattle.park_format.specs.Format.{header_widths, line_widths}
use Rattle.park_format.specs.Limits.{months, most_discount, most_eerp, most_installed, most_lines, most_power, most_price, most_reading, most_sites}
use Rattle.park_format.specs.Made.{Lacking}
use Rattle.park_format.specs.Park.{header_of, Park, park_of}
use Rattle.park_format.specs.Rules.{backwards, both_network, each, end_above, first_broken, has_wrong_length, input_rules, is_short, measures_generated, measures_night, measures_produced, measures_reactive, most_hours, park_mark, refusal, Row, says_devices, says_station, size_of, start_rules, without_meter, wrong_flag, wrong_meters, zero_or_above}
use Rattle.park_format.specs.Rules.Row.{rule}
use Rattle.park_format.specs.declared.header.Header.{Header}
use Rattle.park_format.specs.declared.line.Line.{Line}
use Rattle.park_format.specs.declared.site.Site.{Site}

-- its header and its lines have the fields that 01 gives them
pub record FirstFields : Type 0 where
  pub header : header_widths 1 ≡ 3 ∷ 2 ∷ 1 ∷ 1 ∷ 1 ∷ 4 ∷ 2 ∷ []
  pub line : line_widths 1 ≡ 1 ∷ 1 ∷ 1 ∷ 2 ∷ 4 ∷ 4 ∷ 4 ∷ 4 ∷ []

-- a file of it has no generators, and no active generation
abbrev pub FirstLacks : Type 0
FirstLacks = (file : List ℕ) → (header_of file).version ≡ 1 → Lacking (park_of file) × ((park_of file).generators ≡ [])

-- and the length that 9 asks for is 14 + 11s + 21n
abbrev pub FirstLength : Type 0
FirstLength =
    (file : List ℕ) → (header_of file).version ≡ 1 → size_of (header_of file) ≡ 14 + 11 * (header_of file).sites + 21 * (header_of file).lines

-- the rules as they stood before version 2: 3 for every version but 1, a flag of 0 or 1, a mark of at most 7, four readings, and no row for generators
abbrev pub first_header_rules : Bool → Header → List Row
first_header_rules wrongLength h =
    rule 2 0 (not (eqb h.mark park_mark))
    ∷ rule 3 0 (not (eqb h.version 1))
    ∷ rule 4 0 (zero_or_above months h.month)
    ∷ rule 5 0 (zero_or_above most_sites h.sites)
    ∷ rule 6 0 (zero_or_above most_lines h.lines)
    ∷ rule 7 0 (zero_or_above most_price h.price)
    ∷ rule 8 0 (ltb (most_hours h.month) h.hours)
    ∷ rule 9 0 wrongLength
    ∷ []

abbrev pub first_wrong_device : Site → ℕ → Bool
first_wrong_device x installed = ltb most_installed installed || (eqb x.flag 0 && not (eqb installed 0))

abbrev pub first_site_rules : ℕ → Site → List Row
first_site_rules k x =
    rule 10 k (zero_or_above most_power x.power)
    ∷ rule 11 k (ltb 1 x.flag)
    ∷ rule 12 k (first_wrong_device x x.compensation || first_wrong_device x x.motors)
    ∷ rule 13 k (ltb most_discount x.discount)
    ∷ []

abbrev pub first_line_rules : ℕ → ℕ → Line → List Row
first_line_rules s k l =
    rule 14 k (end_above s l)
    ∷ rule 23 k (both_network l)
    ∷ rule 24 k (backwards l)
    ∷ rule 15 k (ltb 7 l.meters || (measures_night l.meters && not (measures_generated l.meters)))
    ∷ rule 16 k (zero_or_above most_eerp l.eerp)
    ∷ rule 17 k (ltb most_reading l.active || (ltb most_reading l.reactive || (ltb most_reading l.generated || ltb most_reading l.night)))
    ∷ rule 18 k
    (without_meter (measures_reactive l.meters) l.reactive
    || (without_meter (measures_generated l.meters) l.generated
    || (without_meter (measures_night l.meters) l.night
    || ltb l.generated l.night)))
    ∷ []

abbrev pub first_rules : Bool → Bool → Park → List Row
first_rules short wrongLength p =
    (start_rules short ++ first_header_rules wrongLength p.header)
    ++ (each first_site_rules 1 p.sites
    ++ (each (first_line_rules p.header.sites) 1 p.lines
    ++ each (input_rules p.lines) 1 p.sites))

-- of a file of version 1 they say what is said now
abbrev pub FirstRefused : Type 0
FirstRefused =
    (file : List ℕ) → (header_of file).version ≡ 1
    → refusal file ≡ first_broken (first_rules (is_short file) (has_wrong_length file) (park_of file))

-- two tests of a meter mark that answer alike for each mark of version 1
abbrev pub AlikeOf : (ℕ → Bool) → (ℕ → Bool) → Type 0
AlikeOf one other =
    let marks : List ℕ = 0 ∷ 1 ∷ 2 ∷ 3 ∷ 4 ∷ 5 ∷ 6 ∷ 7 ∷ [] in
    map one marks ≡ map other marks

-- 8 in a mark: it goes in version 2 with each mark that version 1 accepts, and with no other, and tells nothing of the other meters
pub record FirstMarks : Type 0 where
  pub without : AlikeOf (wrong_meters 2) (wrong_meters 1)
  pub beside : AlikeOf (λ (mark : ℕ). wrong_meters 2 (8 + mark)) (wrong_meters 1)
  pub reactive : AlikeOf (λ (mark : ℕ). measures_reactive (8 + mark)) measures_reactive
  pub generated : AlikeOf (λ (mark : ℕ). measures_generated (8 + mark)) measures_generated
  pub night : AlikeOf (λ (mark : ℕ). measures_night (8 + mark)) measures_night
  pub has : AlikeOf (λ (mark : ℕ). measures_produced (8 + mark)) (λ (_ : ℕ). true)
  pub lacks : AlikeOf measures_produced (λ (_ : ℕ). false)

-- two tests of a flag that answer alike for each flag of version 1
abbrev pub FlagsAlike : (ℕ → Bool) → (ℕ → Bool) → Type 0
FlagsAlike one other =
    let flags : List ℕ = 0 ∷ 1 ∷ [] in
    map one flags ≡ map other flags

-- 2 in a flag: it goes in version 2 with each flag that version 1 accepts, and with no other, and tells nothing of devices; in version 1 every flag
-- but 0 says them
pub record FirstFlags : Type 0 where
  pub without : FlagsAlike (wrong_flag 2) (wrong_flag 1)
  pub beside : (flag : ℕ) → wrong_flag 2 (2 + flag) ≡ wrong_flag 1 flag
  pub former : FlagsAlike says_devices (λ (flag : ℕ). not (eqb flag 0))
  pub devices : (flag : ℕ) → says_devices (2 + flag) ≡ says_devices flag
  pub has : FlagsAlike (λ (flag : ℕ). says_station (2 + flag)) (λ (_ : ℕ). true)
  pub lacks : FlagsAlike says_station (λ (_ : ℕ). false)
