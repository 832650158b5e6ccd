-- The rules of the park file (01, "Where each thing is checked"; 23 and 24: 02, R-2; 25 to 27: R-5; the flag: R-8): the table row by row, and the
-- refusal that it puts first.
-- A file is accepted when no row is broken. No other condition refuses.
-- Assumes nothing.
use Rattle.std.specs.Prelude.{ℕ, suc, ◌-◌, ◌/◌, ◌%◌, ◌≤◌, ◌⊎◌, ◌≡◌, Bool, true, false, cond, not, ◌&&◌, ◌||◌, List, [], ◌∷◌, ◌++◌, ltb, leb, eqb, length, get_or, Result, Ok, Err}
use Rattle.std.proofs.Math.Option.{Option, none, some}
use Rattle.park_format.specs.Format.{file_size, shortest_header}
use Rattle.park_format.specs.Limits.{latest_version, months, most_discount, most_eerp, most_flag, most_generators, most_installed, most_lines, most_mark, most_power, most_price, most_reading, most_sites}
use Rattle.park_format.specs.Park.{Park, header_of, inputs, no_site, park_of}
use Rattle.park_format.specs.declared.header.Header.{Header}
use Rattle.park_format.specs.declared.site.Site.{Site}
use Rattle.park_format.specs.declared.line.Line.{Line}
use Rattle.park_format.specs.declared.generator.Generator.{Generator}
use Rattle.park_format.specs.declared.rule.Refusal.{Refusal}
use Rattle.park_format.specs.declared.rule.Rule.{Rule}
use Rattle.park_format.specs.declared.rule.Rule.TheVariants as rules

-- a row of the table: the rule's number, the place, and whether the rule is broken there. The place is the site, the line or the generator,
-- counted from 1, for 10 to 19, 23, 24, 26 and 27, else 0
pub data Row : Type 0 where
  rule : ℕ → ℕ → Bool → Row

-- the numbers of the table's rows. 20 to 22 belong to the calls
abbrev pub OfTable : ℕ → Type 0
OfTable n = ((1 ≤ n) × (n ≤ 19)) ⊎ ((23 ≤ n) × (n ≤ 27))

-- number and place of the first broken row, if there is one
unfoldable pub first_broken : List Row → Option (ℕ × ℕ)
first_broken [] = none
first_broken (rule number place broken ∷ rows) = cond broken (some (number, place)) (first_broken rows)

-- the number by which a rule is told
abbrev pub rule_number : Rule → ℕ
rule_number rules.TooShort = 1
rule_number rules.Mark = 2
rule_number rules.Version = 3
rule_number rules.Month = 4
rule_number rules.Sites = 5
rule_number rules.Lines = 6
rule_number rules.Price = 7
rule_number rules.Hours = 8
rule_number rules.Generators = 25
rule_number rules.Length = 9
rule_number rules.Power = 10
rule_number rules.Flag = 11
rule_number rules.Devices = 12
rule_number rules.Discount = 13
rule_number rules.EndAbove = 14
rule_number rules.BothNetwork = 23
rule_number rules.Backwards = 24
rule_number rules.Meters = 15
rule_number rules.Eerp = 16
rule_number rules.ReadingAbove = 17
rule_number rules.Readings = 18
rule_number rules.GeneratorSite = 26
rule_number rules.GeneratorOutput = 27
rule_number rules.Unfed = 19
rule_number rules.NoSuchSite = 20
rule_number rules.ShortList = 21
rule_number rules.ShortBuffer = 22

-- a broken rule, if there is one, told at a place
abbrev pub broken_at : {A : Type 0} → Result A Rule → ℕ → Option (ℕ × ℕ)
broken_at (Ok kept) place = none
broken_at (Err broken) place = some (rule_number broken, place)

-- number and place of a refusal; `none` is accepted
abbrev pub refusal_of : {A : Type 0} → Result A Refusal → Option (ℕ × ℕ)
refusal_of (Ok accepted) = none
refusal_of (Err r) = some (rule_number r.rule, r.place)

-- 8: most hours a month may state, January to December
abbrev pub month_hours : List ℕ
month_hours = 744 ∷ 696 ∷ 743 ∷ 720 ∷ 744 ∷ 720 ∷ 744 ∷ 744 ∷ 720 ∷ 745 ∷ 720 ∷ 744 ∷ []

-- 2: the letters PRK, lowest byte first: P is 0x50, R 0x52, K 0x4b
abbrev pub park_mark : ℕ
park_mark = 0x4b5250

-- 3 to 7, 10, 16, 26: x is 0, or above the most that it may be
abbrev pub zero_or_above : ℕ → ℕ → Bool
zero_or_above most x = eqb x 0 || ltb most x

-- 8: a month's most hours; 0 for a number that is no month
unfoldable pub most_hours : ℕ → ℕ
most_hours month = cond (zero_or_above months month) 0 (get_or month_hours (month - 1) 0)

-- 15 and 18: the meters that a mark is the sum of: 1 reactive consumption, 2 generation, 4 night-valley generation, 8 active generation.
-- Active consumption is always metered, and has none
abbrev pub measures_reactive : ℕ → Bool
measures_reactive mark = eqb (mark % 2) 1

abbrev pub measures_generated : ℕ → Bool
measures_generated mark = eqb (mark / 2 % 2) 1

abbrev pub measures_night : ℕ → Bool
measures_night mark = eqb (mark / 4 % 2) 1

abbrev pub measures_produced : ℕ → Bool
measures_produced mark = eqb (mark / 8 % 2) 1

-- what a flag is the sum of: 1 where compensation or generating devices exist, 2 at a power station (annex 31; 02, R-8), from version 2 on
abbrev pub says_devices : ℕ → Bool
says_devices flag = eqb (flag % 2) 1

abbrev pub says_station : ℕ → Bool
says_station flag = eqb (flag / 2 % 2) 1

-- 12 and 26, and steps 6 and 9
abbrev pub has_devices : Site → Bool
has_devices x = says_devices x.flag

-- steps 9 and 10
abbrev pub is_station : Site → Bool
is_station x = says_station x.flag

-- 9: 14 + 11s + 21n in version 1, 15 + 11s + 25n + 5g in version 2
abbrev pub size_of : Header → ℕ
size_of h = file_size h.version h.sites h.lines h.generators

-- 1: too short for the shortest header
abbrev pub start_rules : Bool → List Row
start_rules short = rule 1 0 short ∷ []

-- 2 to 8, 25 and 9: header and length
unfoldable pub header_rules : Bool → Header → List Row
header_rules wrongLength h =
    rule 2 0 (not (eqb h.mark park_mark))
    ∷ rule 3 0 (zero_or_above latest_version h.version)
    ∷ rule 4 0 (zero_or_above months h.month)
    ∷ rule 5 0 (zero_or_above most_sites h.sites)
    ∷ rule 6 0 (zero_or_above most_lines h.lines)
    ∷ rule 7 0 (zero_or_above most_price h.price)
    ∷ rule 8 0 (ltb (most_hours h.month) h.hours)
    ∷ rule 25 0 (ltb most_generators h.generators)
    ∷ rule 9 0 wrongLength
    ∷ []

-- 11: flag above 1, in version 2 above 3
abbrev pub wrong_flag : ℕ → ℕ → Bool
wrong_flag version flag = ltb (most_flag version) flag

-- 12, of one of Q and P: above 20,000, or not 0 without devices
abbrev pub wrong_device : Site → ℕ → Bool
wrong_device x installed = ltb most_installed installed || (not (has_devices x) && not (eqb installed 0))

-- 12: Q or P breaks it
abbrev pub wrong_devices : Site → Bool
wrong_devices x = wrong_device x x.compensation || wrong_device x x.motors

-- 10 to 13: one site of a park with that header
unfoldable pub site_rules : Header → ℕ → Site → List Row
site_rules h k x =
    rule 10 k (zero_or_above most_power x.power)
    ∷ rule 11 k (wrong_flag h.version x.flag)
    ∷ rule 12 k (wrong_devices x)
    ∷ rule 13 k (ltb most_discount x.discount)
    ∷ []

-- 14: an end above s
abbrev pub end_above : ℕ → Line → Bool
end_above s l = ltb s l.from || ltb s l.to

-- 23: both ends are the network
abbrev pub both_network : Line → Bool
both_network l = eqb l.from 0 && eqb l.to 0

-- 24: neither end is the network, and from is not below to
abbrev pub backwards : Line → Bool
backwards l = not (eqb l.from 0) && (not (eqb l.to 0) && leb l.to l.from)

-- 15: mark above 7, in version 2 above 15, or holding 4 without 2
abbrev pub wrong_meters : ℕ → ℕ → Bool
wrong_meters version mark = ltb (most_mark version) mark || (measures_night mark && not (measures_generated mark))

-- 17: a reading above 10,000,000
abbrev pub reading_above : Line → Bool
reading_above l =
    ltb most_reading l.active
    || (ltb most_reading l.reactive
    || (ltb most_reading l.generated
    || (ltb most_reading l.night
    || ltb most_reading l.produced)))

-- 18: a reading not 0 without its meter
abbrev pub without_meter : Bool → ℕ → Bool
without_meter metered reading = not metered && not (eqb reading 0)

-- 18: a reading not 0 without its meter, or WN above WG
abbrev pub wrong_readings : Line → Bool
wrong_readings l =
    without_meter (measures_reactive l.meters) l.reactive
    || (without_meter (measures_generated l.meters) l.generated
    || (without_meter (measures_night l.meters) l.night
    || (without_meter (measures_produced l.meters) l.produced
    || ltb l.generated l.night)))

-- 14, 23, 24 and 15 to 18: one line of a park with that header
unfoldable pub line_rules : Header → ℕ → Line → List Row
line_rules h k l =
    rule 14 k (end_above h.sites l)
    ∷ rule 23 k (both_network l)
    ∷ rule 24 k (backwards l)
    ∷ rule 15 k (wrong_meters h.version l.meters)
    ∷ rule 16 k (zero_or_above most_eerp l.eerp)
    ∷ rule 17 k (reading_above l)
    ∷ rule 18 k (wrong_readings l)
    ∷ []

-- 26: a generator's site is none of the s sites, or has no devices
abbrev pub wrong_generator : Header → List Site → Generator → Bool
wrong_generator h sites g = zero_or_above h.sites g.site || not (has_devices (get_or sites (g.site - 1) no_site))

-- 26 and 27: one generator of a park with that header and those sites
unfoldable pub generator_rules : Header → List Site → ℕ → Generator → List Row
generator_rules h sites k g =
    rule 26 k (wrong_generator h sites g)
    ∷ rule 27 k (ltb most_reading g.output)
    ∷ []

-- 19: a list with no line
abbrev pub is_empty {ℓ} : {A : Type ℓ} → List A → Bool
is_empty [] = true
is_empty (x ∷ xs) = false

-- 19: a site has no input line; as the rows stand in the order of the sites, the first broken one is the lowest such site
unfoldable pub input_rules : List Line → ℕ → Site → List Row
input_rules lines k x = rule 19 k (is_empty (inputs k lines)) ∷ []

-- the rules of each record of a list, in order; the first record's place is k
unfoldable pub each {ℓ} : {A : Type ℓ} → (ℕ → A → List Row) → ℕ → List A → List Row
each rules k [] = []
each rules k (x ∷ xs) = rules k x ++ each rules (suc k) xs

-- the whole table of a park: header and length, site by site, line by line, generator by generator, the park. What it is read from says
-- whether it is too short for the shortest header, and whether its length is wrong. The rows of a line are an argument, so that Ends.antt can put the
-- former ones there
unfoldable pub rules_with : (Header → ℕ → Line → List Row) → Bool → Bool → Park → List Row
rules_with ofLine short wrongLength p =
    (start_rules short ++ header_rules wrongLength p.header)
    ++ (each (site_rules p.header) 1 p.sites
    ++ (each (ofLine p.header) 1 p.lines
    ++ (each (generator_rules p.header p.sites) 1 p.generators
    ++ each (input_rules p.lines) 1 p.sites)))

-- with the present rows of a line
abbrev pub rules_of : Bool → Bool → Park → List Row
rules_of short wrongLength p = rules_with line_rules short wrongLength p

-- a park that keeps the rules
abbrev pub KeepsRules : Park → Type 0
KeepsRules p = first_broken (rules_of false false p) ≡ none

-- 1 and 9, of a file: 1 asks for the 14 bytes of version 1
abbrev pub is_short : List ℕ → Bool
is_short file = ltb (length file) shortest_header

abbrev pub has_wrong_length : List ℕ → Bool
has_wrong_length file = not (eqb (length file) (size_of (header_of file)))

-- the table of a file
unfoldable pub file_rules : List ℕ → List Row
file_rules file = rules_of (is_short file) (has_wrong_length file) (park_of file)

-- the refusal of a file: its first broken row
unfoldable pub refusal : List ℕ → Option (ℕ × ℕ)
refusal file = first_broken (file_rules file)

-- accepted: no row is broken
abbrev pub IsAccepted : List ℕ → Type 0
IsAccepted file = refusal file ≡ none
