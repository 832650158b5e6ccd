-- What an accepted file guarantees, from the rows of the table that are not broken.
-- Assumes nothing.
use Prim.Native.Nat.{ℕ, zero, suc, ◌+◌, ◌-◌, ◌≤◌, ◌<◌}
use native.Mathlib.Omega.{arith}
use native.Mathlib.Nat.{le_of_suc-le-suc, not-suc-le-zero, add-zero, add-suc, suc-add, add-sub_of_le}
use mathlib.Core.Path.{◌≡◌, refl, ap}
use mathlib.Core.Bool.{Bool, true, false, not, ◌&&◌}
use mathlib.Core.List.{List, [], ◌∷◌, ◌++◌}
use mathlib.Core.Option.{none}
use lib.Dec.{eqb, ltb, leb}
use lib.ListN.{get_or, length}
use Rattle.park_format.specs.Format.{shortest_header}
use Rattle.park_format.specs.Inner.Recorded.{Recorded}
use Rattle.park_format.specs.Inner.Sized.{Sized}
use Rattle.park_format.specs.Limits.{latest_version, months, most_discount, most_eerp, most_flag, most_generators, most_installed, most_lines, most_mark, most_power, most_price, most_reading, most_sites}
use borrow.Author.Tests.{eqb-true, eqb-false, ltb-false, leb-false, not-false, ne_eqb, eq-eqb}
use Rattle.park_format.specs.Park.{generator_of, inputs, line_of, no_site, Park, park_of, site_of}
use Rattle.park_format.specs.Rules.{IsAccepted, KeepsRules, Row, first_broken, header_rules, site_rules, line_rules, generator_rules, input_rules, each, file_rules, has_devices, has_wrong_length, is_short, rules_of, rules_with, refusal, start_rules, wrong_device, without_meter, measures_reactive, measures_generated, measures_night, measures_produced, is_empty, park_mark, size_of, most_hours, end_above, both_network, backwards, reading_above, wrong_devices, wrong_meters, wrong_readings, zero_or_above}
use Rattle.park_format.specs.Rules.Row.{rule}
use Rattle.park_format.specs.Accepted.{Every, Guarantee, Kept, KeptGenerator, KeptHeader, KeptLine, KeptSite}
use Rattle.park_format.specs.declared.header.Header.{Header}
use Rattle.park_format.specs.declared.site.Site.{Site}
use Rattle.park_format.specs.declared.line.Line.{Line}
use Rattle.park_format.specs.declared.generator.Generator.{Generator}
use Rattle.park_format.proofs.Rules.{first_none, within}
use Rattle.park_format.proofs.Tests.{or-false, and-false}
use Rattle.park_format.proofs.Lists.{length-list_of}
use Rattle.park_format.proofs.Sizes.{header_sizes}

-- none of the rows is broken
abbrev Whole : List Row → Type 0
Whole [] = Unit {0}
Whole (rule n p b ∷ rows) = (b ≡ false) × Whole rows

whole : (rows : List Row) → first_broken rows ≡ none → Whole rows
unfolding first_broken
whole [] e = tt
whole (rule n p true ∷ rows) e = let z : ◌≡◌ {A = ℕ} 0 1 = cc in absurd (omega arith)
whole (rule n p false ∷ rows) e = (refl, whole rows e)

-- a test that asks for equality
equal : (a b : ℕ) → not (eqb a b) ≡ false → a ≡ b
equal a b e = eqb-true a b (not-false (eqb a b) e)

-- a header whose rules are kept: the length is right, in whatever it is counted, and each field keeps its rule
module _ (wrongLength : Bool) (h : Header) (sound : first_broken (header_rules wrongLength h) ≡ none) where
  pub right_length : wrongLength ≡ false
  unfolding header_rules
  right_length = let w = whole (header_rules wrongLength h) sound in search

  pub kept_fields : (size : ℕ) → size ≡ size_of h → KeptHeader size h
  unfolding header_rules
  kept_fields size same =
      let w = whole (header_rules wrongLength h) sound in
      record {
        mark = equal h.mark park_mark search;
        version = within latest_version h.version search;
        month = within months h.month search;
        sites = within most_sites h.sites search;
        lines = within most_lines h.lines search;
        price = within most_price h.price search;
        hours = ltb-false (most_hours h.month) h.hours search;
        generators = ltb-false most_generators h.generators search;
        size = same;
      }

pub kept_header : (size : ℕ) (h : Header) → first_broken (header_rules (not (eqb size (size_of h))) h) ≡ none → KeptHeader size h
kept_header size h sound =
    kept_fields (not (eqb size (size_of h))) h sound size (equal size (size_of h) (right_length (not (eqb size (size_of h))) h sound))

pub kept_sized : {size : ℕ} {h : Header} → KeptHeader size h → Sized h size
kept_sized k = record { sites = k.sites.1; lines = k.lines.1; generators = k.generators; size = omega (arith, k.size) }

-- rule 12 of one of Q and P
kept_device : (x : Site) (installed : ℕ) → wrong_device x installed ≡ false → (installed ≤ most_installed) × (has_devices x ≡ false → installed ≡ 0)
kept_device x installed e =
    let w = or-false (ltb most_installed installed) (not (has_devices x) && not (eqb installed 0)) e in
    (ltb-false most_installed installed w.0, λ z. equal installed 0 (and-false (not (has_devices x)) (not (eqb installed 0)) w.1 (ap not z)))

pub kept_site : (h : Header) (k : ℕ) (x : Site) → first_broken (site_rules h k x) ≡ none → KeptSite h x
unfolding site_rules
kept_site h k x e =
    let w = whole (site_rules h k x) e in
    let rule12 : wrong_devices x ≡ false = search in
    let i = or-false (wrong_device x x.compensation) (wrong_device x x.motors) rule12 in
    let q = kept_device x x.compensation i.0 in
    let p = kept_device x x.motors i.1 in
    record {
      power = within most_power x.power search;
      flag = ltb-false (most_flag h.version) x.flag search;
      compensation = q.0;
      motors = p.0;
      without_devices = λ z. (q.1 z, p.1 z);
      discount = ltb-false most_discount x.discount search;
    }

-- rule 18 of one reading
kept_reading : (metered : Bool) (x : ℕ) → without_meter metered x ≡ false → metered ≡ false → x ≡ 0
kept_reading metered x e f = equal x 0 (and-false (not metered) (not (eqb x 0)) e (ap not f))

pub kept_line : (h : Header) (k : ℕ) (l : Line) → first_broken (line_rules h k l) ≡ none → KeptLine h l
unfolding line_rules
kept_line h k l e =
    let w = whole (line_rules h k l) e in
    let s = h.sites in
    let m = l.meters in
    let rule14 : end_above s l ≡ false = search in
    let rule23 : both_network l ≡ false = search in
    let rule24 : backwards l ≡ false = search in
    let rule15 : wrong_meters h.version m ≡ false = search in
    let rule17 : reading_above l ≡ false = search in
    let rule18 : wrong_readings l ≡ false = search in
    let above = or-false (ltb s l.from) (ltb s l.to) rule14 in
    let marks = or-false (ltb (most_mark h.version) m) (measures_night m && not (measures_generated m)) rule15 in
    let r1 = or-false (ltb most_reading l.active) _ rule17 in
    let r2 = or-false (ltb most_reading l.reactive) _ r1.1 in
    let r3 = or-false (ltb most_reading l.generated) _ r2.1 in
    let r4 = or-false (ltb most_reading l.night) _ r3.1 in
    let m1 = or-false (without_meter (measures_reactive m) l.reactive) _ rule18 in
    let m2 = or-false (without_meter (measures_generated m) l.generated) _ m1.1 in
    let m3 = or-false (without_meter (measures_night m) l.night) _ m2.1 in
    let m4 = or-false (without_meter (measures_produced m) l.produced) _ m3.1 in
    record {
      from = ltb-false s l.from above.0;
      to = ltb-false s l.to above.1;
      not_both_network = λ a b. eqb-false l.to 0 (and-false (eqb l.from 0) (eqb l.to 0) rule23 (eq-eqb l.from 0 a)) b;
      forward =
          λ a b. leb-false l.to l.from
          (and-false (not (eqb l.to 0)) (leb l.to l.from)
          (and-false (not (eqb l.from 0)) (not (eqb l.to 0) && leb l.to l.from) rule24 (ap not (ne_eqb l.from 0 a)))
          (ap not (ne_eqb l.to 0 b)));
      meters = ltb-false (most_mark h.version) m marks.0;
      night_generated = λ n. not-false (measures_generated m) (and-false (measures_night m) (not (measures_generated m)) marks.1 n);
      eerp = within most_eerp l.eerp search;
      active = ltb-false most_reading l.active r1.0;
      reactive = ltb-false most_reading l.reactive r2.0;
      generated = ltb-false most_reading l.generated r3.0;
      night = ltb-false most_reading l.night r4.0;
      produced = ltb-false most_reading l.produced r4.1;
      unmetered_reactive = kept_reading (measures_reactive m) l.reactive m1.0;
      unmetered_generated = kept_reading (measures_generated m) l.generated m2.0;
      unmetered_night = kept_reading (measures_night m) l.night m3.0;
      unmetered_produced = kept_reading (measures_produced m) l.produced m4.0;
      night_within = ltb-false l.generated l.night m4.1;
    }

pub kept_generator : (h : Header) (sites : List Site) (k : ℕ) (g : Generator) → first_broken (generator_rules h sites k g) ≡ none → KeptGenerator h sites g
unfolding generator_rules
kept_generator h sites k g e =
    let w = whole (generator_rules h sites k g) e in
    let devices = has_devices (get_or sites (g.site - 1) no_site) in
    let rule26 = or-false (zero_or_above h.sites g.site) (not devices) w.0 in
    record {
      site = within h.sites g.site rule26.0;
      devices = not-false devices rule26.1;
      output = ltb-false most_reading g.output w.1.0;
    }

module _ {ℓ} {A : Type ℓ} (g : ℕ → A → List Row) where
  -- what one record's rules guarantee, of each record
  pub each_kept : (P : A → Type 0) → ((k : ℕ) (x : A) → first_broken (g k x) ≡ none → P x) → (k : ℕ) (xs : List A) → first_broken (each g k xs) ≡ none → Every P xs
  unfolding each
  each_kept P keeps k [] e = tt
  each_kept P keeps k (x ∷ xs) e =
      let both = first_none (g k x) (each g (suc k) xs) e in
      (keeps k x both.0, each_kept P keeps (suc k) xs both.1)

fed_from : (lines : List Line) (k i : ℕ) (xs : List Site) → first_broken (each (input_rules lines) k xs) ≡ none → i < length xs → is_empty (inputs (k + i) lines) ≡ false
unfolding each input_rules
fed_from lines k i [] e h = absurd (not-suc-le-zero h)
fed_from lines k zero (x ∷ xs) e h =
    rw add-zero (whole (input_rules lines k x) (first_none (input_rules lines k x) (each (input_rules lines) (suc k) xs) e).0).0
fed_from lines k (suc i) (x ∷ xs) e h =
    rw (add-suc, ← suc-add)
    (fed_from lines (suc k) i xs (first_none (input_rules lines k x) (each (input_rules lines) (suc k) xs) e).1 (le_of_suc-le-suc h))

-- a table of which no row is broken, part by part
pub record Parts (short wrongLength : Bool) (p : Park) : Type 0 where
  pub start : short ≡ false
  pub header : first_broken (header_rules wrongLength p.header) ≡ none
  pub sites : first_broken (each (site_rules p.header) 1 p.sites) ≡ none
  pub lines : first_broken (each (line_rules p.header) 1 p.lines) ≡ none
  pub generators : first_broken (each (generator_rules p.header p.sites) 1 p.generators) ≡ none
  pub inputs : first_broken (each (input_rules p.lines) 1 p.sites) ≡ none

pub parts : (short wrongLength : Bool) (p : Park) → first_broken (rules_of short wrongLength p) ≡ none → Parts short wrongLength p
unfolding rules_with
parts short wrongLength p e =
    let start = start_rules short in
    let header = header_rules wrongLength p.header in
    let sites = each (site_rules p.header) 1 p.sites in
    let lines = each (line_rules p.header) 1 p.lines in
    let generators = each (generator_rules p.header p.sites) 1 p.generators in
    let inputs = each (input_rules p.lines) 1 p.sites in
    let a = first_none (start ++ header) (sites ++ (lines ++ (generators ++ inputs))) e in
    let b = first_none sites (lines ++ (generators ++ inputs)) a.1 in
    let c = first_none lines (generators ++ inputs) b.1 in
    let f = first_none generators inputs c.1 in
    let d = first_none start header a.0 in
    record { start = (whole start d.0).0; header = d.1; sites = b.0; lines = c.0; generators = f.0; inputs = f.1 }

-- such a park keeps every rule
pub kept_park : {short wrongLength : Bool} (p : Park) (size : ℕ) → Parts short wrongLength p → size ≡ size_of p.header → length p.sites ≡ p.header.sites → length p.lines ≡ p.header.lines → length p.generators ≡ p.header.generators → Kept size p
kept_park {wrongLength = wrongLength} p size is same site_count line_count generator_count =
    let h = p.header in
    record {
      header = kept_fields wrongLength h is.header size same;
      site_count = site_count;
      line_count = line_count;
      generator_count = generator_count;
      sites = each_kept (site_rules h) (KeptSite h) (kept_site h) 1 p.sites is.sites;
      lines = each_kept (line_rules h) (KeptLine h) (kept_line h) 1 p.lines is.lines;
      generators = each_kept (generator_rules h p.sites) (KeptGenerator h p.sites) (kept_generator h p.sites) 1 p.generators is.generators;
      fed = λ k low high. rw (← (add-sub_of_le low)) (fed_from p.lines 1 (k - 1) p.sites is.inputs (omega arith));
    }

-- one whose records are as many as its header says, read from wherever
pub park_kept : (p : Park) → Recorded p → KeepsRules p → Kept (size_of p.header) p
park_kept p recorded keeps = kept_park p (size_of p.header) (parts false false p keeps) refl recorded.sites recorded.lines recorded.generators

-- an accepted file keeps every rule
pub kept : Guarantee
unfolding refusal file_rules park_of
kept file e =
    let p = park_of file in
    let is = parts (is_short file) (has_wrong_length file) p e in
    kept_park p (length file) is
    (equal (length file) (size_of p.header) (right_length (has_wrong_length file) p.header is.header))
    (length-list_of (site_of p.header file) p.header.sites) (length-list_of (line_of p.header file) p.header.lines)
    (length-list_of (generator_of p.header file) p.header.generators)

-- an accepted file is long enough for its header
pub header_fits : (file : List ℕ) → IsAccepted file → shortest_header ≤ length file
header_fits file accepted =
    let h = (park_of file).header in
    omega (arith, (kept file accepted).header.size, header_sizes h.version)
