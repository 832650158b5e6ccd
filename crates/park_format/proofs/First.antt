-- Version 1 of the park file: its fields, what it lacks, its length, and its rules.
-- Assumes nothing.
use Prim.Native.Nat.{ℕ, zero, suc, ◌+◌, ◌%◌}
use native.Mathlib.Omega.{arith}
use mathlib.Core.Path.{◌≡◌, refl, sym, ap, ◌∙◌}
use mathlib.Core.Bool.{Bool, true, false, cond, not, ◌&&◌, ◌||◌}
use mathlib.Core.List.{List, [], ◌∷◌, ◌++◌}
use mathlib.Core.Option.{Option, none, some}
use lib.Dec.{eqb, ltb}
use borrow.Author.Tests.{lt-ltb}
use Rattle.park_format.specs.First.{FirstFields, first_header_rules, FirstLacks, FirstLength, first_line_rules, first_site_rules, FirstFlags, FirstMarks, FirstRefused}
use Rattle.park_format.specs.Format.{header_size, line_size, line_start, number_at}
use Rattle.park_format.specs.Park.{generator_of, header_of, line_of, list_of, park_of}
use Rattle.park_format.specs.Accepted.{Every}
use Rattle.park_format.specs.Limits.{most_installed, most_power, most_reading}
use Rattle.park_format.specs.Rules.{each, file_rules, first_broken, generator_rules, has_wrong_length, header_rules, input_rules, is_short, line_rules, measures_produced, refusal, Row, rules_with, site_rules, says_devices, start_rules, without_meter, wrong_flag, zero_or_above}
use Rattle.park_format.specs.Rules.Row.{rule}
use Rattle.park_format.specs.declared.header.Header.{Header}
use Rattle.park_format.specs.declared.line.Line.{Line}
use Rattle.park_format.specs.declared.site.Site.{Site}
use Rattle.park_format.proofs.Lists.{Every_all, Every-list_of}
use Rattle.park_format.proofs.Rules.{first_append, first_stays}
use Rattle.park_format.proofs.Fields.{header_of_lem, line_at_lem}

pub first_fields : FirstFields
first_fields = record { header = refl; line = refl }

module _ (file : List ℕ) (first : (header_of file).version ≡ 1) where
  no_generators : (header_of file).generators ≡ 0
  no_generators =
      let read = header_of_lem file in
      let version : number_at 2 file 3 ≡ 1 = sym (ap (λ (h : Header). h.version) read) ∙ first in
      ap (λ (h : Header). h.generators) read ∙ ap (λ (v : ℕ). cond (eqb v 1) 0 (number_at 1 file 14)) version

  none_produced : (i : ℕ) → (line_of (header_of file) file i).produced ≡ 0
  unfolding line_of
  none_produced i =
      let h = header_of file in
      let at = line_start h.version h.sites i in
      ap (λ (l : Line). l.produced) (line_at_lem h.version file at) ∙ ap (λ (v : ℕ). cond (eqb v 1) 0 (number_at 4 file (at + 21))) first

pub first_lacks : FirstLacks
unfolding park_of list_of
first_lacks file first =
    let h = header_of file in
    let none = no_generators file first in (
      record {
        generators = none;
        lines = Every-list_of (λ (l : Line). l.produced ≡ 0) (line_of h file) h.lines (λ i inside. none_produced file first i);
      },
      ap (list_of (generator_of h file)) none,
    )

pub first_length : FirstLength
unfolding header_size line_size
first_length file first = rw (first, no_generators file first) (omega arith)

-- two tables that say the same
abbrev pub Same : List Row → List Row → Type 0
Same xs ys = first_broken xs ≡ first_broken ys

pub same_join : (xs ys us vs : List Row) → Same xs ys → Same us vs → Same (xs ++ us) (ys ++ vs)
same_join xs ys us vs a b = by (first_broken ys) refl
  where
    by : (o : Option (ℕ × ℕ)) → first_broken ys ≡ o → Same (xs ++ us) (ys ++ vs)
    by none e = first_append xs us (a ∙ e) ∙ b ∙ sym (first_append ys vs e)
    by (some r) e = first_stays xs us (a ∙ e) ∙ sym (first_stays ys vs e)

pub same_each : {A : Type 0} (P : A → Type 0) (f g : ℕ → A → List Row) → ((k : ℕ) (x : A) → P x → Same (f k x) (g k x)) → (k : ℕ) (xs : List A) → Every P xs → Same (each f k xs) (each g k xs)
unfolding each
same_each P f g same k [] e = refl
same_each P f g same k (x ∷ xs) e = same_join (f k x) (g k x) (each f (suc k) xs) (each g (suc k) xs) (same k x e.0) (same_each P f g same (suc k) xs e.1)

same_header : (wrongLength : Bool) (h : Header) → h.version ≡ 1 → h.generators ≡ 0 → Same (header_rules wrongLength h) (first_header_rules wrongLength h)
unfolding header_rules first_broken
same_header wrongLength h first lacks = rw (first, lacks)

-- a reading of 0 breaks neither 17 nor 18
or_nothing : (b : Bool) → (b || false) ≡ b
or_nothing true = refl
or_nothing false = refl

metered_zero : (metered rest : Bool) → (without_meter metered 0 || rest) ≡ rest
metered_zero true rest = refl
metered_zero false rest = refl

same_line : (h : Header) → h.version ≡ 1 → (k : ℕ) (l : Line) → l.produced ≡ 0 → Same (line_rules h k l) (first_line_rules h.sites k l)
unfolding line_rules first_broken
same_line h first k l lacks = rw (first, lacks, or_nothing (ltb most_reading l.night), metered_zero (measures_produced l.meters) (ltb l.generated l.night))

-- a flag of version 1 says devices where it is not 0, and a higher one breaks 11 before 12 is asked
same_flags : (k : ℕ) (power : Bool) (flag q p : ℕ) (rows : List Row)
    → Same (rule 10 k power ∷ rule 11 k (ltb 1 flag) ∷ rule 12 k ((ltb most_installed q || (not (says_devices flag) && not (eqb q 0))) || (ltb most_installed p || (not (says_devices flag) && not (eqb p 0)))) ∷ rows)
    (rule 10 k power ∷ rule 11 k (ltb 1 flag) ∷ rule 12 k ((ltb most_installed q || (eqb flag 0 && not (eqb q 0))) || (ltb most_installed p || (eqb flag 0 && not (eqb p 0)))) ∷ rows)
unfolding first_broken
same_flags k true flag q p rows = refl
same_flags k false zero q p rows = refl
same_flags k false (suc zero) q p rows = refl
same_flags k false (suc (suc n)) q p rows = rw (lt-ltb 1 (suc (suc n)) (omega arith)) refl

same_site : (h : Header) → h.version ≡ 1 → (k : ℕ) (x : Site) → Same (site_rules h k x) (first_site_rules k x)
unfolding site_rules
same_site h first k x = rw first (same_flags k (zero_or_above most_power x.power) x.flag x.compensation x.motors _)

pub park_version : (file : List ℕ) → (header_of file).version ≡ 1 → (park_of file).header.version ≡ 1
unfolding park_of
park_version file e = e

pub first_refused : FirstRefused
unfolding refusal file_rules rules_with each
first_refused file first =
    let p = park_of file in
    let h = p.header in
    let lacks = first_lacks file first in
    let version = park_version file first in
    let start = start_rules (is_short file) in
    let header = header_rules (has_wrong_length file) h in
    let former = first_header_rules (has_wrong_length file) h in
    let sites = each (site_rules h) 1 p.sites in
    let formerSites = each first_site_rules 1 p.sites in
    let lines = each (line_rules h) 1 p.lines in
    let formerLines = each (first_line_rules h.sites) 1 p.lines in
    let inputs = each (input_rules p.lines) 1 p.sites in
    let generators = each (generator_rules h p.sites) 1 p.generators in
    let nothing = ap (each (generator_rules h p.sites) 1) lacks.1 in
    same_join (start ++ header) (start ++ former) (sites ++ (lines ++ (generators ++ inputs))) (formerSites ++ (formerLines ++ inputs))
    (same_join start start header former refl (same_header (has_wrong_length file) h version lacks.0.generators))
    (same_join sites formerSites (lines ++ (generators ++ inputs)) (formerLines ++ inputs)
    (same_each (λ (x : Site). Unit {0}) (site_rules h) first_site_rules (λ k x _. same_site h version k x) 1 p.sites (Every_all (λ x. tt) p.sites))
    (same_join lines formerLines (generators ++ inputs) inputs
    (same_each (λ (l : Line). l.produced ≡ 0) (line_rules h) (first_line_rules h.sites) (same_line h version) 1 p.lines lacks.0.lines)
    (ap (λ (rows : List Row). first_broken (rows ++ inputs)) nothing)))

pub first_marks : FirstMarks
first_marks =
    record { without = refl; beside = refl; reactive = refl; generated = refl; night = refl; has = refl; lacks = refl }

pub first_flags : FirstFlags
first_flags =
    record { without = refl; beside = beside; former = refl; devices = devices; has = refl; lacks = refl }
  where
    beside : (flag : ℕ) → wrong_flag 2 (2 + flag) ≡ wrong_flag 1 flag
    beside zero = refl
    beside (suc zero) = refl
    beside (suc (suc n)) = lt-ltb 3 (2 + suc (suc n)) (omega arith) ∙ sym (lt-ltb 1 (suc (suc n)) (omega arith))

    even : (flag : ℕ) → (2 + flag) % 2 ≡ flag % 2
    even flag = omega arith

    devices : (flag : ℕ) → says_devices (2 + flag) ≡ says_devices flag
    devices flag = ap (λ (n : ℕ). eqb n 1) (even flag)
