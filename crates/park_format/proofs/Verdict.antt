-- Laws of a refusal: what it comes to as the parts of the table are looked at one after the other.
-- Assumes nothing.
use Prim.Native.Nat.{ℕ, zero, suc, ◌+◌, ◌≤◌, ◌<◌}
use native.Mathlib.Nat.{le_of_lt, le_refl}
use native.Mathlib.Numerals.{add-one}
use native.Mathlib.Omega.{arith}
use mathlib.Core.Path.{◌≡◌, refl, sym, ap, ◌∙◌}
use mathlib.Core.Bool.{Bool, true, false, cond, not, ◌&&◌, ◌||◌}
use mathlib.Core.List.{List, [], ◌∷◌, ◌++◌}
use mathlib.Core.Option.{Option, none, some}
use lib.Dec.{eqb, ltb}
use lib.ListN.{get_or, length}
use borrow.Author.Tests.{lt-ltb, le-ltb, ltb-true, ltb-false, not-true, not-false}
use Rattle.park_format.specs.Park.{header_of, inputs, list_of, no_site, Park, park_of, select}
use Rattle.park_format.specs.Rules.{Row, first_broken, header_rules, site_rules, line_rules, generator_rules, input_rules, each, file_rules, has_wrong_length, rules_of, rules_with, refusal, is_empty, KeepsRules, size_of}
use Rattle.park_format.specs.Inner.Recorded.{Recorded, record_rules}
use Rattle.park_format.specs.Inner.Set.{has, Lowest, IsFed}
use Rattle.park_format.specs.Inner.Sized.{Sized}
use Rattle.park_format.specs.Limits.{most_sites}
use Rattle.park_format.specs.Format.{shortest_header}
use Rattle.park_format.specs.declared.header.Header.{Header}
use Rattle.park_format.specs.declared.site.Site.{Site}
use Rattle.park_format.specs.declared.line.Line.{Line}
use Rattle.park_format.proofs.Accepted.{kept_header, kept_sized, right_length}
use Rattle.park_format.proofs.Lists.{select-append, is_empty-append, list_of_its}
use Rattle.park_format.proofs.Sizes.{header_sizes}
use Rattle.park_format.proofs.Rules.{first_append, first_stays, up_to, up_to_zero, up_to_next, up_to_stays}

-- the records of a park, looked at part by part: its sites, its lines, its generators, and the park
module _ (p : Park) where
  abbrev sites_part : List Row
  sites_part = each (site_rules p.header) 1 p.sites

  abbrev lines_part : List Row
  lines_part = each (line_rules p.header) 1 p.lines

  abbrev generators_part : List Row
  generators_part = each (generator_rules p.header p.sites) 1 p.generators

  abbrev inputs_part : List Row
  inputs_part = each (input_rules p.lines) 1 p.sites

  pub sites_refuse : {r : ℕ × ℕ} → some r ≡ first_broken sites_part → some r ≡ first_broken (record_rules p)
  sites_refuse e = sym (first_stays sites_part _ (sym e))

  module _ (sites : none ≡ first_broken sites_part) where
    after_sites : first_broken (record_rules p) ≡ first_broken (lines_part ++ (generators_part ++ inputs_part))
    after_sites = first_append sites_part _ (sym sites)

    pub lines_refuse : {r : ℕ × ℕ} → some r ≡ first_broken lines_part → some r ≡ first_broken (record_rules p)
    lines_refuse e = sym (after_sites ∙ first_stays lines_part _ (sym e))

    module _ (lines : none ≡ first_broken lines_part) where
      after_lines : first_broken (record_rules p) ≡ first_broken (generators_part ++ inputs_part)
      after_lines = after_sites ∙ first_append lines_part _ (sym lines)

      pub generators_refuse : {r : ℕ × ℕ} → some r ≡ first_broken generators_part → some r ≡ first_broken (record_rules p)
      generators_refuse e = sym (after_lines ∙ first_stays generators_part _ (sym e))

      pub inputs_refuse : none ≡ first_broken generators_part → first_broken inputs_part ≡ first_broken (record_rules p)
      inputs_refuse generators = sym (after_lines ∙ first_append generators_part _ (sym generators))

  -- the whole table: the rules of the header, and then those of the records
  module _ (wrongLength : Bool) where
    parts : first_broken (rules_of false wrongLength p) ≡ first_broken (header_rules wrongLength p.header ++ record_rules p)
    unfolding rules_with first_broken
    parts = refl

    pub header_refuses : {r : ℕ × ℕ} → some r ≡ first_broken (header_rules wrongLength p.header) → some r ≡ first_broken (rules_of false wrongLength p)
    header_refuses e = sym (parts ∙ first_stays (header_rules wrongLength p.header) _ (sym e))

    pub records_decide : none ≡ first_broken (header_rules wrongLength p.header) → first_broken (record_rules p) ≡ first_broken (rules_of false wrongLength p)
    records_decide e = sym (parts ∙ first_append (header_rules wrongLength p.header) _ (sym e))

-- a file
pub too_short : (file : List ℕ) → length file < shortest_header → some (1, 0) ≡ refusal file
unfolding refusal file_rules rules_with first_broken
too_short file h = rw (lt-ltb (length file) shortest_header h)

module _ (file : List ℕ) (h : Header) (read : h ≡ header_of file) where
  pub file_table : shortest_header ≤ length file → refusal file ≡ first_broken (rules_of false (has_wrong_length file) (park_of file))
  unfolding refusal file_rules
  file_table long = rw (le-ltb (length file) shortest_header long)

  -- refused by a rule of its header
  pub file_refuses : {r : ℕ × ℕ} → shortest_header ≤ length file → some r ≡ first_broken (header_rules (has_wrong_length file) h) → some r ≡ refusal file
  unfolding park_of
  file_refuses long e =
      header_refuses (park_of file) (has_wrong_length file) (e ∙ ap (λ (x : Header). first_broken (header_rules (has_wrong_length file) x)) read)
      ∙ sym (file_table long)

  -- with a header that keeps its rules it has room for what the header says
  pub sized : none ≡ first_broken (header_rules (has_wrong_length file) h) → Sized h (length file)
  sized sound =
      kept_sized
      (kept_header (length file) h (ap (λ (x : Header). first_broken (header_rules (not (eqb (length file) (size_of x))) h)) read ∙ sym sound))

  -- and then its records decide
  module _ (sound : first_broken (header_rules (has_wrong_length file) h) ≡ none) where
    same_rules : none ≡ first_broken (header_rules (has_wrong_length file) (park_of file).header)
    unfolding park_of
    same_rules = sym sound ∙ ap (λ (x : Header). first_broken (header_rules (has_wrong_length file) x)) read

    pub file_decides : first_broken (record_rules (park_of file)) ≡ refusal file
    file_decides =
        let room = sized (sym sound) in
        records_decide (park_of file) (has_wrong_length file) same_rules ∙ sym (file_table (omega (arith, room.size, header_sizes h.version)))

    pub file_kept : none ≡ first_broken (record_rules (park_of file)) → KeepsRules (park_of file)
    file_kept records =
        let right = right_length (has_wrong_length file) (park_of file).header (sym same_rules) in
        sym (records ∙ records_decide (park_of file) false (same_rules ∙ ap (λ (b : Bool). first_broken (header_rules b (park_of file).header)) right))

-- one line more, and the site that it goes to
pub fed_more : (set more : ℕ) (l : Line) (lines : List Line) → IsFed set lines → ((j : ℕ) → has more j ≡ (has set j || eqb l.to (suc j))) → IsFed more (lines ++ (l ∷ []))
unfolding select
fed_more set more l lines fed gives j =
    gives j
    ∙ rw (fed j, select-append, is_empty-append) (joined (is_empty (inputs (suc j) lines)) (eqb l.to (suc j)))
  where
    joined : (a b : Bool) → (not a || b) ≡ not (a && is_empty (cond b (l ∷ []) []))
    joined true true = refl
    joined true false = refl
    joined false true = refl
    joined false false = refl

-- 19 by the set of fed sites: the sites before the lowest that is missing have an input, and that one has none
module _ (reads : ℕ → Site) (lines : List Line) (set low : ℕ) (fed : IsFed set lines) (lowest : Lowest set low) where
  abbrev unfed : ℕ → Option (ℕ × ℕ)
  unfed n = up_to (input_rules lines) reads n

  row : (n : ℕ) (b : Bool) → has set n ≡ b → first_broken (input_rules lines (suc n) (reads n)) ≡ cond b none (some (19, suc n))
  unfolding input_rules first_broken
  row n true e = rw (not-true (is_empty (inputs (suc n) lines)) (sym (fed n) ∙ e))
  row n false e = rw (not-false (is_empty (inputs (suc n) lines)) (sym (fed n) ∙ e))

  unfed_below : (n : ℕ) → n ≤ low → unfed n ≡ none
  unfed_below zero h = up_to_zero (input_rules lines) reads
  unfed_below (suc n) h =
      up_to_next (input_rules lines) reads n (unfed_below n (le_of_lt h))
      ∙ row n true (lowest.below n h)

  unfed_here : low < 16 → unfed (low + 1) ≡ some (19, low + 1)
  unfed_here h =
      rw (add-one low)
      (up_to_next (input_rules lines) reads low (unfed_below low (le_refl low))
      ∙ row low false (lowest.here h))

  pub unfed_among : (s : ℕ) → s ≤ most_sites → cond (ltb low s) (some (19, low + 1)) none ≡ first_broken (each (input_rules lines) 1 (list_of reads s))
  unfed_among s h = by (ltb low s) refl
    where
      by : (b : Bool) → ltb low s ≡ b → cond b (some (19, low + 1)) none ≡ unfed s
      by true e =
          let l = ltb-true low s e in
          sym (up_to_stays (input_rules lines) reads (low + 1) s (omega arith) (unfed_here (omega arith)))
      by false e = sym (unfed_below s (ltb-false low s e))

pub lowest_unfed : (p : Park) → Recorded p → (set low : ℕ) → IsFed set p.lines → Lowest set low → cond (ltb low p.header.sites) (some (19, low + 1)) none ≡ first_broken (each (input_rules p.lines) 1 p.sites)
lowest_unfed p recorded set low fed lowest =
    let reads = λ (i : ℕ). get_or p.sites i no_site in
    unfed_among reads p.lines set low fed lowest p.header.sites recorded.few
    ∙ ap (λ (sites : List Site). first_broken (each (input_rules p.lines) 1 sites)) (rw (← recorded.sites) (list_of_its no_site p.sites))
