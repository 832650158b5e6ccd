-- Parks without the marks of power stations: row by row, the table says the same of them.
-- Assumes nothing.
use Prim.Native.Nat.{ℕ, suc, ◌-◌, ◌/◌, ◌%◌, ◌≤◌}
use native.Mathlib.Omega.{arith}
use mathlib.Core.Path.{◌≡◌, refl, ap, ◌∙◌}
use mathlib.Core.Bool.{Bool, true, false, cond}
use mathlib.Core.List.{List, [], ◌∷◌, ◌++◌, map}
use lib.Dec.{eqb}
use lib.ListN.{get_or, get_or-map}
use borrow.Author.Tests.{eqb-true, le-ltb, ltb-false}
use Rattle.park_format.specs.Accepted.{Every}
use Rattle.park_format.specs.Limits.{most_flag}
use Rattle.park_format.specs.Park.{no_site, Park}
use Rattle.park_format.specs.Rules.{each, first_broken, generator_rules, header_rules, input_rules, is_station, line_rules, Row, rules_with, site_rules, start_rules, wrong_flag}
use Rattle.park_format.specs.Stations.{KeptUnmarked, MarkTaken, RefusedUnmarked, Taken, unmarked, without_marks}
use Rattle.park_format.specs.declared.generator.Generator.{Generator}
use Rattle.park_format.specs.declared.header.Header.{Header}
use Rattle.park_format.specs.declared.site.Site.{Site}
use Rattle.park_format.proofs.Accepted.{each_kept, kept_site, parts}
use Rattle.park_format.proofs.First.{Same, same_each, same_join}

-- 2 taken from a flag that has it
no_mark : (flag : ℕ) → flag / 2 % 2 ≡ 1 → (flag - 2) / 2 % 2 ≡ 0
no_mark flag e = omega arith

same_rest : (flag : ℕ) → flag / 2 % 2 ≡ 1 → (flag - 2) % 2 ≡ flag % 2
same_rest flag e = omega arith

pub mark_taken : MarkTaken
mark_taken x = by (is_station x) refl
  where
    by : (b : Bool) → is_station x ≡ b → Taken x
    by true e =
        let has = eqb-true (x.flag / 2 % 2) 1 e in
        record {
          station = rw e (ap (λ (n : ℕ). eqb n 1) (no_mark x.flag has));
          devices = rw e (ap (λ (n : ℕ). eqb n 1) (same_rest x.flag has));
        }
    by false e = record { station = rw e e; devices = rw e refl }

-- a flag without it is as small as it was
smaller : (version : ℕ) (x : Site) → wrong_flag version x.flag ≡ false → wrong_flag version (unmarked x).flag ≡ false
smaller version x kept = le-ltb (most_flag version) _ (by (is_station x))
  where
    by : (b : Bool) → cond b (x.flag - 2) x.flag ≤ most_flag version
    by true = omega (arith, ltb-false (most_flag version) x.flag kept)
    by false = ltb-false (most_flag version) x.flag kept

same_site : (h : Header) (k : ℕ) (x : Site) → wrong_flag h.version x.flag ≡ false → site_rules h k (unmarked x) ≡ site_rules h k x
unfolding site_rules
same_site h k x kept = rw (kept, smaller h.version x kept, (mark_taken x).devices) refl

same_generator : (h : Header) (sites : List Site) (k : ℕ) (g : Generator) → generator_rules h (map unmarked sites) k g ≡ generator_rules h sites k g
unfolding generator_rules
same_generator h sites k g =
    rw (get_or-map unmarked sites (g.site - 1) no_site, (mark_taken (get_or sites (g.site - 1) no_site)).devices) refl

-- the rules of each value that a list was made from
each-map : {A B : Type 0} (f : B → A) (g : ℕ → A → List Row) (k : ℕ) (xs : List B) → each g k (map f xs) ≡ each (λ (k : ℕ) (x : B). g k (f x)) k xs
unfolding each
each-map f g k [] = refl
each-map f g k (x ∷ xs) = ap (λ (rows : List Row). g k (f x) ++ rows) (each-map f g (suc k) xs)

module _ (p : Park) where
  abbrev h : Header
  h = p.header

  abbrev q : Park
  q = without_marks p

  same_sites : Every (λ (x : Site). wrong_flag h.version x.flag ≡ false) p.sites → Same (each (site_rules h) 1 q.sites) (each (site_rules h) 1 p.sites)
  same_sites flags =
      ap first_broken (each-map unmarked (site_rules h) 1 p.sites)
      ∙ same_each (λ (x : Site). wrong_flag h.version x.flag ≡ false) (λ k x. site_rules h k (unmarked x)) (site_rules h) (λ k x e. ap first_broken (same_site h k x e)) 1 p.sites flags

  same_generators : each (generator_rules h q.sites) 1 p.generators ≡ each (generator_rules h p.sites) 1 p.generators
  same_generators = λ j. each (λ (k : ℕ) (g : Generator). same_generator h p.sites k g j) 1 p.generators

  same_inputs : each (input_rules p.lines) 1 q.sites ≡ each (input_rules p.lines) 1 p.sites
  unfolding input_rules
  same_inputs = each-map unmarked (input_rules p.lines) 1 p.sites

  same_table : (short wrongLength : Bool) → Every (λ (x : Site). wrong_flag h.version x.flag ≡ false) p.sites → Same (rules_with line_rules short wrongLength q) (rules_with line_rules short wrongLength p)
  unfolding rules_with
  same_table short wrongLength flags =
      let start = start_rules short ++ header_rules wrongLength h in
      let lines = each (line_rules h) 1 p.lines in
      let rest = λ (generators inputs : List Row). lines ++ (generators ++ inputs) in
      let restQ = rest (each (generator_rules h q.sites) 1 p.generators) (each (input_rules p.lines) 1 q.sites) in
      let restP = rest (each (generator_rules h p.sites) 1 p.generators) (each (input_rules p.lines) 1 p.sites) in
      same_join start start (each (site_rules h) 1 q.sites ++ restQ) (each (site_rules h) 1 p.sites ++ restP) refl
      (same_join (each (site_rules h) 1 q.sites) (each (site_rules h) 1 p.sites) restQ restP (same_sites flags)
      (λ j. first_broken (rest (same_generators j) (same_inputs j))))

pub refused_unmarked : RefusedUnmarked
refused_unmarked short wrongLength p flags = same_table p short wrongLength flags

pub kept_unmarked : KeptUnmarked
kept_unmarked p keeps =
    let h = p.header in
    refused_unmarked false false p
    (each_kept (site_rules h) _ (λ k x e. le-ltb (most_flag h.version) x.flag (kept_site h k x e).flag) 1 p.sites (parts false false p keeps).sites)
    ∙ keeps
