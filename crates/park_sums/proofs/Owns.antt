-- The generators of a site, and the active generation of its lines, added up one after the other, and how much they are at most.
-- Assumes nothing.
use Prim.Native.Nat.{ℕ, ◌+◌, ◌≤◌, ◌<◌}
use native.Mathlib.Decide.{ℕ_discrete}
use native.Mathlib.Nat.{add_assoc, add-zero, le_trans}
use native.Mathlib.Omega.{arith}
use mathlib.Core.Path.{◌≡◌, refl, sym, ap, ap₂, ◌∙◌}
use mathlib.Core.Bool.{Bool, true, false, cond}
use mathlib.Core.List.{List, [], ◌∷◌, ◌++◌, append-nil}
use lib.Dec.{eqb}
use lib.IntN.{ℤ, pos, ◌+ℤ◌, ◌-ℤ◌, nat_abs}
use lib.ListN.{drop, get_or, length, length-append, length-take, take}
use borrow.Author.Tests.{eq-eqb, ne_eqb}
use Rattle.std.proofs.lemmas.List.{take-append-drop, take_more}
use Rattle.park_format.specs.Accepted.{Every, Kept, KeptGenerator, KeptLine}
use Rattle.park_format.specs.Inner.Recorded.{Recorded}
use Rattle.park_format.specs.Limits.{most_generators, most_losses, most_outputs, most_reading}
use Rattle.park_format.specs.Park.{generators_at, inputs, no_generator, Park, select, transits}
use Rattle.park_format.specs.Rules.{KeepsRules, size_of}
use Rattle.park_format.specs.declared.generator.Generator.{Generator}
use Rattle.park_format.specs.declared.header.Header.{Header}
use Rattle.park_format.specs.declared.line.Line.{Line}
use Rattle.park_format.proofs.Accepted.{park_kept}
use Rattle.park_format.proofs.Lists.{every_append, select-append}
use Rattle.park_sums.specs.Inner.Rows.{GivenAt, IsGiven, when, with_output}
use Rattle.park_sums.specs.Flows.{produced}
use Rattle.park_sums.specs.Sums.{sum_by}
use Rattle.park_sums.specs.declared.own.Given.{Given}
use Rattle.park_sums.proofs.Nets.{Few, more}
use Rattle.park_sums.proofs.Signed.{difference_le, net-gain, take_both}
use Rattle.park_sums.proofs.Sums.{length-select, sum_small, sum_by_snoc}

abbrev output_of : Generator → ℕ
output_of g = g.output

abbrev produced_of : Line → ℕ
produced_of l = l.produced

-- no generator yet
pub given_none : (k : ℕ) → IsGiven (record { output = 0; count = 0 }) (generators_at k [])
unfolding select sum_by
given_none k = record { output = refl; count = refl }

-- one generator more
module _ (k : ℕ) (generators : List Generator) (g : Generator) where
  chosen : (b : Bool) → eqb g.site k ≡ b → generators_at k (generators ++ (g ∷ [])) ≡ generators_at k generators ++ cond b (g ∷ []) []
  unfolding select
  chosen b e = select-append (λ (x : Generator). eqb x.site k) generators (g ∷ []) ∙ ap (λ (t : Bool). generators_at k generators ++ cond t (g ∷ []) []) e

  pub given_more : {before after : Given} → IsGiven before (generators_at k generators) → GivenAt k g before after → IsGiven after (generators_at k (generators ++ (g ∷ [])))
  given_more {before} {after} so_far one = by (ℕ_discrete g.site k)
    where
      earlier : List Generator
      earlier = generators_at k generators

      by : Dec (g.site ≡ k) → IsGiven after (generators_at k (generators ++ (g ∷ [])))
      by (yes e) =
          rw (chosen true (eq-eqb g.site k e), one.here e)
          (record {
            output = ap (λ (n : ℕ). n + g.output) so_far.output ∙ sym (sum_by_snoc output_of earlier g);
            count = ap (λ (n : ℕ). n + 1) so_far.count ∙ sym (length-append earlier (g ∷ []));
          })
      by (no e) = rw (chosen false (ne_eqb g.site k e), append-nil, one.elsewhere e) so_far

-- no line yet
pub no_lines : (k output : ℕ) → pos output ≡ with_output output (inputs k []) (transits k [])
unfolding select sum_by
no_lines k output = ap pos (sym (add-zero (output + 0) ∙ add-zero output))

-- one line more
pub line_more : (k output : ℕ) (lines : List Line) (l : Line) {before after : ℤ} → before ≡ with_output output (inputs k lines) (transits k lines) → after ≡ (before +ℤ pos (when (eqb l.from k) l.produced)) -ℤ pos (when (eqb l.to k) l.produced) → after ≡ with_output output (inputs k (lines ++ (l ∷ []))) (transits k (lines ++ (l ∷ [])))
line_more k output lines l so_far one =
    let out = when (eqb l.from k) l.produced in
    let into = when (eqb l.to k) l.produced in
    one
    ∙ ap (λ (z : ℤ). (z +ℤ pos out) -ℤ pos into) so_far
    ∙ ap (λ (z : ℤ). z -ℤ pos into) (net-gain (output + produced (transits k lines)) (produced (inputs k lines)) out)
    ∙ take_both (pos (output + produced (transits k lines) + out)) (produced (inputs k lines)) into
    ∙ ap₂ (λ (a b : ℕ). pos a -ℤ pos b)
    (add_assoc output (produced (transits k lines)) out ∙ ap (λ (n : ℕ). output + n) (sym (more produced_of (λ (x : Line). eqb x.from k) lines l)))
    (sym (more produced_of (λ (x : Line). eqb x.to k) lines l))

-- how much it is at most
pub output_near : (head : Header) (k output : ℕ) (into out : List Line) → output ≤ most_outputs → Few head into → Few head out → nat_abs (with_output output (inputs k into) (transits k out)) ≤ most_losses
output_near head k output into out small i o =
    let ins = sum_small (KeptLine head) produced_of most_reading (λ x y. y.produced) (λ (x : Line). eqb x.to k) into i.kept i.few in
    let outs = sum_small (KeptLine head) produced_of most_reading (λ x y. y.produced) (λ (x : Line). eqb x.from k) out o.kept o.few in
    difference_le (output + produced (transits k out)) (produced (inputs k into)) (omega (arith, outs, small)) (omega (arith, ins))

-- the generators of an accepted park
module _ (p : Park) (recorded : Recorded p) (keeps : KeepsRules p) where
  kept : Kept (size_of p.header) p
  kept = park_kept p recorded keeps

  -- the first i of them
  first_kept : (i : ℕ) → Every (KeptGenerator p.header p.sites) (take i p.generators)
  first_kept i = (every_append (KeptGenerator p.header p.sites) (take i p.generators) (drop i p.generators) (rw take-append-drop kept.generators)).0

  -- how much those of one site give at most, and how many they are
  pub given_small : (k i : ℕ) {given : Given} → IsGiven given (generators_at k (take i p.generators)) → (given.output ≤ most_outputs) × (given.count ≤ most_generators)
  given_small k i {given} is =
      let test = λ (g : Generator). eqb g.site k in
      let few : length (take i p.generators) ≤ most_generators = omega (arith, length-take i p.generators, recorded.generators, kept.header.generators) in
      let output = sum_small (KeptGenerator p.header p.sites) output_of most_reading (λ x y. y.output) test (take i p.generators) (first_kept i) few in
      (rw is.output output, rw is.count (le_trans (length-select test (take i p.generators)) few))

  -- one that is read, with those before it
  module _ {i : ℕ} {g : Generator} {h : Header} (same : h ≡ p.header) (test : i < h.generators) (read : g ≡ get_or p.generators i no_generator) where
    pub generator_more : take (i + 1) p.generators ≡ take i p.generators ++ (g ∷ [])
    generator_more =
        let inside : i < length p.generators = rw (same, ← recorded.generators) at test in
        rw read (take_more p.generators i no_generator inside)

    pub output_small : g.output ≤ most_reading
    output_small =
        let next = rw generator_more at (first_kept (i + 1)) in
        (every_append (KeptGenerator p.header p.sites) (take i p.generators) (g ∷ []) next).1.0.output
