-- The table with one rule for the ends of a line: it refuses what the present one refuses.
-- Assumes nothing.
use Prim.Native.Nat.{ℕ, suc}
use mathlib.Core.Path.{◌≡◌, refl, sym, ap, ◌∙◌}
use mathlib.Core.Bool.{Bool, true, false, ◌||◌}
use mathlib.Core.List.{List, [], ◌∷◌, ◌++◌}
use mathlib.Core.Option.{Option, none, some}
use lib.ListN.{drop}
use Rattle.park_format.specs.Accepted.{Every}
use Rattle.park_format.specs.Ends.{SameFilesRefused, SameRefused, former_line_rules, former_number, formerly}
use Rattle.park_format.specs.Rules.{Row, backwards, both_network, each, end_above, file_rules, first_broken, generator_rules, header_rules, input_rules, line_rules, refusal, rules_with, site_rules, start_rules}
use Rattle.park_format.specs.Rules.Row.{rule}
use Rattle.park_format.specs.declared.header.Header.{Header}
use Rattle.park_format.specs.declared.line.Line.{Line}
use Rattle.park_format.proofs.Rules.{first_append, first_stays}
use Rattle.park_format.proofs.Said.{Says, first_says}

-- two tables of which the first gives the refusal of the second by its former number
abbrev Agree : List Row → List Row → Type 0
Agree former present = first_broken former ≡ formerly (first_broken present)

agree_join : (former present former2 present2 : List Row) → Agree former present → Agree former2 present2 → Agree (former ++ former2) (present ++ present2)
agree_join former present former2 present2 a b = by (first_broken present) refl
  where
    by : (o : Option (ℕ × ℕ)) → first_broken present ≡ o → Agree (former ++ former2) (present ++ present2)
    by none e =
        first_append former former2 (a ∙ ap formerly e) ∙ b ∙ ap formerly (sym (first_append present present2 e))
    by (some r) e =
        first_stays former former2 (a ∙ ap formerly e) ∙ ap formerly (sym (first_stays present present2 e))

agree_each : {A : Type 0} (former present : ℕ → A → List Row) → ((k : ℕ) (x : A) → Agree (former k x) (present k x)) → (k : ℕ) (xs : List A) → Agree (each former k xs) (each present k xs)
unfolding each first_broken
agree_each former present a k [] = refl
agree_each former present a k (x ∷ xs) =
    agree_join (former k x) (present k x) (each former (suc k) xs) (each present (suc k) xs) (a k x) (agree_each former present a (suc k) xs)

-- rows whose numbers have not changed
abbrev Same : Row → Type 0
Same = Says (λ (n : ℕ). former_number n ≡ n)

agree_same : (rows : List Row) → Every Same rows → Agree rows rows
agree_same rows same = by (first_broken rows) refl
  where
    by : (o : Option (ℕ × ℕ)) → first_broken rows ≡ o → Agree rows rows
    by none e = e ∙ ap formerly (sym e)
    by (some r) e =
        e ∙ ap (λ (n : ℕ). some (n, r.1)) (sym (first_says (λ (n : ℕ). former_number n ≡ n) rows same e)) ∙ ap formerly (sym e)

-- one row in place of three
agree_ends : (k : ℕ) (a b c : Bool) (rows : List Row) → Agree rows rows → Agree (rule 14 k (a || (b || c)) ∷ rows) (rule 14 k a ∷ rule 23 k b ∷ rule 24 k c ∷ rows)
unfolding first_broken
agree_ends k true b c rows same = refl
agree_ends k false true c rows same = refl
agree_ends k false false true rows same = refl
agree_ends k false false false rows same = same

agree_line : (h : Header) (k : ℕ) (l : Line) → Agree (former_line_rules h k l) (line_rules h k l)
unfolding line_rules
agree_line h k l =
    agree_ends k (end_above h.sites l) (both_network l) (backwards l) _
    (agree_same (drop 3 (line_rules h k l)) (λ e. refl, (λ e. refl, (λ e. refl, (λ e. refl, tt)))))

pub same_refused : SameRefused
unfolding rules_with site_rules header_rules generator_rules input_rules
same_refused short wrongLength p =
    let h = p.header in
    let start = start_rules short ++ header_rules wrongLength h in
    let sites = each (site_rules h) 1 p.sites in
    let former = each (former_line_rules h) 1 p.lines in
    let lines = each (line_rules h) 1 p.lines in
    let generators = each (generator_rules h p.sites) 1 p.generators in
    let inputs = each (input_rules p.lines) 1 p.sites in
    agree_join start start (sites ++ (former ++ (generators ++ inputs))) (sites ++ (lines ++ (generators ++ inputs)))
    (agree_same start (λ e. refl, (λ e. refl, (λ e. refl, (λ e. refl, (λ e. refl, (λ e. refl, (λ e. refl, (λ e. refl, (λ e. refl, (λ e. refl, tt)))))))))))
    (agree_join sites sites (former ++ (generators ++ inputs)) (lines ++ (generators ++ inputs))
    (agree_each (site_rules h) (site_rules h) (λ k x. agree_same (site_rules h k x) (λ e. refl, (λ e. refl, (λ e. refl, (λ e. refl, tt))))) 1 p.sites)
    (agree_join former lines (generators ++ inputs) (generators ++ inputs) (agree_each (former_line_rules h) (line_rules h) (agree_line h) 1 p.lines)
    (agree_join generators generators inputs inputs
    (agree_each (generator_rules h p.sites) (generator_rules h p.sites) (λ k g. agree_same (generator_rules h p.sites k g) (λ e. refl, (λ e. refl, tt))) 1 p.generators)
    (agree_each (input_rules p.lines) (input_rules p.lines) (λ k x. agree_same (input_rules p.lines k x) (λ e. refl, tt)) 1 p.sites))))

pub same_files_refused : SameFilesRefused
unfolding refusal file_rules
same_files_refused file = same_refused _ _ _
