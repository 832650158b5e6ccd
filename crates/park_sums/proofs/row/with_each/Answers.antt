use Rattle.std.proofs.Common.{◌≡◌, get_or, pos, rules, of_calls, refl}
use Rattle.park_sums.specs.Inner.Rows.{at, size}
use Rattle.park_sums.proofs.Rows.{made_each}
use Rattle.park_sums.proofs.row.with_each.Goals as goal

pub returns-clause-each : goal.returns-clause-each
returns-clause-each g c =
    made_each _ (λ f. (f.0.now ≡ c.args.step) × (f.1.now ≡ c.args.row) × (f.2.now ≡ c.args.numbers))
    (λ i y. goal.F-post g c.args.step (at c.args.row i) (get_or c.args.numbers i 0) y)
    (λ f i y q keeps called. search (rules, of_calls) parts 8) _ c.from_fn.result size (refl, refl, refl) c.from_fn.ensures.items.each (pos 0)
