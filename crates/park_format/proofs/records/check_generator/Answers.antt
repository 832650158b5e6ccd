use Rattle.std.proofs.Common.{◌-◌, ◌≡◌, Bool, true, false, not, get_or, refl, sym, ap, ◌∙◌, lt-ltb, le-ltb}
use Rattle.park_format.specs.Park.{no_site, Park}
use Rattle.park_format.specs.Rules.{generator_rules, has_devices, wrong_generator, zero_or_above}
use Rattle.park_format.specs.declared.generator.Generator.{Generator}
use Rattle.park_format.specs.declared.header.Header.{Header}
use Rattle.park_format.specs.declared.site.Site.{Site}
use Rattle.park_format.proofs.Rules.{no_rows, row_broken, row_passed}
use Rattle.park_format.proofs.records.check_generator.Goals as goal

-- where the park has the generator's site, rule 26 asks what was asked of the site that was read
asked : (p : Park) (g : Generator) {h : Header} {x : Site} {has : Bool} → h ≡ p.header → zero_or_above h.sites g.site ≡ false → x ≡ get_or p.sites (g.site - 1) no_site → has ≡ has_devices x → wrong_generator p.header p.sites g ≡ not has
asked p g same kept read told = rw (← same, kept, ← read, ← told) refl

elsewhere : (p : Park) (g : Generator) {h : Header} → h ≡ p.header → zero_or_above h.sites g.site ≡ true → wrong_generator p.header p.sites g ≡ true
elsewhere p g same outside = rw (← same, outside) refl

pub returns-then-zero_or_above : goal.returns-then-zero_or_above
unfolding generator_rules
returns-then-zero_or_above g c =
    let outside = elsewhere (g.R.Records.park c.args.records.now) c.args.generator c.header.ensures (sym c.zero_or_above.ensures ∙ c.if-zero_or_above.true) in
    λ place. row_broken (record { same = refl }) outside

pub returns-then-not-has_devices : goal.returns-then-not-has_devices
unfolding generator_rules
returns-then-not-has_devices g c =
    let kept = sym c.zero_or_above.ensures ∙ c.if-zero_or_above.false in
    let asks = asked (g.R.Records.park c.args.records.now) c.args.generator c.header.ensures kept c.site.ensures c.has_devices.ensures in
    λ place. row_broken (record { same = refl }) (asks ∙ ap not c.if-not-has_devices.true)

pub returns-then-generator-gt-MOST_OUTPUT : goal.returns-then-generator-gt-MOST_OUTPUT
unfolding generator_rules
returns-then-generator-gt-MOST_OUTPUT g c =
    let kept = sym c.zero_or_above.ensures ∙ c.if-zero_or_above.false in
    let asks = asked (g.R.Records.park c.args.records.now) c.args.generator c.header.ensures kept c.site.ensures c.has_devices.ensures in
    λ place. row_broken (row_passed (record { same = refl }) (asks ∙ ap not c.if-not-has_devices.false)) (lt-ltb _ _ c.if-generator-gt-MOST_OUTPUT.true)

pub returns : goal.returns
unfolding generator_rules
returns g c =
    let kept = sym c.zero_or_above.ensures ∙ c.if-zero_or_above.false in
    let asks = asked (g.R.Records.park c.args.records.now) c.args.generator c.header.ensures kept c.site.ensures c.has_devices.ensures in
    λ place. no_rows (row_passed (row_passed (record { same = refl }) (asks ∙ ap not c.if-not-has_devices.false)) (le-ltb _ _ c.if-generator-gt-MOST_OUTPUT.false))
