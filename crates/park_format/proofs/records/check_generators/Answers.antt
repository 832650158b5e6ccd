use Rattle.std.proofs.Common.{◌+◌, ◌<◌, ◌≤◌, length, ◌∙◌}
use Rattle.std.proofs.lemmas.Result.{err_from_is_err_and}
use Rattle.park_format.specs.Park.{no_generator}
use Rattle.park_format.specs.Rules.{generator_rules}
use Rattle.park_format.proofs.Rules.{rest_none, rest_refused, rest_turn}
use Rattle.park_format.proofs.records.check_generators.Goals as goal

pub returns-in_err-at_place : goal.returns-in_err-at_place
returns-in_err-at_place g c =
    let e = err_from_is_err_and c.from_residual.result c.from_residual.ensures.1 in
    let p = g.R.Records.park c.args.records.now in
    let generators = p.generators in
    let inside : c.loop-i.i < length generators = rw (c.header-i-end.ensures, ← (g.met.R.Records.recorded c.args.records.now).generators) at c.loop-i-test.true in
    rw (e.1, e.2) (rest_refused (generator_rules p.header p.sites) no_generator generators c.loop-i.i inside c.generator.ensures (c.in_err-at_place.ensures ∙ c.check_generator.ensures (c.loop-i.i + 1)) ∙ c.loop-i.invariant)

pub loop-i-preserved : goal.loop-i-preserved
loop-i-preserved g c =
    let p = g.R.Records.park c.args.records.now in
    let generators = p.generators in
    let inside : c.loop-i.i < length generators = rw (c.header-i-end.ensures, ← (g.met.R.Records.recorded c.args.records.now).generators) at c.loop-i-test.true in
    rest_turn (generator_rules p.header p.sites) no_generator generators c.loop-i.i inside c.generator.ensures (c.in_ok-at_place.ensures ∙ c.check_generator.ensures (c.loop-i.i + 1)) ∙ c.loop-i.invariant

pub returns : goal.returns
returns g c =
    let p = g.R.Records.park c.args.records.now in
    let generators = p.generators in
    let all : length generators ≤ c.loop-i.i = rw (c.header-i-end.ensures, ← (g.met.R.Records.recorded c.args.records.now).generators) at c.loop-i-test.false in
    rest_none (generator_rules p.header p.sites) no_generator generators c.loop-i.i all ∙ c.loop-i.invariant
