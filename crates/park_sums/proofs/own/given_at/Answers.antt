use Rattle.std.specs.Prelude.{take}
use Rattle.park_sums.proofs.Owns.{generator_more, given_more, given_none, given_small, output_small}
use Rattle.park_sums.proofs.own.given_at.Goals as goal

pub loop-i-init : goal.loop-i-init
loop-i-init g c = given_none c.args.site

pub with-given-requires-clause-room : goal.with-given-requires-clause-room
with-given-requires-clause-room g c =
    let x = c.args.park.now in
    given_small (g.P.Records.park x) (g.met.P.Records.recorded x) (g.met.P.Accepted.kept x) c.args.site c.loop-i.i c.loop-i.invariant

pub with-given-requires-clause-small : goal.with-given-requires-clause-small
with-given-requires-clause-small g c =
    let x = c.args.park.now in
    output_small (g.P.Records.park x) (g.met.P.Records.recorded x) (g.met.P.Accepted.kept x) c.header-i-end.ensures c.loop-i-test.true c.generator.ensures

pub loop-i-preserved : goal.loop-i-preserved
loop-i-preserved g c =
    let x = c.args.park.now in
    let p = g.P.Records.park x in
    rw (generator_more p (g.met.P.Records.recorded x) (g.met.P.Accepted.kept x) c.header-i-end.ensures c.loop-i-test.true c.generator.ensures)
    (given_more c.args.site (take c.loop-i.i p.generators) c.generator.result c.loop-i.invariant c.with-given.ensures)

pub returns-clause-most : goal.returns-clause-most
returns-clause-most g c =
    let x = c.args.park.now in
    (given_small (g.P.Records.park x) (g.met.P.Records.recorded x) (g.met.P.Accepted.kept x) c.args.site c.loop-i.i c.loop-i.invariant).0
