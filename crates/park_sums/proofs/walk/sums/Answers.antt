use Rattle.std.specs.Prelude.{take}
use Rattle.park_sums.proofs.AllSites.{line_added, sums_fresh, sums_near}
use Rattle.park_sums.proofs.Turns.{turn, Turn}
use Rattle.park_sums.proofs.walk.sums.Given.{Over}
use Rattle.park_sums.proofs.walk.sums.Goals as goal
use Rattle.park_sums.proofs.walk.sums.Goals.{After-of}

turned : (g : Over) (c : After-of g) → Turn (g.P.Records.park c.args.park.now) c.loop-i.i c.of.result.line
turned g c =
    let x = c.args.park.now in
    turn (g.P.Records.park x) (g.met.P.Records.recorded x) (g.met.P.Accepted.kept x) c.header-i-end.ensures c.loop-i-test.true c.of.ensures.line

pub add_line-requires-clause-near : goal.add_line-requires-clause-near
add_line-requires-clause-near g c = sums_near _ c.loop-i.invariant (turned g (goal.at-add_line-requires-clause-near g c).After-of).earlier

pub loop-i-init : goal.loop-i-init
loop-i-init g c = sums_fresh

pub loop-i-preserved : goal.loop-i-preserved
loop-i-preserved g c =
    let t = turned g (goal.at-loop-i-preserved g c).After-of in
    rw t.more (line_added (take c.loop-i.i (g.P.Records.park c.args.park.now).lines) c.of.result.line t.to t.from c.loop-i.invariant c.add_line.ensures)
