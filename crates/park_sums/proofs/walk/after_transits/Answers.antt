use Rattle.std.specs.Prelude.{take}
use Rattle.park_sums.proofs.AllSites.{all_less_none, transit_taken}
use Rattle.park_sums.proofs.Laters.{later_room}
use Rattle.park_sums.proofs.Turns.{turn, Turn}
use Rattle.park_sums.proofs.walk.after_transits.Given.{Over}
use Rattle.park_sums.proofs.walk.after_transits.Goals as goal
use Rattle.park_sums.proofs.walk.after_transits.Goals.{After-of-bounded}

turned : (g : Over) (c : After-of-bounded g) → Turn (g.P.Records.park c.args.park.now) c.loop-i.i c.of-bounded.result.line
turned g c =
    let x = c.args.park.now in
    turn (g.P.Records.park x) (g.met.P.Records.recorded x) (g.met.P.Accepted.kept x) c.header-i-end.ensures c.loop-i-test.true c.of-bounded.ensures.line

pub loop-i-init : goal.loop-i-init
loop-i-init g c = all_less_none _ c.requires

pub with_unmetered-transit-requires : goal.with_unmetered-transit-requires
with_unmetered-transit-requires g c =
    let t = turned g (goal.at-with_unmetered-transit-requires g c).After-of-bounded in
    later_room _ _ _ _ t.earlier (c.loop-i.invariant.row _ t.from) (c.requires.row _ t.from)

pub loop-i-preserved : goal.loop-i-preserved
loop-i-preserved g c =
    let t = turned g (goal.at-loop-i-preserved g c).After-of-bounded in
    rw t.more (transit_taken (take c.loop-i.i (g.P.Records.park c.args.park.now).lines) c.of-bounded.result.line t.from c.loop-i.invariant c.with_unmetered-transit.ensures)
