use Rattle.std.proofs.Common.{refl}
use Rattle.std.specs.Prelude.{take}
use Rattle.park_sums.proofs.Nets.{net_near}
use Rattle.park_sums.proofs.OneSite.{line_at, sums_none}
use Rattle.park_sums.proofs.Turns.{turn, Turn}
use Rattle.park_sums.proofs.walk.site_sums.Given.{Over}
use Rattle.park_sums.proofs.walk.site_sums.Goals as goal
use Rattle.park_sums.proofs.walk.site_sums.Goals.{After-of}

turned : (g : Over) (c : After-of g) → Turn (g.P.Records.park c.args.park.now) c.loop-i.i c.of.result.line
turned g c =
    let x = c.args.park.now in
    turn (g.P.Records.park x) (g.met.P.Records.recorded x) (g.met.P.Accepted.kept x) c.header-i-end.ensures c.loop-i-test.true c.of.ensures.line

pub loop-i-init : goal.loop-i-init
loop-i-init g c = sums_none _ _ refl refl refl

pub touched_by-sums-requires : goal.touched_by-sums-requires
touched_by-sums-requires g c =
    let t = turned g (goal.at-touched_by-sums-requires g c).After-of in
    net_near _ c.args.site _ _ t.earlier t.earlier c.loop-i.invariant.net

pub loop-i-preserved : goal.loop-i-preserved
loop-i-preserved g c =
    let t = turned g (goal.at-loop-i-preserved g c).After-of in
    rw t.more (line_at c.args.site (take c.loop-i.i (g.P.Records.park c.args.park.now).lines) c.of.result.line c.loop-i.invariant c.touched_by-sums.ensures)
