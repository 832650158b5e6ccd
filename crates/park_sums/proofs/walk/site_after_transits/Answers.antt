use Rattle.std.specs.Prelude.{take}
use Rattle.park_format.specs.Park.{select}
use Rattle.park_sums.proofs.Laters.{later_room, less_at, less_none}
use Rattle.park_sums.proofs.Turns.{turn, Turn}
use Rattle.park_sums.proofs.walk.site_after_transits.Given.{Over}
use Rattle.park_sums.proofs.walk.site_after_transits.Goals as goal
use Rattle.park_sums.proofs.walk.site_after_transits.Goals.{After-of}

turned : (g : Over) (c : After-of g) → Turn (g.P.Records.park c.args.park.now) c.loop-i.i c.of.result.line
turned g c =
    let x = c.args.park.now in
    turn (g.P.Records.park x) (g.met.P.Records.recorded x) (g.met.P.Accepted.kept x) c.header-i-end.ensures c.loop-i-test.true c.of.ensures.line

pub loop-i-init : goal.loop-i-init
unfolding select
loop-i-init g c = less_none _ _ c.requires.near.numbers

pub less_of-less-requires : goal.less_of-less-requires
less_of-less-requires g c =
    let t = turned g (goal.at-less_of-less-requires g c).After-of in
    later_room _ _ _ _ t.earlier c.loop-i.invariant c.requires.near

pub loop-i-preserved : goal.loop-i-preserved
loop-i-preserved g c =
    let t = turned g (goal.at-loop-i-preserved g c).After-of in
    rw t.more (less_at c.args.site (take c.loop-i.i (g.P.Records.park c.args.park.now).lines) c.of.result.line c.loop-i.invariant c.less_of-less.ensures)
