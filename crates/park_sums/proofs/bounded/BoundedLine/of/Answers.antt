use Rattle.std.proofs.Common.{refl}
use Rattle.park_sums.proofs.Turns.{turn, Turn}
use Rattle.park_sums.proofs.bounded.BoundedLine.of.Given.{Over}
use Rattle.park_sums.proofs.bounded.BoundedLine.of.Goals as goal
use Rattle.park_sums.proofs.bounded.BoundedLine.of.Goals.{After-line}

turned : (g : Over) (c : After-line g) → Turn (g.P.Records.park c.args.park.now) c.args.i c.line.result
turned g c =
    let x = c.args.park.now in
    turn (g.P.Records.park x) (g.met.P.Records.recorded x) (g.met.P.Accepted.kept x) refl c.requires c.line.ensures

pub invariant_of-result : goal.invariant_of-result
invariant_of-result g c = record { small = (turned g (goal.at-invariant_of-result g c).After-line).small }

pub returns-clause-ends : goal.returns-clause-ends
returns-clause-ends g c =
    let t = turned g (goal.at-returns-clause-ends g c).After-line in
    (t.to, t.from)
