use Rattle.std.proofs.Common.{arith, lit≤, subst, sym, ◌∙◌, take}
use native.Mathlib.Nat.{le_trans}
use mir.Syntax.{w64}
use mir.Val.{SFits}
use Rattle.std.proofs.lemmas.Int.{to_z_pos}
use Rattle.park_sums.proofs.Owns.{line_more, no_lines, output_near}
use Rattle.park_sums.proofs.Signed.{near_fits, read_whole}
use Rattle.park_sums.proofs.Turns.{first_few, turn, Turn}
use Rattle.park_sums.proofs.own.with_lines.Given.{Over}
use Rattle.park_sums.proofs.own.with_lines.Goals as goal
use Rattle.park_sums.proofs.own.with_lines.Goals.{After-line}

turned : (g : Over) (c : After-line g) → Turn (g.P.Records.park c.args.park.now) c.loop-i.i c.line.result
turned g c =
    let x = c.args.park.now in
    turn (g.P.Records.park x) (g.met.P.Records.recorded x) (g.met.P.Accepted.kept x) c.header-i-end.ensures c.loop-i-test.true c.line.ensures

pub loop-i-init : goal.loop-i-init
loop-i-init g c = to_z_pos w64 c.args.output (omega arith) ∙ no_lines c.args.site c.args.output

pub with_line-sum-requires : goal.with_line-sum-requires
with_line-sum-requires g c =
    let t = turned g (goal.at-with_line-sum-requires g c).After-line in
    (rw c.loop-i.invariant (output_near _ c.args.site c.args.output _ _ c.requires.small t.earlier t.earlier), t.keeps.produced)

pub loop-i-preserved : goal.loop-i-preserved
loop-i-preserved g c =
    let t = turned g (goal.at-loop-i-preserved g c).After-line in
    let is = line_more c.args.site c.args.output (take c.loop-i.i (g.P.Records.park c.args.park.now).lines) c.line.result c.loop-i.invariant c.with_line-sum.ensures in
    let near = output_near _ c.args.site c.args.output _ _ c.requires.small t.next t.next in
    let fits = subst (SFits w64) (sym is) (near_fits _ (le_trans near (lit≤ tt))) in
    rw t.more (read_whole _ fits ∙ is)

pub returns-clause-most : goal.returns-clause-most
returns-clause-most g c =
    let x = c.args.park.now in
    let few = first_few (g.P.Records.park x) (g.met.P.Records.recorded x) (g.met.P.Accepted.kept x) c.loop-i.i in
    rw c.loop-i.invariant (le_trans (output_near _ c.args.site c.args.output _ _ c.requires.small few few) (lit≤ tt))
