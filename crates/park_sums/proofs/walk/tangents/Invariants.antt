use Rattle.park_sums.specs.Inner.Rows.{AreTangents}
use Rattle.park_sums.proofs.walk.tangents.Given as goal

-- the tangents of sites 1 to k
abbrev pub invariant-loop-k : goal.invariant-loop-k
invariant-loop-k g l = AreTangents l.sums l.fn.sums (g.P.Records.park l.park) l.k
