use Rattle.std.specs.Prelude.{take}
use Rattle.park_format.specs.Park.{generators_at}
use Rattle.park_sums.specs.Inner.Rows.{IsGiven}
use Rattle.park_sums.proofs.own.given_at.Given as goal

-- the generators of the site among the first i are added up
abbrev pub invariant-loop-i : goal.invariant-loop-i
invariant-loop-i g l = IsGiven l.given (generators_at l.site (take l.i (g.P.Records.park l.park).generators))
