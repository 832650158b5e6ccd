use Rattle.std.proofs.Common.{◌-◌}
use Rattle.parkbill.specs.Read.{HasRead}
use Rattle.parkbill.specs.declared.TheConstants.{ROOM}
use Rattle.parkbill.proofs.read_input.Given as goal

-- the first size bytes are read
abbrev pub invariant-loop-size : goal.invariant-loop-size
invariant-loop-size g l = HasRead (g.R.Read.remaining l.initial.reader) (g.R.Read.remaining l.reader) l.size l.buf

abbrev pub decreases-loop-size : goal.decreases-loop-size
decreases-loop-size g l = ROOM - l.size
