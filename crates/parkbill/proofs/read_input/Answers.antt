use Rattle.std.proofs.Common.{arith}
use Rattle.parkbill.proofs.Inputs.{read_on}
use Rattle.parkbill.proofs.read_input.Goals as goal

pub loop-size-preserved : goal.loop-size-preserved
loop-size-preserved g c = read_on _ _ _ c.in_ok-more.more c.loop-size.invariant c.read_more.ensures.read.kept (omega (arith, c.in_ok-more.ensures.read.answered)) c.in_ok-more.ensures.bytes.0
