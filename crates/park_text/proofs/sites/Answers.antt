use Rattle.std.proofs.Common.{arith, length-take}
use Rattle.park_text.proofs.Lines.{sites_next}
use Rattle.park_text.proofs.Writers.{writes_then}
use Rattle.park_text.proofs.sites.Goals as goal

pub loop-k-preserved : goal.loop-k-preserved
loop-k-preserved c =
    record {
      text = rw (sites_next c.args.list.now c.as_chunks.result.0.now c.args.count c.loop-k.k c.as_chunks.ensures.front (omega arith) (omega (arith, length-take c.args.count c.as_chunks.result.0.now))) (writes_then c.loop-k.invariant.text c.site.ensures.text);
      size = omega arith;
    }
