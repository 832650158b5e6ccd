use Rattle.std.proofs.Common.{arith}
use Rattle.park_text.proofs.Digits.{length_word}
use Rattle.park_text.proofs.Lines.{fields_next}
use Rattle.park_text.proofs.Writers.{writes_then}
use Rattle.park_text.proofs.writer.Writer.fields.Goals as goal

pub loop-n-preserved : goal.loop-n-preserved
loop-n-preserved c =
    record {
      text = rw (fields_next c.args.numbers.now c.loop-n.n-index c.loop-n-test.true) (writes_then c.loop-n.invariant.text (writes_then c.bytes.ensures c.number.ensures));
      size = omega (arith, length_word);
    }
