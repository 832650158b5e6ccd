use Rattle.std.proofs.Common.{arith}
use Rattle.park_format.proofs.Verdict.{too_short}
use Rattle.park_format.proofs.opening.check.Goals as goal

pub returns-then-file-lt-LEN : goal.returns-then-file-lt-LEN
returns-then-file-lt-LEN c = rw c.at.ensures (too_short c.args.file.now (omega (arith, c.if-file-lt-LEN.true)))

pub version_of-requires : goal.version_of-requires
version_of-requires c = omega (arith, c.if-file-lt-LEN.false)
