use Rattle.std.proofs.Common.{◌≡◌, ◌+◌, ◌-◌, ◌^◌, ◌<◌}
use Rattle.park_format.specs.Format.{number_at}
use Rattle.park_format.proofs.number.read.Given as goal

-- the bytes from i on are read
abbrev pub invariant-loop-i : goal.invariant-loop-i
invariant-loop-i g l = (l.number ≡ number_at (g.row.N - l.i) l.file (l.at + l.i)) × (l.number < 256 ^ (g.row.N - l.i))
