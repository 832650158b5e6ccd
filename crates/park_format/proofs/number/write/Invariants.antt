use Rattle.std.proofs.Common.{◌≡◌, ◌+◌, ◌-◌}
use Rattle.std.proofs.lemmas.List.Edits.{sets}
use Rattle.park_format.specs.Made.{bytes_of}
use Rattle.park_format.proofs.number.write.Given as goal

-- with the rest of the bytes the number is stored
abbrev pub invariant-loop-i : goal.invariant-loop-i
invariant-loop-i g l = sets l.file (l.at + l.i) (bytes_of (g.row.N - l.i) l.rest) ≡ sets l.fn.file l.at (bytes_of g.row.N l.n)
