use Rattle.std.proofs.Common.{take, ◌+◌, ◌*◌, ◌≤◌}
use Rattle.park_text.specs.Inner.Writer.{Writes}
use Rattle.park_text.specs.Text.{fields_text}
use Rattle.park_text.proofs.writer.Writer.fields.Given as goal

-- the numbers before this one are written
abbrev pub invariant-loop-n : goal.invariant-loop-n
invariant-loop-n l = record {
  text : Writes (fields_text (take l.n-index l.numbers)) l.fn.self l.self;
  size : l.self.size ≤ l.fn.self.size + 21 * l.n-index;
}
