use Rattle.std.proofs.Common.{◌+◌, ◌*◌, ◌≤◌}
use Rattle.park_text.specs.Inner.Writer.{Writes}
use Rattle.park_text.specs.Text.{sites_text}
use Rattle.park_text.proofs.sites.Given as goal

-- the lines of the first k sites are written
abbrev pub invariant-loop-k : goal.invariant-loop-k
invariant-loop-k l = record {
  text : Writes (sites_text l.k l.list) l.fn.out l.out;
  size : l.out.size ≤ l.fn.out.size + 234 * l.k;
}
