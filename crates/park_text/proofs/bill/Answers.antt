use Rattle.std.proofs.Common.{rules}
use Rattle.park_text.specs.Text.{names_text}
use Rattle.park_text.proofs.Lines.{bill_parts}
use Rattle.park_text.proofs.Writers.{starts, writes_then}
use Rattle.park_text.proofs.bill.Goals as goal

pub returns : goal.returns
unfolding names_text
returns c =
    rw (bill_parts c.args.count c.min.result c.args.list.now c.told-list c.min.ensures) (starts c.new-lines.ensures (writes_then c.bytes.ensures c.sites.ensures.text) (search rules))
