use Rattle.std.proofs.Common.{rules}
use Rattle.park_text.specs.Text.{refusal_text}
use Rattle.park_text.proofs.Writers.{starts, writes_then}
use Rattle.park_text.proofs.refusal.Goals as goal

pub returns : goal.returns
unfolding refusal_text
returns c =
    let text = writes_then c.bytes.ensures (writes_then c.fields.ensures.text c.bytes-2.ensures) in
    starts c.new-line.ensures text (search rules)
