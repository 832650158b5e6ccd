use Rattle.park_text.specs.Text.{site_text}
use Rattle.park_text.proofs.Writers.{writes_then}
use Rattle.park_text.proofs.site.Goals as goal

pub returns-clause-text : goal.returns-clause-text
unfolding site_text
returns-clause-text c = writes_then c.number.ensures (writes_then c.fields.ensures.text c.bytes.ensures)
