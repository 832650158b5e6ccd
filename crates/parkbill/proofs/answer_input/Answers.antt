use Rattle.std.proofs.lemmas.Option.{IfSome_then}
use Rattle.parkbill.specs.declared.TheConstants.{ROOM}
use Rattle.parkbill.proofs.Inputs.{read_of}
use Rattle.parkbill.proofs.answer_input.Goals as goal

pub returns-clause-text : goal.returns-clause-text
returns-clause-text g c =
    IfSome_then (g.R.Read.remaining c.args.reader.now) (read_of _ _ ROOM c.read_input.array_long c.in_ok-size.ensures.ok c.in_ok-size.ensures.end) c.answer.ensures.text
