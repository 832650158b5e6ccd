use Rattle.park_format.specs.Made.{bytes_for}
use Rattle.park_format.proofs.Stores.{first_stored, last_stored, next_stored}
use Rattle.park_format.proofs.line.Line.write.Goals as goal

pub returns : goal.returns
unfolding bytes_for
returns c =
    let l = c.args.self in
    let at = c.args.at in
    first_stored 1 l.from c.write.ensures
    (next_stored at 1 1 l.to c.write-2.ensures
    (next_stored at 2 1 l.meters c.write-3.ensures
    (next_stored at 3 2 l.eerp c.write-4.ensures
    (next_stored at 5 4 l.active c.write-5.ensures
    (next_stored at 9 4 l.reactive c.write-6.ensures
    (next_stored at 13 4 l.generated c.write-7.ensures
    (last_stored 4 l.night c.write-8.ensures)))))))
