use Rattle.park_format.specs.Made.{bytes_for}
use Rattle.park_format.proofs.Stores.{first_stored, last_stored}
use Rattle.park_format.proofs.header.Header.write.Goals as goal

pub returns : goal.returns
unfolding bytes_for
returns c =
    let h = c.args.self in
    rw c.requires.0
    (first_stored 3 h.mark c.write.ensures
    (first_stored 2 1 (rw c.requires.0 at c.write-2.ensures)
    (first_stored 1 h.month c.write-3.ensures
    (first_stored 1 h.sites c.write-4.ensures
    (first_stored 1 h.lines c.write-5.ensures
    (first_stored 4 h.price c.write-6.ensures
    (last_stored 2 h.hours c.write-7.ensures)))))))
