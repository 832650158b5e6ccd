use Rattle.park_format.specs.Made.{bytes_for}
use Rattle.park_format.proofs.Stores.{first_stored, last_stored, next_stored}
use Rattle.park_format.proofs.site.Site.write.Goals as goal

pub returns : goal.returns
unfolding bytes_for
returns c =
    let x = c.args.self in
    let at = c.args.at in
    first_stored 4 x.power c.write.ensures
    (next_stored at 4 1 x.flag c.write-2.ensures
    (next_stored at 5 2 x.compensation c.write-3.ensures
    (next_stored at 7 2 x.motors c.write-4.ensures
    (last_stored 2 x.discount c.write-5.ensures))))
