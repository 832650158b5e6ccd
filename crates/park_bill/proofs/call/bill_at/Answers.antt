use Rattle.park_format.proofs.Accepted.{park_kept}
use Rattle.park_bill.proofs.Sites.{room, site_bill}
use Rattle.park_bill.proofs.call.bill_at.Goals as goal

pub bill_of-requires : goal.bill_of-requires
bill_of-requires g c =
    let p = g.P.Records.park c.args.park.now in
    let kept = park_kept p (g.met.P.Records.recorded c.args.park.now) (g.met.P.Accepted.kept c.args.park.now) in
    room p kept c.args.k c.requires.0 c.requires.1 c.of.result c.site.result c.of.ensures c.site.ensures

pub returns : goal.returns
returns g c =
    let p = g.P.Records.park c.args.park.now in
    let kept = park_kept p (g.met.P.Records.recorded c.args.park.now) (g.met.P.Accepted.kept c.args.park.now) in
    rw c.bill_of.ensures (site_bill p kept c.args.k c.requires.0 c.requires.1 c.of.result c.site.result c.of.ensures c.site.ensures)
