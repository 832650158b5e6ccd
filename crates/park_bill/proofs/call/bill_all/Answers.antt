use Rattle.park_format.proofs.Accepted.{park_kept}
use Rattle.park_bill.proofs.Starts.{rows_near, sites_walked, tangents_room}
use Rattle.park_bill.proofs.call.bill_all.Goals as goal

pub tangents-requires : goal.tangents-requires
tangents-requires g c =
    let p = g.P.Records.park c.args.park.now in
    let kept = park_kept p (g.met.P.Records.recorded c.args.park.now) (g.met.P.Accepted.kept c.args.park.now) in
    record { room = tangents_room p kept c.sums.ensures }

pub after_transits-requires : goal.after_transits-requires
after_transits-requires g c =
    let p = g.P.Records.park c.args.park.now in
    let kept = park_kept p (g.met.P.Records.recorded c.args.park.now) (g.met.P.Accepted.kept c.args.park.now) in
    rows_near p kept c.sums.ensures c.tangents.ensures

pub write_bills-requires-clause-walked : goal.write_bills-requires-clause-walked
write_bills-requires-clause-walked g c =
    let p = g.P.Records.park c.args.park.now in
    let kept = park_kept p (g.met.P.Records.recorded c.args.park.now) (g.met.P.Accepted.kept c.args.park.now) in
    sites_walked p kept c.sums.ensures c.tangents.ensures c.after_transits.ensures
