use Rattle.std.proofs.Common.{ℕ, ◌≡◌, ◌+◌, ◌-◌, ◌≤◌, sym, ap, subst, ◌∙◌, arith}
use Rattle.std.proofs.Math.IntN.{ℤ}
use Rattle.park_format.proofs.Accepted.{park_kept}
use Rattle.park_format.proofs.Rules.{within}
use Rattle.park_sums.specs.Inner.Rows.{tangent_from}
use Rattle.park_sums.specs.declared.walk.SiteSums.{SiteSums}
use Rattle.park_sums.proofs.Signed.{near_fits, read_whole}
use Rattle.park_sums.proofs.Turns.{all_few}
use Rattle.park_bill.specs.Bill.{touching}
use Rattle.park_bill.specs.Inner.Site.{IsSite}
use Rattle.park_bill.proofs.Links.{made_site, row_near, tangent_room}
use Rattle.park_bill.proofs.call.bill_one.Goals as goal

-- site k - 1, counted from 0, is site k counted from 1
counted : (k : ℕ) → 1 ≤ k → k - 1 + 1 ≡ k
counted k h = omega arith

pub tangent-tangent-requires : goal.tangent-tangent-requires
tangent-tangent-requires g c =
    let p = g.P.Records.park c.args.park.now in
    let few = all_few p (park_kept p (g.met.P.Records.recorded c.args.park.now) (g.met.P.Accepted.kept c.args.park.now)) in
    let most = c.more_at.ensures.most in
    (tangent_room p few c.args.site c.site_sums-sums.ensures.net, rw (read_whole c.more_at.result (near_fits c.more_at.result most)) most)

pub site_after_transits-row-requires : goal.site_after_transits-row-requires
site_after_transits-row-requires g c =
    let p = g.P.Records.park c.args.park.now in
    let few = all_few p (park_kept p (g.met.P.Records.recorded c.args.park.now) (g.met.P.Accepted.kept c.args.park.now)) in
    record { near = row_near p few c.args.site c.site_sums-sums.ensures.net }

pub bill_at-requires : goal.bill_at-requires
bill_at-requires g c =
    let p = g.P.Records.park c.args.park.now in
    let few = all_few p (park_kept p (g.met.P.Records.recorded c.args.park.now) (g.met.P.Accepted.kept c.args.park.now)) in
    let there = within p.header.sites c.args.site (sym (rw (c.if-is_missing.false, c.header.ensures) at c.is_missing.ensures)) in
    let sums = c.site_sums-sums in
    let after : SiteSums = record sums.result { row = c.site_after_transits-row.result; tangent = c.tangent-tangent.result } in
    let whole = read_whole c.more_at.result (near_fits c.more_at.result c.more_at.ensures.most) ∙ c.more_at.ensures.more in
    let made : IsSite (touching c.args.site p) after =
    made_site p few c.args.site sums.ensures.net after c.site_after_transits-row.ensures
    (c.tangent-tangent.ensures ∙ ap (λ (z : ℤ). tangent_from z sums.result.row) whole) sums.ensures.inputs sums.ensures.transits in
    (omega (arith, there), subst (λ (k : ℕ). IsSite (touching k p) after) (sym (counted c.args.site there.0)) made)
