use Rattle.std.proofs.Common.{◌≡◌, sym, ap, ◌∙◌}
use Rattle.std.proofs.lemmas.Result.{err_from_is_err_and}
use Rattle.park_format.specs.Opened.{opened_park}
use Rattle.park_format.specs.Call.{reply_of}
use Rattle.park_bill.specs.Reply.{site_outcome}
use Rattle.park_bill.proofs.Outcomes.{site_in_balance}
use Rattle.park_bill.proofs.Refusals.{site_answered, site_refused}
use Rattle.park_bill.proofs.call.bill_site_by.Goals as goal

pub returns-in_err-park-clause-reply : goal.returns-in_err-park-clause-reply
returns-in_err-park-clause-reply c =
    let e = err_from_is_err_and c.from_residual.result c.from_residual.ensures.1 in
    rw (e.1, e.2) (site_refused c.args.file.now c.in_err-park.ensures.refused c.args.site)

pub returns-in-First : goal.returns-in-First
returns-in-First c =
    let its = ap opened_park (sym c.in-First.is) ∙ c.in_ok-park.ensures.park in
    let told : reply_of c.bill_one.result ≡ site_outcome c.args.file.now c.args.site =
    c.bill_one.ensures ∙ site_answered c.args.file.now c.in_ok-park.ensures.refused its c.args.site in
    record { reply = told; balance = site_in_balance c.args.file.now c.args.site told }

pub returns-in-Second : goal.returns-in-Second
returns-in-Second c =
    let its = ap opened_park (sym c.in-Second.is) ∙ c.in_ok-park.ensures.park in
    let told : reply_of c.bill_one-in-Second.result ≡ site_outcome c.args.file.now c.args.site =
    c.bill_one-in-Second.ensures ∙ site_answered c.args.file.now c.in_ok-park.ensures.refused its c.args.site in
    record { reply = told; balance = site_in_balance c.args.file.now c.args.site told }
