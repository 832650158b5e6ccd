use Rattle.std.proofs.Common.{◌≡◌, sym, ap, ◌∙◌}
use Rattle.std.proofs.lemmas.Result.{err_from_is_err_and}
use Rattle.park_format.specs.Opened.{opened_park}
use Rattle.park_bill.specs.Reply.{list_after}
use Rattle.park_bill.proofs.Outcomes.{list_in_balance}
use Rattle.park_bill.proofs.Refusals.{list_left, list_refused, park_answered, park_refused}
use Rattle.park_bill.proofs.call.bill_park_by.Goals as goal

pub returns-in_err-park-clause-reply : goal.returns-in_err-park-clause-reply
returns-in_err-park-clause-reply c =
    let e = err_from_is_err_and c.from_residual.result c.from_residual.ensures.1 in
    rw (e.1, e.2) (park_refused c.args.file.now c.in_err-park.ensures.refused c.args.list.now)

pub returns-in_err-park-clause-written : goal.returns-in_err-park-clause-written
returns-in_err-park-clause-written c = list_refused c.args.file.now c.in_err-park.ensures.refused c.args.list.now

pub returns-in-First : goal.returns-in-First
returns-in-First c =
    let its = ap opened_park (sym c.in-First.is) ∙ c.in_ok-park.ensures.park in
    let left : c.bill_all.new.list ≡ list_after c.args.file.now c.args.list.now =
    c.bill_all.ensures.written ∙ list_left c.args.file.now c.in_ok-park.ensures.refused its c.args.list.now in
    record {
      reply = c.bill_all.ensures.reply ∙ park_answered c.args.file.now c.in_ok-park.ensures.refused its c.args.list.now;
      written = left;
      balance = list_in_balance c.args.file.now c.args.list.now left;
    }

pub returns-in-Second : goal.returns-in-Second
returns-in-Second c =
    let its = ap opened_park (sym c.in-Second.is) ∙ c.in_ok-park.ensures.park in
    let left : c.bill_all-in-Second.new.list ≡ list_after c.args.file.now c.args.list.now =
    c.bill_all-in-Second.ensures.written ∙ list_left c.args.file.now c.in_ok-park.ensures.refused its c.args.list.now in
    record {
      reply = c.bill_all-in-Second.ensures.reply ∙ park_answered c.args.file.now c.in_ok-park.ensures.refused its c.args.list.now;
      written = left;
      balance = list_in_balance c.args.file.now c.args.list.now left;
    }
