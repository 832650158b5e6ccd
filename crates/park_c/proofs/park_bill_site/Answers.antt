use Rattle.park_c.proofs.Returned.{returned_in_balance}
use Rattle.park_c.proofs.park_bill_site.Goals as goal

pub returns-clause-balance : goal.returns-clause-balance
returns-clause-balance c =
    returned_in_balance c.args.file.now c.args.site c.args.bill.now c.tell_site.ensures.number c.tell_site.ensures.bill
