use Rattle.park_bill.proofs.Outcomes.{list_in_balance}
use Rattle.park_c.proofs.park_bill_park.Goals as goal

pub returns-clause-balance : goal.returns-clause-balance
returns-clause-balance c = list_in_balance c.args.file.now c.args.list.now c.tell_park.ensures.list
