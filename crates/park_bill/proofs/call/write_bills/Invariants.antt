use Rattle.std.proofs.Common.{◌≡◌, ◌*◌, ◌++◌, drop}
use Rattle.park_bill.specs.Bill.{bill_numbers}
use Rattle.park_bill.specs.Reply.{bills_of}
use Rattle.park_bill.proofs.call.write_bills.Given as goal

-- the bills of the first k sites are written
abbrev pub invariant-loop-k : goal.invariant-loop-k
invariant-loop-k g l = l.list ≡ bills_of (g.P.Records.park l.park) l.k ++ drop (bill_numbers * l.k) l.fn.list
