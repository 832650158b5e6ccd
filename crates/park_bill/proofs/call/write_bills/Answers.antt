use Rattle.std.proofs.Common.{ℕ, ◌≡◌, ◌+◌, ◌*◌, ◌-◌, ap, ◌∙◌, arith}
use Rattle.park_bill.specs.Bill.{bill_numbers, words}
use Rattle.park_bill.proofs.Slices.{next_slice, no_slice}
use Rattle.park_bill.proofs.call.write_bills.Goals as goal

-- a part of a list that starts anywhere
wide : (at : ℕ) → at + bill_numbers - at ≡ bill_numbers
wide at = omega arith

pub loop-k-init : goal.loop-k-init
loop-k-init g c = no_slice _ _

pub loop-k-preserved : goal.loop-k-preserved
loop-k-preserved g c =
    let k = c.loop-k.k in
    let p = g.P.Records.park c.args.park.now in
    next_slice p k _ c.loop-k.list c.args.list.now c.write.new.out (wide (bill_numbers * k)) c.loop-k.invariant (c.write.ensures ∙ ap words c.bill_at.ensures)
