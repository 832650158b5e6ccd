use Rattle.std.proofs.Common.{length, arith}
use Rattle.park_encode.specs.Inner.Counted.{Counted}
use Rattle.park_encode.proofs.Accepted.{counted_list}
use Rattle.park_encode.proofs.Entries.{recorded_list}
use Rattle.park_encode.proofs.list.accepted.Goals as goal

pub header_of-requires : goal.header_of-requires
header_of-requires c = omega (arith, (counted_list c.args.numbers.now c.requires).size)

pub invariant_of-result : goal.invariant_of-result
invariant_of-result c =
    let numbers = c.args.numbers.now in
    let all : Counted c.header_of.result (length numbers) = rw c.header_of.ensures (counted_list numbers c.requires) in
    record { its = c.header_of.ensures; counted = all; recorded = recorded_list numbers c.header_of.ensures all }
