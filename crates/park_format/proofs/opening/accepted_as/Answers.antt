use Rattle.park_format.proofs.Accepted.{header_fits}
use Rattle.park_format.proofs.Headed.{accepted_headed, accepted_keeps, of_version}
use Rattle.park_format.proofs.opening.accepted_as.Goals as goal

pub read-requires : goal.read-requires
read-requires g c = header_fits c.args.file.now c.requires.accepted

pub invariant_of-laid : goal.invariant_of-laid
invariant_of-laid g c =
    let head = accepted_headed c.args.file.now c.requires.accepted c.read.result c.read.ensures in
    record { its = head.its; version = of_version c.args.file.now c.read.result head c.requires.version; sized = head.sized; recorded = head.recorded; sound = head.sound }

pub invariant_of-result : goal.invariant_of-result
invariant_of-result g c = record { kept = accepted_keeps c.args.file.now c.requires.accepted }
