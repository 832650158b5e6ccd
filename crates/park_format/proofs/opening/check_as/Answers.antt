use Rattle.std.proofs.Common.{◌∙◌}
use Rattle.std.proofs.lemmas.Result.{err_from_is_err_and}
use Rattle.park_format.proofs.Headed.{asked, headed, of_version}
use Rattle.park_format.proofs.Verdict.{file_decides, file_refuses}
use Rattle.park_format.proofs.opening.check_as.Goals as goal

pub returns-in_err-at_place : goal.returns-in_err-at_place
returns-in_err-at_place g c =
    let file = c.args.file.now in
    let h = c.read-header.result in
    let e = err_from_is_err_and c.from_residual.result c.from_residual.ensures.1 in
    rw (e.1, e.2) (file_refuses file h c.read-header.ensures c.requires.long (asked file h c.size.ensures (c.in_err-at_place.ensures ∙ c.check.ensures) c.read-header.ensures))

pub invariant_of-laid : goal.invariant_of-laid
invariant_of-laid g c =
    let file = c.args.file.now in
    let h = c.read-header.result in
    let head = headed file h c.read-header.ensures (asked file h c.size.ensures (c.in_ok-at_place.ensures ∙ c.check.ensures) c.read-header.ensures) in
    record { its = head.its; version = of_version file h head c.requires.version; sized = head.sized; recorded = head.recorded; sound = head.sound }

pub returns : goal.returns
returns g c =
    let file = c.args.file.now in
    let h = c.read-header.result in
    let head = headed file h c.read-header.ensures (asked file h c.size.ensures (c.in_ok-at_place.ensures ∙ c.check.ensures) c.read-header.ensures) in
    c.check-2.ensures ∙ file_decides file h head.its head.sound
