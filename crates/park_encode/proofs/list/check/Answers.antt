use Rattle.std.proofs.Common.{length, ◌∙◌}
use Rattle.std.proofs.lemmas.Result.{err_from_is_err_and}
use Rattle.park_encode.specs.Inner.Counted.{Counted}
use Rattle.park_encode.proofs.Entries.{recorded_list}
use Rattle.park_encode.proofs.Table.{counted, few_refused, list_decides, list_refuses, looked}
use Rattle.park_encode.proofs.list.check.Goals as goal

pub returns-then-numbers-lt-HEADER : goal.returns-then-numbers-lt-HEADER
returns-then-numbers-lt-HEADER c = rw c.at.ensures (few_refused c.args.numbers.now c.if-numbers-lt-HEADER.true)

pub returns-in_err-at_place : goal.returns-in_err-at_place
returns-in_err-at_place c =
    let numbers = c.args.numbers.now in
    let e = err_from_is_err_and c.from_residual.result c.from_residual.ensures.1 in
    rw (e.1, e.2) (list_refuses numbers c.if-numbers-lt-HEADER.false (looked numbers c.header_of-header.ensures c.line_start.ensures (c.in_err-at_place.ensures ∙ c.check.ensures)))

pub invariant_of-list : goal.invariant_of-list
invariant_of-list c =
    let numbers = c.args.numbers.now in
    let sound = looked numbers c.header_of-header.ensures c.line_start.ensures (c.in_ok-at_place.ensures ∙ c.check.ensures) in
    let all : Counted c.header_of-header.result (length numbers) = rw c.header_of-header.ensures (counted numbers sound) in
    record { its = c.header_of-header.ensures; counted = all; recorded = recorded_list numbers c.header_of-header.ensures all }

pub returns : goal.returns
returns c =
    let numbers = c.args.numbers.now in
    c.check_records.ensures ∙ list_decides numbers (looked numbers c.header_of-header.ensures c.line_start.ensures (c.in_ok-at_place.ensures ∙ c.check.ensures))
