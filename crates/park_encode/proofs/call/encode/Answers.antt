use Rattle.std.proofs.Common.{ℕ, ◌≡◌, ◌≤◌, List, ◌++◌, drop, length, refl, sym, ap, inr, ◌∙◌, arith}
use Rattle.std.proofs.lemmas.Result.{err_from_is_err_and}
use Rattle.park_format.specs.Call.{answer, unless_refused}
use Rattle.park_format.specs.Rules.{rule_number, size_of}
use Rattle.park_format.specs.declared.header.Header.{Header}
use Rattle.park_encode.specs.Encode.{made_file, made_size}
use Rattle.park_encode.specs.Numbers.{list_park}
use Rattle.park_encode.proofs.Refusals.{nothing_refused}
use Rattle.park_encode.proofs.Refused.{buffer_kept, buffer_too_short, lists_refused}
use Rattle.park_encode.proofs.Written.{buffer_is}
use Rattle.park_encode.proofs.call.encode.Goals as goal

-- the size of the file, by the header of the list
its_size : {numbers its : List ℕ} {h : Header} {size : ℕ} → its ≡ numbers → h ≡ (list_park its).header → size ≡ size_of h → size ≡ made_size numbers
unfolding list_park
its_size same read told = told ∙ ap size_of read ∙ ap made_size same

pub returns-in_err-check : goal.returns-in_err-check
returns-in_err-check c =
    let e = err_from_is_err_and c.from_residual.result c.from_residual.ensures.1 in
    let r = c.in_err-check.field-0.0 in
    let refused = lists_refused c.args.numbers.now c.args.file.now (rule_number r.rule, r.place) (sym c.in_err-check.ensures) in
    record { reply = rw (e.1, e.2) (sym refused); file = sym (buffer_kept c.args.numbers.now c.args.file.now _ refused) }

pub returns-then-file-size : goal.returns-then-file-size
returns-then-file-size c =
    let size = its_size c.accepted-list.ensures c.header.ensures c.size-size.ensures in
    let refused = (buffer_too_short c.args.numbers.now c.args.file.now 0).1 (refl, (sym c.in_ok-check.ensures, omega (arith, size, c.if-file-size.true))) in
    record { reply = rw c.at.ensures (sym refused); file = sym (buffer_kept c.args.numbers.now c.args.file.now _ refused) }

pub write_park-requires : goal.write_park-requires
write_park-requires c =
    let size = its_size c.accepted-list.ensures c.header.ensures c.size-size.ensures in
    rw c.accepted-list.ensures (rw size at c.if-file-size.false)

pub returns : goal.returns
returns c =
    let numbers = c.args.numbers.now in
    let before = c.args.file.now in
    let size = its_size c.accepted-list.ensures c.header.ensures c.size-size.ensures in
    let room : made_size numbers ≤ length before = rw size at c.if-file-size.false in
    let allowed = nothing_refused numbers before (sym c.in_ok-check.ensures) room in
    record {
      reply = ap inr size ∙ sym (ap (λ refused. answer refused (made_size numbers)) allowed);
      file = buffer_is numbers (rw c.accepted-list.ensures at c.write_park.ensures) room ∙ sym (ap (λ refused. unless_refused refused (made_file numbers ++ drop (made_size numbers) before) before) allowed);
    }
