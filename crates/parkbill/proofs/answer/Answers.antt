use Rattle.std.proofs.Common.{ℕ, ◌≡◌, List, Result, Ok, Err, sym, ap, ◌∙◌, arith}
use mathlib.Core.Path.{ap₂}
use Rattle.std.specs.Result.{result_unwrap_or}
use Rattle.park_format.proofs.Sizes.{latest_sizes}
use Rattle.park_format.specs.Rules.{rule_number}
use Rattle.park_format.specs.declared.rule.Refusal.{Refusal}
use Rattle.park_format.specs.Call.{reply_of}
use Rattle.park_bill.specs.Reply.{list_after, park_outcome}
use Rattle.park_text.specs.Answer.{answer_text, answer_to, unwritten}
use Rattle.park_text.specs.Text.{bill_text, refusal_text}
use Rattle.parkbill.specs.declared.TheConstants.{ROOM}
use Rattle.parkbill.proofs.Inputs.{every}
use Rattle.parkbill.proofs.answer.Goals as goal

module _ (file : List ℕ) {reply : Result ℕ Refusal} (answers : reply_of reply ≡ park_outcome file unwritten) where
  refused : {r : Refusal} {number place : ℕ} → reply ≡ Err r → number ≡ rule_number r.rule → place ≡ r.place → refusal_text number place ≡ answer_to file
  unfolding answer_to
  refused e told at = ap₂ refusal_text told at ∙ ap (λ o. answer_text o (list_after file unwritten)) (ap reply_of (sym e) ∙ answers)

  billed : {s count : ℕ} {list : List ℕ} → reply ≡ Ok s → count ≡ result_unwrap_or reply 0 → list ≡ list_after file unwritten → bill_text count list ≡ answer_to file
  unfolding answer_to
  billed {list = list} e counted written =
      ap (λ n. bill_text n list) (counted ∙ ap (λ r. result_unwrap_or r 0) e) ∙ ap₂ answer_text (ap reply_of (sym e) ∙ answers) written

pub returns-in_default-clause-text : goal.returns-in_default-clause-text
returns-in_default-clause-text c =
    every ROOM c.args.bytes.now (omega (arith, latest_sizes)) c.bill.ensures (billed c.args.bytes.now c.bill_park_by-reply.ensures.reply c.in_default.is c.unwrap_or.ensures c.bill_park_by-reply.ensures.written)

pub returns-clause-text : goal.returns-clause-text
returns-clause-text c =
    every ROOM c.args.bytes.now (omega (arith, latest_sizes)) c.refusal.ensures (refused c.args.bytes.now c.bill_park_by-reply.ensures.reply c.in-Err.is c.from.ensures c.from-2.ensures)
