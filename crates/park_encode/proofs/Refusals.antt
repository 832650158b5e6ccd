-- Laws of the refusal of `encode`: the list's own comes first, and a list and a buffer that pass both are not refused.
-- Assumes nothing.
use Prim.Native.Nat.{ℕ, ◌≤◌}
use mathlib.Core.Path.{◌≡◌}
use mathlib.Core.List.{List}
use mathlib.Core.Option.{none, some}
use borrow.Author.Tests.{le-ltb}
use lib.ListN.{length}
use Rattle.park_format.proofs.Call.{call_allows, rules_first}
use Rattle.park_encode.specs.Encode.{encode_refusal, IsAcceptedList, list_refusal, list_rules, made_size}

module _ (numbers buffer : List ℕ) where
  pub list_first : {r : ℕ × ℕ} → some r ≡ list_refusal numbers → encode_refusal numbers buffer ≡ some r
  unfolding encode_refusal list_refusal
  list_first e = rules_first (list_rules numbers) _ e

  pub nothing_refused : IsAcceptedList numbers → made_size numbers ≤ length buffer → encode_refusal numbers buffer ≡ none
  unfolding encode_refusal list_refusal
  nothing_refused accepted room = call_allows (list_rules numbers) 22 0 _ accepted (le-ltb (length buffer) (made_size numbers) room)
