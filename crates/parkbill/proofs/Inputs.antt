-- What the bytes of a buffer are of an input, and that they have one answer.
-- Assumes nothing.
use Prim.Native.Nat.{ℕ, ◌+◌, ◌≤◌, ◌<◌}
use native.Mathlib.Omega.{arith}
use mathlib.Core.Logic.{⊎_elim}
use mathlib.Core.Path.{◌≡◌, sym, ap, ◌∙◌}
use mathlib.Core.List.{List, ◌++◌, append_assoc, append-nil}
use lib.ListN.{length, take, drop, length-take}
use lib.Seq.{take_all, take_at, take-add}
use Rattle.std.specs.Prelude.{Option, Some, None, IfSome}
use Rattle.std.specs.Io.KnownBytes.{Consumes, IsAtEnd}
use Rattle.std.proofs.lemmas.Bool.{cases_lt}
use Rattle.park_format.specs.Cut.{longest}
use Rattle.park_text.specs.Answer.{answer_to}
use Rattle.park_text.specs.Buffer.{Starts}
use Rattle.park_text.proofs.Answers.{cut_answer}
use Rattle.parkbill.specs.Answers.{AnswersEvery, CanBeOf, OnlyInput, WholeInput}
use Rattle.parkbill.specs.Read.{HasRead}

pub whole_input : WholeInput
whole_input room bytes within = take_all room bytes within

pub only_input : OnlyInput
only_input room input bytes less read =
    let short : length input ≤ room = omega (arith, ap length read, length-take room input) in
    sym (take_all room input short) ∙ read

-- two reads one after the other
then_read : (a b c : Option (List ℕ)) (xs ys : List ℕ) → Consumes a b xs → Consumes b c ys → Consumes a c (xs ++ ys)
then_read None b c xs ys first second = tt
then_read (Some x) None c xs ys first second = absurd first
then_read (Some x) (Some y) None xs ys first second = absurd second
then_read (Some x) (Some y) (Some z) xs ys first second = first ∙ ap (λ (l : List ℕ). xs ++ l) second ∙ sym (append_assoc xs ys z)

-- a read after the bytes that were read before, which it keeps
pub read_on : (a b c : Option (List ℕ)) {size : ℕ} (more : ℕ) {before after : List ℕ} → HasRead a b size before → take size after ≡ take size before → size + more ≤ length after → Consumes b c (take more (drop size after)) → HasRead a c (size + more) after
read_on a b c {size} more {before} {after} read kept within next =
    record { within = within; bytes = rw (take-add size more after) (then_read a b c (take size after) (take more (drop size after)) (rw kept read.bytes) next) }

-- the bytes read until the input ended or the buffer was full
pub read_of : (a b : Option (List ℕ)) (room : ℕ) {size : ℕ} {buffer : List ℕ} → length buffer ≡ room → HasRead a b size buffer → (size < room → IsAtEnd b) → IfSome a (λ input. CanBeOf room input (take size buffer))
read_of None b room long read end = tt
read_of (Some input) None room long read end = absurd read.bytes
read_of (Some input) (Some rest) room {size} {buffer} long read end =
    let size_is = length-take size buffer in
    ⊎_elim
    (λ less. ap (take room) (read.bytes ∙ ap (λ (l : List ℕ). take size buffer ++ l) (end less) ∙ append-nil (take size buffer)) ∙ take_all room (take size buffer) (omega (arith, size_is)))
    (λ full. ap (take room) read.bytes ∙ take_at (take size buffer) rest room (omega (arith, size_is, read.within)))
    (cases_lt size room)

-- with room for more than an accepted file, the answer to the bytes read is that to every input that they can be of
pub every : (room : ℕ) (bytes : List ℕ) {text before after : List ℕ} {size : ℕ} → longest < room → Starts text before size after → text ≡ answer_to bytes → AnswersEvery room bytes before size after
every room bytes more starts e input read = rw (sym (cut_answer room more input) ∙ ap answer_to read ∙ sym e) starts
