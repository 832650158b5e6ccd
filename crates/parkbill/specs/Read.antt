-- What reading leaves in a buffer. No contract says which bytes standard input gives, nor when: so these leave open the bytes that a read
-- adds, and what it answers within its range. They say that each read keeps the bytes before it, how the bytes are counted, and when
-- reading ends.
-- Assumes nothing.
use Rattle.std.specs.Prelude.{ℕ, ◌-◌, ◌≤◌, ◌<◌, ◌≡◌, List, Option, Result, IfOk, OnErr, length, take}
use Rattle.std.specs.Io.KnownBytes.{Consumes, IsAtEnd}

-- as many bytes can be taken from the start of the list
abbrev pub IsPrefixLen : ℕ → List ℕ → Type 0
IsPrefixLen n xs = n ≤ length xs

-- one read more, after the first size bytes: they are kept, and what it answers is a number of bytes that fit
pub record ReadMore {E : Type 0} (size : ℕ) (before : List ℕ) (r : Result ℕ E) (after : List ℕ) : Type 0 where
  pub kept : take size after ≡ take size before
  pub room : length after ≡ length before
  -- a number of bytes that fit
  pub answered : IfOk r (λ more. more ≤ length before - size)

-- the first size bytes of the buffer are those that a reader has given
pub record HasRead (before now : Option (List ℕ)) (size : ℕ) (buffer : List ℕ) : Type 0 where
  pub within : IsPrefixLen size buffer
  pub bytes : Consumes before now (take size buffer)

-- an input is read until it ends, there is no more room or a read fails
pub record ReadInput {E : Type 0} (room : ℕ) (before now : Option (List ℕ)) (r : Result ℕ E) (buffer : List ℕ) : Type 0 where
  pub ok : IfOk r (λ size. HasRead before now size buffer)
  pub end : IfOk r (λ size. size < room → IsAtEnd now)
  pub err : OnErr r ((size : ℕ) × (size < room) × HasRead before now size buffer)
