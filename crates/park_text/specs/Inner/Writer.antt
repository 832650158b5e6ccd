-- What a writer has written, and what it adds.
-- Assumes nothing.
use Rattle.std.specs.Prelude.{ℕ, ◌≡◌, ◌+◌, List, ◌++◌, length, take, drop}
use Rattle.std.specs.Borrow.{MutBor}
use Rattle.park_text.specs.declared.writer.Writer.{Writer}

-- a writer into a lent buffer, with an empty text
pub record Begins (buffer : MutBor (List ℕ)) (w : Writer) : Type 0 where
  pub lent : w.out.ghost_name ≡ buffer.ghost_name
  pub same : w.out.now ≡ buffer.now
  pub size : w.size ≡ 0

-- the text so far, and the bytes of the buffer after it
abbrev pub text_of : Writer → List ℕ
text_of w = take w.size w.out.now

abbrev pub rest_of : Writer → List ℕ
rest_of w = drop w.size w.out.now

-- the text is added in the same buffer, and the bytes after it are as they were
pub record Writes (text : List ℕ) (before after : Writer) : Type 0 where
  pub lent : after.out.ghost_name ≡ before.out.ghost_name
  pub size : after.size ≡ before.size + length text
  pub added : text_of after ≡ text_of before ++ text
  pub kept : rest_of after ≡ drop (length text) (rest_of before)
