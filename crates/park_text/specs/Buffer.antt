-- A text in a buffer.
-- Assumes nothing.
use Rattle.std.specs.Prelude.{ℕ, ◌≡◌, List, ◌++◌, length, drop}

-- the text stands at the start of a buffer whose later bytes are as they were
pub record Starts (text before : List ℕ) (size : ℕ) (after : List ℕ) : Type 0 where
  pub counted : size ≡ length text
  pub bytes : after ≡ text ++ drop (length text) before
