-- Bytes stored from a position on, with all else as before.
-- Assumes nothing.
use Rattle.std.specs.Prelude.{ℕ, ◌≡◌, List, length}
use Rattle.std.proofs.lemmas.List.Edits.{sets}

pub record Stored (bytes : List ℕ) (at : ℕ) (before after : List ℕ) : Type 0 where
  pub list : after ≡ sets before at bytes
  pub size : length after ≡ length before
