-- A header of at most 16 sites and 64 lines, and numbers enough for a list with it, so that each record lies within them.
-- Assumes nothing.
use Rattle.std.specs.Prelude.{ℕ, ◌≤◌}
use Rattle.park_format.specs.Limits.{most_lines, most_sites}
use Rattle.park_format.specs.declared.header.Header.{Header}
use Rattle.park_encode.specs.Numbers.{list_count}

pub record Counted (h : Header) (count : ℕ) : Type 0 where
  pub sites : h.sites ≤ most_sites
  pub lines : h.lines ≤ most_lines
  pub size : list_count h.sites h.lines ≤ count
