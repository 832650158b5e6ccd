-- A header of at most 16 sites, 64 lines and 32 generators, and bytes enough for a file with it, so that each record lies within them.
-- Assumes nothing.
use Rattle.std.specs.Prelude.{ℕ, ◌≤◌}
use Rattle.park_format.specs.Limits.{most_generators, most_lines, most_sites}
use Rattle.park_format.specs.Rules.{size_of}
use Rattle.park_format.specs.declared.header.Header.{Header}

pub record Sized (h : Header) (bytes : ℕ) : Type 0 where
  pub sites : h.sites ≤ most_sites
  pub lines : h.lines ≤ most_lines
  pub generators : h.generators ≤ most_generators
  pub size : size_of h ≤ bytes
