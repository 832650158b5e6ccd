-- A file cut short: if more bytes are left than any accepted file has, they are refused as the whole file is.
-- Assumes nothing.
use Rattle.std.specs.Prelude.{ℕ, ◌≤◌, ◌<◌, ◌≡◌, List, length, take}
use Rattle.std.proofs.Math.Option.{some}
use Rattle.park_format.specs.Format.{file_size}
use Rattle.park_format.specs.Limits.{latest_version, most_generators, most_lines, most_sites}
use Rattle.park_format.specs.Rules.{refusal}

-- the bytes of the longest file that the rules accept: 1,951, of the latest version, 16 sites, 64 lines and 32 generators
abbrev pub longest : ℕ
longest = file_size latest_version most_sites most_lines most_generators

-- a longer file is refused, and by its first bytes as by all of them, if those are more than the longest accepted file has
abbrev pub CutRefusal : Type 0
CutRefusal =
    (bytes : ℕ) → longest < bytes → (file : List ℕ) → bytes ≤ length file
    → (r : ℕ × ℕ) × ((refusal (take bytes file) ≡ some r) × (refusal file ≡ some r))
