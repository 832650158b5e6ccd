-- The sizes of the records by version, and that each record lies within its file.
-- Assumes nothing.
use Prim.Native.Nat.{ℕ, ◌+◌, ◌*◌, ◌≤◌, ◌<◌}
use native.Mathlib.Nat.{mul-suc, mul-le-mul, mul-le-mul_left}
use native.Mathlib.Omega.{arith}
use mathlib.Core.Path.{◌≡◌, refl}
use mathlib.Core.Bool.{Bool, true, false, cond}
use mathlib.Core.List.{[], ◌∷◌}
use lib.Dec.{eqb}
use Rattle.park_format.specs.Format.{header_size, line_size, line_start, shortest_header, shortest_line, total}
use Rattle.park_format.specs.Inner.Sized.{Sized}
use Rattle.park_format.specs.Limits.{latest_version}
use Rattle.park_format.specs.declared.header.Header.{Header}

-- what holds of the first version and of every later one
pub by_version : (P : Bool → Type 0) → P true → P false → (version : ℕ) → P (eqb version 1)
by_version P first later version = by (eqb version 1)
  where
    by : (b : Bool) → P b
    by true = first
    by false = later

pub header_sizes : (version : ℕ) → (shortest_header ≤ header_size version) × (header_size version ≤ 15)
unfolding header_size
header_sizes = by_version (λ (b : Bool). (14 ≤ total (3 ∷ 2 ∷ 1 ∷ 1 ∷ 1 ∷ 4 ∷ 2 ∷ cond b [] (1 ∷ []))) × (total (3 ∷ 2 ∷ 1 ∷ 1 ∷ 1 ∷ 4 ∷ 2 ∷ cond b [] (1 ∷ [])) ≤ 15)) (omega arith, omega arith) (omega arith, omega arith)

pub line_sizes : (version : ℕ) → (shortest_line ≤ line_size version) × (line_size version ≤ 25)
unfolding line_size
line_sizes = by_version (λ (b : Bool). (21 ≤ total (1 ∷ 1 ∷ 1 ∷ 2 ∷ 4 ∷ 4 ∷ 4 ∷ 4 ∷ cond b [] (4 ∷ []))) × (total (1 ∷ 1 ∷ 1 ∷ 2 ∷ 4 ∷ 4 ∷ 4 ∷ 4 ∷ cond b [] (4 ∷ [])) ≤ 25)) (omega arith, omega arith) (omega arith, omega arith)

-- the sizes of the latest version, which are the largest
pub latest_sizes : (header_size latest_version ≡ 15) × (line_size latest_version ≡ 25)
unfolding header_size line_size
latest_sizes = (refl, refl)

-- record i of n, all of one size, ends with the last or before
pub stride : (size i n : ℕ) → i < n → size * i + size ≤ size * n
stride size i n h = omega (arith, mul-suc size i, mul-le-mul_left size h)

pub line_within : {h : Header} {bytes i : ℕ} → Sized h bytes → i < h.lines → line_start h.version h.sites i + line_size h.version ≤ bytes
line_within {h} {bytes} {i} z there = omega (arith, z.size, stride (line_size h.version) i h.lines there)

-- a product of a line's size and a number of lines, at most
pub lines_most : (version n most : ℕ) → n ≤ most → line_size version * n ≤ 25 * most
lines_most version n most h = mul-le-mul (line_sizes version).1 h
