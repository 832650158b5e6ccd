-- Numbers and records as bytes: what is written is read, what is read is written again, and what is written are bytes.
-- Assumes nothing.
use Prim.Native.Nat.{ℕ, zero, suc, ◌+◌, ◌-◌, ◌*◌, ◌/◌, ◌%◌, ◌≤◌, ◌<◌, ◌^◌}
use native.Mathlib.Nat.{pow-succ'}
use native.Mathlib.Numerals.{add-one}
use native.Mathlib.Omega.{arith}
use mathlib.Core.Path.{◌≡◌, refl, ap, ◌∙◌}
use mathlib.Core.List.{List, [], ◌∷◌, ◌++◌, append_assoc}
use lib.ListN.{length, take, drop, length-append, set}
use lib.Seq.{get_or-append_seam, drop-cons, drop-drop, sets, take-add}
use Rattle.park_format.specs.Accepted.{Every}
use Rattle.park_format.specs.Format.{byte, fields_at, number_at, total}
use Rattle.park_format.specs.Made.{AreBytes, bytes_for, bytes_of, Fits}
use Rattle.park_format.proofs.Lists.{Every-get_or, Every_join}

pub length-bytes_of : (w n : ℕ) → length (bytes_of w n) ≡ w
unfolding bytes_of
length-bytes_of zero n = refl
length-bytes_of (suc w) n = ap suc (length-bytes_of w (n / 256))

pub length-bytes_for : (ws ns : List ℕ) → length ns ≡ length ws → length (bytes_for ws ns) ≡ total ws
unfolding bytes_for
length-bytes_for [] ns e = refl
length-bytes_for (w ∷ ws) [] e = absurd (omega arith)
length-bytes_for (w ∷ ws) (n ∷ ns) e = rw (length-append, length-bytes_of, length-bytes_for ws ns (omega arith))

-- a number from its highest byte downwards: the byte at i, and what the w bytes after it come to
module _ (file : List ℕ) (at w i : ℕ) (some : 0 < i) where
  pub byte_before : number_at (suc w) file (at + (i - 1)) ≡ 256 * number_at w file (at + i) + byte file (at + (i - 1))
  unfolding number_at
  byte_before = let next : at + (i - 1) + 1 ≡ at + i = omega arith in rw next (omega arith)

-- a number with one byte more is small enough for it
pub byte_fits : (w n b : ℕ) → n < 256 ^ w → b < 256 → 256 * n + b < 256 ^ suc w
byte_fits w n b h small = omega (arith, pow-succ' 256 w)

-- a number from its lowest byte upwards: the byte is stored, and then the rest
pub byte_stored : (w rest at : ℕ) (file : List ℕ) → sets file at (bytes_of (suc w) rest) ≡ sets (set file at (rest % 256)) (at + 1) (bytes_of w (rest / 256))
unfolding bytes_of
byte_stored w rest at file = rw add-one refl

-- read from what was written, anywhere in a list
pub number-bytes : (w n : ℕ) (pre post : List ℕ) → n < 256 ^ w → number_at w (pre ++ (bytes_of w n ++ post)) (length pre) ≡ n
unfolding number_at bytes_of
number-bytes zero n pre post h = omega arith
number-bytes (suc w) n pre post h =
    let small : n / 256 < 256 ^ w = omega (arith, pow-succ' 256 w) in
    let rest = simp (append_assoc, length-append) at (number-bytes w (n / 256) (pre ++ (n % 256 ∷ [])) post small) in
    rw (get_or-append_seam, rest) (omega arith)

pub fields_bytes : (ws ns pre post : List ℕ) → Fits ws ns → fields_at ws (pre ++ (bytes_for ws ns ++ post)) (length pre) ≡ ns
unfolding fields_at bytes_for
fields_bytes [] [] pre post f = refl
fields_bytes (w ∷ ws) (n ∷ ns) pre post f =
    let rest = simp (append_assoc, length-append, length-bytes_of) at (fields_bytes ws ns (pre ++ bytes_of w n) post f.1) in
    rw (append_assoc, number-bytes w n pre (bytes_for ws ns ++ post) f.0, rest)
fields_bytes [] (n ∷ ns) pre post f = elim f [ ]
fields_bytes (w ∷ ws) [] pre post f = elim f [ ]

-- written from what was read
bytes_number : (w : ℕ) (file : List ℕ) (at : ℕ) → ((i : ℕ) → byte file i < 256) → at + w ≤ length file → bytes_of w (number_at w file at) ≡ take w (drop at file)
unfolding number_at bytes_of
bytes_number zero file at small h = refl
bytes_number (suc w) file at small h =
    let b = byte file at in
    let n = number_at w file (at + 1) in
    let low : (b + 256 * n) % 256 ≡ b = omega (arith, small at) in
    let high : (b + 256 * n) / 256 ≡ n = omega (arith, small at) in
    let inside : at < length file = omega arith in
    rw (low, high, drop-cons file at 0 inside) (ap (λ (l : List ℕ). b ∷ l) (bytes_number w file (at + 1) small (omega arith) ∙ rw add-one))

pub bytes_fields : (ws : List ℕ) (file : List ℕ) (at : ℕ) → ((i : ℕ) → byte file i < 256) → at + total ws ≤ length file → bytes_for ws (fields_at ws file at) ≡ take (total ws) (drop at file)
unfolding fields_at bytes_for
bytes_fields [] file at small h = refl
bytes_fields (w ∷ ws) file at small h =
    rw (bytes_number w file at small (omega arith), bytes_fields ws file (at + w) small (omega arith), take-add, drop-drop)

pub byte_small : (file : List ℕ) → AreBytes file → (i : ℕ) → byte file i < 256
byte_small file bytes i = Every-get_or (λ (b : ℕ). b < 256) 0 (omega arith) file bytes i

-- what is written are bytes
bytes_of_small : (w n : ℕ) → AreBytes (bytes_of w n)
unfolding bytes_of
bytes_of_small zero n = tt
bytes_of_small (suc w) n = (omega arith, bytes_of_small w (n / 256))

pub bytes_for_small : (ws ns : List ℕ) → AreBytes (bytes_for ws ns)
unfolding bytes_for
bytes_for_small [] ns = tt
bytes_for_small (w ∷ ws) [] = tt
bytes_for_small (w ∷ ws) (n ∷ ns) = Every_join (λ (b : ℕ). b < 256) (bytes_of w n) (bytes_for ws ns) (bytes_of_small w n) (bytes_for_small ws ns)

-- a number that fits four bytes or fewer has 32 bits
pub small_wide : (w n : ℕ) → w ≤ 4 → n < 256 ^ w → n < 2 ^ 32
small_wide zero n h f = omega arith
small_wide (suc zero) n h f = omega arith
small_wide (suc (suc zero)) n h f = omega arith
small_wide (suc (suc (suc zero))) n h f = omega arith
small_wide (suc (suc (suc (suc zero)))) n h f = omega arith
small_wide (suc (suc (suc (suc (suc w))))) n h f = absurd (omega arith)

pub fits_wide : (ws ns : List ℕ) → Every (λ (w : ℕ). w ≤ 4) ws → Fits ws ns → Every (λ (n : ℕ). n < 2 ^ 32) ns
fits_wide [] [] few f = tt
fits_wide (w ∷ ws) (n ∷ ns) few f = (small_wide w n few.0 f.0, fits_wide ws ns few.1 f.1)
fits_wide [] (n ∷ ns) few f = elim f [ ]
fits_wide (w ∷ ws) [] few f = elim f [ ]
