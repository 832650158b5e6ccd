-- Bytes stored one after the other: numbers of a record, records, and the parts of a file.
-- Assumes nothing.
use Prim.Native.Nat.{ℕ, suc, ◌+◌}
use native.Mathlib.Nat.{add-zero, add-suc, suc-add, add_assoc}
use mathlib.Core.Path.{◌≡◌, refl, ◌∙◌}
use mathlib.Core.List.{List, [], ◌∷◌, ◌++◌, append-nil}
use lib.ListN.{length, set}
use lib.Seq.{sets}
use Rattle.park_format.specs.Inner.Stored.{Stored}
use Rattle.park_format.specs.Made.{bytes_of}
use Rattle.park_format.proofs.Bytes.{length-bytes_of}

sets-append : (vs l ws : List ℕ) (i : ℕ) → sets l i (vs ++ ws) ≡ sets (sets l i vs) (i + length vs) ws
sets-append [] l ws i = rw add-zero
sets-append (v ∷ vs) l ws i = rw (sets-append vs (set l i v) ws (suc i), suc-add, add-suc)

pub none_stored : (at : ℕ) (a : List ℕ) → Stored [] at a a
none_stored at a = record { list = refl; size = refl }

-- some bytes, and then more, from where they end
pub then_stored : {at next : ℕ} {vs ws a b c : List ℕ} → Stored vs at a b → at + length vs ≡ next → Stored ws next b c → Stored (vs ++ ws) at a c
then_stored {at} {next} {vs} {ws} {a} p e q = record { list = rw (sets-append vs a ws at, e, ← p.list) q.list; size = q.size ∙ p.size }

-- the first number of a record, and then the rest
pub first_stored : (w n : ℕ) {at : ℕ} {ws a b c : List ℕ} → Stored (bytes_of w n) at a b → Stored ws (at + w) b c → Stored (bytes_of w n ++ ws) at a c
first_stored w n p q = then_stored p (rw (length-bytes_of w n)) q

-- the number k bytes after the record's position, and then the rest
pub next_stored : (at k w n : ℕ) {ws a b c : List ℕ} → Stored (bytes_of w n) (at + k) a b → Stored ws (at + (k + w)) b c → Stored (bytes_of w n ++ ws) (at + k) a c
next_stored at k w n p q = first_stored w n p (rw (add_assoc at k w) q)

pub last_stored : (w n : ℕ) {at : ℕ} {a b : List ℕ} → Stored (bytes_of w n) at a b → Stored (bytes_of w n ++ []) at a b
last_stored w n p = rw (append-nil (bytes_of w n)) p
