-- A file that is longer than any accepted one breaks a rule of its header, or the rule of its length; and so do its first bytes.
-- Assumes nothing.
use Prim.Native.Nat.{ℕ, zero, suc, ◌+◌, ◌*◌, ◌≤◌, ◌<◌}
use native.Mathlib.Omega.{arith}
use mathlib.Core.Path.{◌≡◌, refl, sym, ap, ap₂, ◌∙◌}
use mathlib.Core.Bool.{false, not}
use mathlib.Core.List.{List, [], ◌∷◌}
use mathlib.Core.Option.{Option, none, some}
use borrow.Author.Tests.{eq-eqb, ne_eqb}
use lib.Dec.{eqb}
use lib.ListN.{length, take}
use lib.Seq.{get_or-take, length-take-le}
use Rattle.park_format.specs.Format.{fields_at, header_size, header_widths, number_at, total, version_of}
use Rattle.park_format.specs.Park.{header_from, header_of}
use Rattle.park_format.specs.Rules.{Row, first_broken, header_rules, refusal, size_of}
use Rattle.park_format.specs.Rules.Row.{rule}
use Rattle.park_format.specs.Cut.{CutRefusal, longest}
use Rattle.park_format.specs.Limits.{most_lines}
use Rattle.park_format.specs.declared.header.Header.{Header}
use Rattle.park_format.proofs.Accepted.{kept_header}
use Rattle.park_format.proofs.Sizes.{header_sizes, latest_sizes, lines_most}
use Rattle.park_format.proofs.Rules.{first_append, first_stays}
use Rattle.park_format.proofs.Verdict.{file_refuses}

-- numbers that lie within the first bytes of a file
number_cut : (w bytes : ℕ) (file : List ℕ) (at : ℕ) → at + w ≤ bytes → number_at w (take bytes file) at ≡ number_at w file at
unfolding number_at
number_cut zero bytes file at h = refl
number_cut (suc w) bytes file at h =
    ap₂ (λ (b n : ℕ). b + 256 * n) (get_or-take bytes file at 0 (omega arith)) (number_cut w bytes file (at + 1) (omega arith))

fields_cut : (ws : List ℕ) (bytes : ℕ) (file : List ℕ) (at : ℕ) → at + total ws ≤ bytes → fields_at ws (take bytes file) at ≡ fields_at ws file at
unfolding fields_at
fields_cut [] bytes file at h = refl
fields_cut (w ∷ ws) bytes file at h = ap₂ ◌∷◌ (number_cut w bytes file at (omega arith)) (fields_cut ws bytes file (at + w) (omega arith))

header_cut : (bytes : ℕ) → longest < bytes → (file : List ℕ) → header_of file ≡ header_of (take bytes file)
unfolding header_of header_size
header_cut bytes more file =
    let same = number_cut 2 bytes file 3 (omega arith) in
    let fields = fields_cut (header_widths (version_of file)) bytes file 0 (omega (arith, header_sizes (version_of file))) in
    ap header_from (sym (ap (λ (v : ℕ). fields_at (header_widths v) (take bytes file) 0) same ∙ fields))

-- rules 2 to 8 and 25
abbrev before_length : Header → List Row
before_length h = take 8 (header_rules false h)

abbrev length_row : ℕ → Header → List Row
length_row n h = rule 9 0 (not (eqb n (size_of h))) ∷ []

-- a header that keeps 2 to 8 and 25 is that of no longer file
size_kept : (h : Header) → first_broken (before_length h) ≡ none → size_of h ≤ longest
unfolding header_rules first_broken
size_kept h e =
    let all : first_broken (header_rules (not (eqb (size_of h) (size_of h))) h) ≡ none = first_append (before_length h) (length_row (size_of h) h) e ∙ rw (eq-eqb (size_of h) (size_of h) refl) in
    let k = kept_header (size_of h) h all in
    omega (arith, k.sites, k.lines, k.generators, latest_sizes, header_sizes h.version, lines_most h.version h.lines most_lines k.lines.1)

-- so every longer file with that header has the same refusal
header_long : (h : Header) → (r : ℕ × ℕ) × ((n : ℕ) → longest < n → some r ≡ first_broken (header_rules (not (eqb n (size_of h))) h))
unfolding header_rules first_broken
header_long h = by (first_broken (before_length h)) refl
  where
    by : (o : Option (ℕ × ℕ)) → first_broken (before_length h) ≡ o → (r : ℕ × ℕ) × ((n : ℕ) → longest < n → some r ≡ first_broken (header_rules (not (eqb n (size_of h))) h))
    by (some r) e = (r, λ n more. sym (first_stays (before_length h) (length_row n h) e))
    by none e =
        let size = size_kept h e in
        ((9, 0), λ n more. sym (first_append (before_length h) (length_row n h) e ∙ rw (ne_eqb n (size_of h) (λ same. absurd (omega arith)))))

-- and that refusal is the file's
long_refused : (file : List ℕ) (h : Header) → h ≡ header_of file → longest < length file → refusal file ≡ some (header_long h).0
long_refused file h read more =
    sym (file_refuses file h read (omega arith) ((header_long h).1 (length file) more ∙ ap (λ (x : Header). first_broken (header_rules (not (eqb (length file) (size_of x))) h)) read))

pub cut_refusal : CutRefusal
cut_refusal bytes more file longer =
    let left = length-take-le bytes file (omega arith) in
    let h = header_of file in
    ((header_long h).0, (long_refused (take bytes file) h (header_cut bytes more file) (omega arith), long_refused file h refl (omega arith)))
