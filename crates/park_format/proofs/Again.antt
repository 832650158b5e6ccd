-- A file as long as its header says is written again as it was.
-- Assumes nothing.
use Prim.Native.Nat.{ℕ, ◌*◌, ◌<◌}
use native.Mathlib.Omega.{arith}
use mathlib.Core.Path.{◌≡◌, refl, sym, ap, ap₂, ◌∙◌}
use mathlib.Core.Bool.{Bool, cond}
use mathlib.Core.List.{List, [], ◌∷◌, ◌++◌}
use lib.ListN.{get_or, length, take, drop}
use Rattle.park_format.specs.Format.{fields_at, generator_size, generator_start, generator_widths, header_size, header_widths, line_size, line_start, line_widths, site_size, site_start, site_widths, version_of}
use Rattle.park_format.specs.Made.{AreBytes, bytes_for, file_of, generator_bytes, header_bytes, header_numbers, joined, line_bytes, line_numbers, site_bytes, WrittenAgain}
use Rattle.park_format.specs.Park.{generator_at, generator_of, header_of, line_at, line_of, list_of, park_of, site_at, site_of}
use Rattle.park_format.specs.Rules.{size_of}
use Rattle.park_format.specs.declared.header.Header.{Header}
use Rattle.park_format.proofs.Bytes.{byte_small, bytes_fields}
use Rattle.park_format.proofs.Joined.{joined_read}
use Rattle.park_format.proofs.Lists.{four_parts}
use Rattle.park_format.proofs.Sizes.{by_version, stride}

-- the numbers that a record is written with are those that it was read from
header_numbers_lem : (file : List ℕ) → header_numbers (header_of file).version (header_of file) ≡ fields_at (header_widths (header_of file).version) file 0
unfolding header_of fields_at
header_numbers_lem file =
    by_version (λ (b : Bool). ◌≡◌ {A = List ℕ} (get_or (fields b) 0 0 ∷ get_or (fields b) 1 0 ∷ get_or (fields b) 2 0 ∷ get_or (fields b) 3 0 ∷ get_or (fields b) 4 0 ∷ get_or (fields b) 5 0 ∷ get_or (fields b) 6 0 ∷ cond b [] (get_or (fields b) 7 0 ∷ [])) (fields b)) refl refl (version_of file)
  where
    fields : Bool → List ℕ
    fields b = fields_at (3 ∷ 2 ∷ 1 ∷ 1 ∷ 1 ∷ 4 ∷ 2 ∷ cond b [] (1 ∷ [])) file 0

line_numbers_lem : (version : ℕ) (file : List ℕ) (at : ℕ) → line_numbers version (line_at version file at) ≡ fields_at (line_widths version) file at
unfolding line_at fields_at
line_numbers_lem version file at =
    by_version (λ (b : Bool). ◌≡◌ {A = List ℕ} (get_or (fields b) 0 0 ∷ get_or (fields b) 1 0 ∷ get_or (fields b) 2 0 ∷ get_or (fields b) 3 0 ∷ get_or (fields b) 4 0 ∷ get_or (fields b) 5 0 ∷ get_or (fields b) 6 0 ∷ get_or (fields b) 7 0 ∷ cond b [] (get_or (fields b) 8 0 ∷ [])) (fields b)) refl refl version
  where
    fields : Bool → List ℕ
    fields b = fields_at (1 ∷ 1 ∷ 1 ∷ 2 ∷ 4 ∷ 4 ∷ 4 ∷ 4 ∷ cond b [] (4 ∷ [])) file at

module _ (file : List ℕ) (bytes : AreBytes file) (size : length file ≡ size_of (header_of file)) where
  abbrev h : Header
  h = header_of file

  abbrev version : ℕ
  version = h.version

  header_written : header_bytes h ≡ take (header_size version) file
  unfolding header_size
  header_written =
      ap (bytes_for (header_widths version)) (header_numbers_lem file)
      ∙ bytes_fields (header_widths version) file 0 (byte_small file bytes) (omega arith)

  site_written : (i : ℕ) → i < h.sites → site_bytes (site_of h file i) ≡ take site_size (drop (site_start version i) file)
  unfolding site_of site_at fields_at
  site_written i i<s = bytes_fields site_widths file (site_start version i) (byte_small file bytes) (omega arith)

  sites_written : joined site_bytes (list_of (site_of h file) h.sites) ≡ take (site_size * h.sites) (drop (header_size version) file)
  sites_written = joined_read site_bytes site_size file (header_size version) (site_of h file) h.sites site_written

  line_written : (i : ℕ) → i < h.lines → line_bytes version (line_of h file i) ≡ take (line_size version) (drop (line_start version h.sites i) file)
  unfolding line_of line_size
  line_written i i<n =
      ap (bytes_for (line_widths version)) (line_numbers_lem version file (line_start version h.sites i))
      ∙ bytes_fields (line_widths version) file (line_start version h.sites i) (byte_small file bytes) (omega (arith, size, stride (line_size version) i h.lines i<n))

  lines_written : joined (line_bytes version) (list_of (line_of h file) h.lines) ≡ take (line_size version * h.lines) (drop (site_start version h.sites) file)
  lines_written = joined_read (line_bytes version) (line_size version) file (site_start version h.sites) (line_of h file) h.lines line_written

  generator_written : (i : ℕ) → i < h.generators → generator_bytes (generator_of h file i) ≡ take generator_size (drop (generator_start version h.sites h.lines i) file)
  unfolding generator_of generator_at fields_at
  generator_written i i<g = bytes_fields generator_widths file (generator_start version h.sites h.lines i) (byte_small file bytes) (omega arith)

  generators_written : joined generator_bytes (list_of (generator_of h file) h.generators) ≡ take (generator_size * h.generators) (drop (line_start version h.sites h.lines) file)
  generators_written = joined_read generator_bytes generator_size file (line_start version h.sites h.lines) (generator_of h file) h.generators generator_written

pub written_again : WrittenAgain
unfolding file_of park_of
written_again file bytes size =
    let h = header_of file in
    let v = h.version in
    ap₂ ◌++◌ (header_written file bytes size) (ap₂ ◌++◌ (sites_written file bytes size) (ap₂ ◌++◌ (lines_written file bytes size) (generators_written file bytes size)))
    ∙ four_parts file (header_size v) (site_size * h.sites) (line_size v * h.lines) (generator_size * h.generators) (sym size)
