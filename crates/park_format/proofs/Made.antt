-- A park that was written is read back.
-- Assumes nothing.
use Prim.Native.Nat.{ℕ, ◌+◌, ◌*◌}
use native.Mathlib.Omega.{arith}
use mathlib.Core.Path.{◌≡◌, refl, sym, ap, ap₂, ◌∙◌}
use mathlib.Core.Bool.{Bool, true, false, cond}
use mathlib.Core.List.{List, [], ◌∷◌, ◌++◌, append_assoc, append-nil}
use lib.Dec.{eqb}
use lib.ListN.{length, length-append}
use borrow.Author.Tests.{eqb-true}
use Rattle.park_format.specs.Accepted.{Every}
use Rattle.park_format.specs.Format.{fields_at, generator_size, generator_widths, header_size, header_widths, line_size, line_start, line_widths, site_size, site_start, site_widths, version_of}
use Rattle.park_format.specs.Inner.Stored.{Stored}
use Rattle.park_format.specs.Made.{AreBytes, bytes_for, bytes_of, file_of, Fits, FitsFile, generator_bytes, generator_numbers, header_bytes, header_numbers, joined, line_bytes, line_numbers, ReadBack, site_bytes, site_numbers}
use Rattle.park_format.specs.Park.{generator_at, generator_from, generator_of, header_from, header_of, line_at, line_from, line_of, list_of, no_generator, no_line, no_site, Park, park_of, site_at, site_from, site_of}
use Rattle.park_format.specs.Rules.{size_of}
use Rattle.park_format.specs.declared.generator.Generator.{Generator}
use Rattle.park_format.specs.declared.header.Header.{Header}
use Rattle.park_format.specs.declared.line.Line.{Line}
use Rattle.park_format.specs.declared.site.Site.{Site}
use Rattle.park_format.proofs.Bytes.{bytes_for_small, fields_bytes, length-bytes_for, number-bytes}
use Rattle.park_format.proofs.Joined.{all_back, Back, Every-joined, length-joined}
use Rattle.park_format.proofs.Lists.{Every_all, Every_both, Every_join, every_map}
use Rattle.park_format.proofs.Sizes.{by_version}
use Rattle.park_format.proofs.Stores.{then_stored}

pub site_size_lem : (x : Site) → length (site_bytes x) ≡ site_size
site_size_lem x = length-bytes_for site_widths (site_numbers x) refl

pub generator_size_lem : (g : Generator) → length (generator_bytes g) ≡ generator_size
generator_size_lem g = length-bytes_for generator_widths (generator_numbers g) refl

-- as many numbers as widths, in each version
pub line_size_lem : (version : ℕ) (l : Line) → length (line_bytes version l) ≡ line_size version
unfolding line_size
line_size_lem version l =
    length-bytes_for (line_widths version) (line_numbers version l)
    (by_version (λ (b : Bool). length (l.from ∷ l.to ∷ l.meters ∷ l.eerp ∷ l.active ∷ l.reactive ∷ l.generated ∷ l.night ∷ cond b [] (l.produced ∷ [])) ≡ length {A = ℕ} (1 ∷ 1 ∷ 1 ∷ 2 ∷ 4 ∷ 4 ∷ 4 ∷ 4 ∷ cond b [] (4 ∷ []))) refl refl version)

pub header_size_lem : (h : Header) → length (header_bytes h) ≡ header_size h.version
unfolding header_size
header_size_lem h =
    length-bytes_for (header_widths h.version) (header_numbers h.version h)
    (by_version (λ (b : Bool). length (h.mark ∷ h.version ∷ h.month ∷ h.sites ∷ h.lines ∷ h.price ∷ h.hours ∷ cond b [] (h.generators ∷ [])) ≡ length {A = ℕ} (3 ∷ 2 ∷ 1 ∷ 1 ∷ 1 ∷ 4 ∷ 2 ∷ cond b [] (1 ∷ []))) refl refl h.version)

-- a record from its numbers, where it has 0 for what its version has no field for
header_again : (h : Header) → (h.version ≡ 1 → h.generators ≡ 0) → header_from (header_numbers h.version h) ≡ h
header_again h none = by (eqb h.version 1) refl
  where
    by : (b : Bool) → eqb h.version 1 ≡ b → header_from (h.mark ∷ h.version ∷ h.month ∷ h.sites ∷ h.lines ∷ h.price ∷ h.hours ∷ cond b [] (h.generators ∷ [])) ≡ h
    by true e =
        let zero = sym (none (eqb-true h.version 1 e)) in
        λ j. record { mark = h.mark; version = h.version; month = h.month; sites = h.sites; lines = h.lines; price = h.price; hours = h.hours; generators = zero j }
    by false e = refl

line_again : (version : ℕ) (l : Line) → (version ≡ 1 → l.produced ≡ 0) → line_from (line_numbers version l) ≡ l
line_again version l none = by (eqb version 1) refl
  where
    by : (b : Bool) → eqb version 1 ≡ b → line_from (l.from ∷ l.to ∷ l.meters ∷ l.eerp ∷ l.active ∷ l.reactive ∷ l.generated ∷ l.night ∷ cond b [] (l.produced ∷ [])) ≡ l
    by true e =
        let zero = sym (none (eqb-true version 1 e)) in
        λ j. record { from = l.from; to = l.to; meters = l.meters; eerp = l.eerp; active = l.active; reactive = l.reactive; generated = l.generated; night = l.night; produced = zero j }
    by false e = refl

-- one record, anywhere in a file
site_back : (x : Site) → Fits site_widths (site_numbers x) → Back site_bytes site_size site_at x
unfolding site_at
site_back x f = record { fits = site_size_lem x; back = λ pre post. ap site_from (fields_bytes site_widths (site_numbers x) pre post f) }

line_back : (version : ℕ) (l : Line) → Fits (line_widths version) (line_numbers version l) → (version ≡ 1 → l.produced ≡ 0) → Back (line_bytes version) (line_size version) (line_at version) l
unfolding line_at
line_back version l f none =
    record {
      fits = line_size_lem version l;
      back = λ pre post. ap line_from (fields_bytes (line_widths version) (line_numbers version l) pre post f) ∙ line_again version l none;
    }

generator_back : (g : Generator) → Fits generator_widths (generator_numbers g) → Back generator_bytes generator_size generator_at g
unfolding generator_at
generator_back g f = record { fits = generator_size_lem g; back = λ pre post. ap generator_from (fields_bytes generator_widths (generator_numbers g) pre post f) }

module _ (p : Park) (fits : FitsFile p) where
  abbrev h : Header
  h = p.header

  abbrev version : ℕ
  version = h.version

  abbrev head : List ℕ
  head = header_bytes h

  abbrev sites_part : List ℕ
  sites_part = joined site_bytes p.sites

  abbrev lines_part : List ℕ
  lines_part = joined (line_bytes version) p.lines

  abbrev generators_part : List ℕ
  generators_part = joined generator_bytes p.generators

  -- the version comes after the three bytes of the mark
  version_read : version_of (file_of p) ≡ version
  unfolding file_of bytes_for bytes_of
  version_read = number-bytes 2 version (bytes_of 3 h.mark) _ fits.header.1.0

  header_read : header_of (file_of p) ≡ h
  unfolding header_of file_of
  header_read =
      ap (λ (v : ℕ). header_from (fields_at (header_widths v) (file_of p) 0)) version_read
      ∙ ap header_from (fields_bytes (header_widths version) (header_numbers version h) [] _ fits.header)
      ∙ header_again h (λ e. (fits.first e).generators)

  sites_read : list_of (site_of h (file_of p)) h.sites ≡ p.sites
  unfolding file_of site_of
  sites_read =
      all_back site_bytes site_size site_at no_site p.sites head (lines_part ++ generators_part) (every_map _ _ site_back p.sites fits.sites) (site_of h (file_of p))
      (λ i. ap (λ (k : ℕ). site_at (head ++ (sites_part ++ (lines_part ++ generators_part))) (k + site_size * i)) (sym (header_size_lem h)))
      h.sites fits.site_count

  -- what stands before the lines, and before the generators
  before_lines : length (head ++ sites_part) ≡ site_start version h.sites
  before_lines = rw (length-append, header_size_lem h, length-joined site_bytes site_size site_size_lem p.sites, fits.site_count)

  before_generators : length ((head ++ sites_part) ++ lines_part) ≡ line_start version h.sites h.lines
  before_generators =
      length-append (head ++ sites_part) lines_part
      ∙ ap₂ ◌+◌ before_lines (length-joined (line_bytes version) (line_size version) (line_size_lem version) p.lines ∙ ap (λ (n : ℕ). line_size version * n) fits.line_count)

  line_fits : Every (λ (l : Line). Fits (line_widths version) (line_numbers version l) × (version ≡ 1 → l.produced ≡ 0)) p.lines
  line_fits = Every_both _ (λ (l : Line). l.produced ≡ 0) p.lines fits.lines (λ e. (fits.first e).lines)

  lines_read : list_of (line_of h (file_of p)) h.lines ≡ p.lines
  unfolding file_of line_of
  lines_read =
      all_back (line_bytes version) (line_size version) (line_at version) no_line p.lines (head ++ sites_part) generators_part
      (every_map _ _ (λ l f. line_back version l f.0 f.1) p.lines line_fits) (line_of h (file_of p))
      (λ i. ap₂ (λ (file : List ℕ) (k : ℕ). line_at version file (k + line_size version * i)) (sym (append_assoc head sites_part (lines_part ++ generators_part))) (sym before_lines))
      h.lines fits.line_count

  generators_read : list_of (generator_of h (file_of p)) h.generators ≡ p.generators
  unfolding file_of generator_of
  generators_read =
      all_back generator_bytes generator_size generator_at no_generator p.generators ((head ++ sites_part) ++ lines_part) []
      (every_map _ _ generator_back p.generators fits.generators) (generator_of h (file_of p))
      (λ i. ap₂ (λ (file : List ℕ) (k : ℕ). generator_at file (k + generator_size * i)) last_part (sym before_generators))
      h.generators fits.generator_count
    where
      last_part : head ++ (sites_part ++ (lines_part ++ generators_part)) ≡ ((head ++ sites_part) ++ lines_part) ++ (generators_part ++ [])
      last_part = sym (append_assoc (head ++ sites_part) lines_part (generators_part ++ []) ∙ append_assoc head sites_part (lines_part ++ (generators_part ++ [])) ∙ rw append-nil)

pub read_back : ReadBack
unfolding park_of
read_back p fits = rw (header_read p fits, sites_read p fits, lines_read p fits, generators_read p fits)

-- the parts of a file without generators, stored one after the other
pub file_stored : (p : Park) {a b c d : List ℕ} → p.generators ≡ [] → length p.sites ≡ p.header.sites → Stored (header_bytes p.header) 0 a b → Stored (joined site_bytes p.sites) (header_size p.header.version) b c → Stored (joined (line_bytes p.header.version) p.lines) (site_start p.header.version p.header.sites) c d → Stored (file_of p) 0 a d
unfolding file_of joined
file_stored p none count head sites lines =
    let size = length-joined site_bytes site_size site_size_lem p.sites in
    let before : 0 + length (header_bytes p.header) ≡ header_size p.header.version = omega (arith, header_size_lem p.header) in
    rw (none, append-nil)
    (then_stored head before
    (then_stored sites (ap (λ (k : ℕ). header_size p.header.version + k) (size ∙ ap (λ (k : ℕ). site_size * k) count)) lines))

-- the length of a park's file, and that it is made of bytes
pub file_length : (p : Park) → length p.sites ≡ p.header.sites → length p.lines ≡ p.header.lines → length p.generators ≡ p.header.generators → length (file_of p) ≡ size_of p.header
unfolding file_of
file_length p sites lines generators =
    let version = p.header.version in
    let s = length-joined site_bytes site_size site_size_lem p.sites in
    let n = length-joined (line_bytes version) (line_size version) (line_size_lem version) p.lines in
    let g = length-joined generator_bytes generator_size generator_size_lem p.generators in
    rw (length-append, length-append, length-append, header_size_lem p.header, s, n, g, sites, lines, generators) (omega arith)

pub file_bytes : (p : Park) → AreBytes (file_of p)
unfolding file_of
file_bytes p =
    let version = p.header.version in
    Every_join _ (header_bytes p.header) _ (bytes_for_small (header_widths version) (header_numbers version p.header))
    (Every_join _ (joined site_bytes p.sites) _ (Every-joined site_bytes _ p.sites (Every_all (λ x. bytes_for_small site_widths (site_numbers x)) p.sites))
    (Every_join _ (joined (line_bytes version) p.lines) _ (Every-joined (line_bytes version) _ p.lines (Every_all (λ l. bytes_for_small (line_widths version) (line_numbers version l)) p.lines))
    (Every-joined generator_bytes _ p.generators (Every_all (λ g. bytes_for_small generator_widths (generator_numbers g)) p.generators))))
