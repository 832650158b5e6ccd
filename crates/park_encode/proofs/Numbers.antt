-- A list that is read as a park is that park's list, and the list of a park of version 1 is read as that park.
-- Assumes nothing.
use Prim.Native.Nat.{ℕ, ◌+◌, ◌*◌, ◌<◌, ◌^◌}
use native.Mathlib.Omega.{arith}
use mathlib.Core.Path.{◌≡◌, refl, sym, ap, ap₂, subst, ◌∙◌}
use mathlib.Core.List.{List, [], ◌++◌, append_assoc, append-nil}
use lib.Dec.{lit≤}
use lib.ListN.{drop, length, length-append, take}
use lib.Seq.{drop-append_seam}
use Rattle.park_format.specs.Accepted.{Every}
use Rattle.park_format.specs.Format.{header_widths, line_widths, site_widths}
use Rattle.park_format.specs.Made.{Fits, FitsFile, header_numbers, joined, Lacking, line_numbers, site_numbers}
use Rattle.park_format.specs.Park.{line_from, list_of, no_line, no_site, Park, site_from}
use Rattle.park_format.specs.Rules.{park_mark}
use Rattle.park_format.specs.declared.header.Header.{Header}
use Rattle.park_format.specs.declared.line.Line.{Line}
use Rattle.park_format.specs.declared.site.Site.{Site}
use Rattle.park_format.proofs.Bytes.{fits_wide}
use Rattle.park_format.proofs.Joined.{all_back, Back, Every-joined, joined_read, length-joined}
use Rattle.park_format.proofs.Lists.{Every_all, Every_join, every_map, three_parts}
use Rattle.park_encode.specs.Numbers.{first_of, header_fields, line_fields, line_first, list_count, list_header, list_line, list_park, list_site, numbers_of, site_fields, site_first, version}
use Rattle.park_encode.proofs.Entries.{first_is, window_is}

module _ (numbers : List ℕ) (count : length numbers ≡ list_count (list_header numbers).sites (list_header numbers).lines) where
  abbrev h : Header
  h = list_header numbers

  header_again : drop 2 (header_numbers version h) ≡ take header_fields numbers
  unfolding list_header list_of
  header_again = first_is header_fields numbers (omega (arith, count))

  site_again : (i : ℕ) → i < h.sites → site_numbers (list_site numbers i) ≡ take site_fields (drop (site_first i) numbers)
  unfolding list_site list_of
  site_again i i<s = window_is site_fields numbers (site_first i) (omega (arith, count))

  line_again : (i : ℕ) → i < h.lines → line_numbers version (list_line h numbers i) ≡ take line_fields (drop (line_first h.sites i) numbers)
  unfolding list_line list_of
  line_again i i<n = window_is line_fields numbers (line_first h.sites i) (omega (arith, count))

  pub list_again : numbers_of (list_park numbers) ≡ numbers
  unfolding list_park numbers_of
  list_again =
      ap₂ ◌++◌ header_again
      (ap₂ ◌++◌ (joined_read site_numbers site_fields numbers header_fields (list_site numbers) h.sites site_again)
      (joined_read (line_numbers version) line_fields numbers (site_first h.sites) (list_line h numbers) h.lines line_again))
      ∙ three_parts numbers header_fields (site_fields * h.sites) (line_fields * h.lines) (sym count)

-- one record, anywhere in a list
abbrev site_from_lem : List ℕ → ℕ → Site
site_from_lem numbers at = site_from (drop at numbers)

abbrev line_from_lem : List ℕ → ℕ → Line
line_from_lem numbers at = line_from (first_of line_fields (drop at numbers))

site_back : (x : Site) → Back site_numbers site_fields site_from_lem x
site_back x = record { fits = refl; back = λ pre post. ap site_from (drop-append_seam pre (site_numbers x ++ post)) }

line_back : (l : Line) → l.produced ≡ 0 → Back (line_numbers version) line_fields line_from_lem l
unfolding list_of
line_back l none =
    record {
      fits = refl;
      back =
          λ pre post. ap (λ (xs : List ℕ). line_from (first_of line_fields xs)) (drop-append_seam pre (line_numbers version l ++ post))
          ∙ (λ j. record { from = l.from; to = l.to; meters = l.meters; eerp = l.eerp; active = l.active; reactive = l.reactive; generated = l.generated; night = l.night; produced = sym none j });
    }

module _ (p : Park) (site_count : length p.sites ≡ p.header.sites) (line_count : length p.lines ≡ p.header.lines) where
  abbrev sites_part : List ℕ
  sites_part = joined site_numbers p.sites

  abbrev lines_part : List ℕ
  lines_part = joined (line_numbers version) p.lines

  abbrev head : List ℕ
  head = drop 2 (header_numbers version p.header)

  before_lines : length (head ++ sites_part) ≡ site_first p.header.sites
  before_lines = rw (length-append, length-joined site_numbers site_fields (λ x. refl) p.sites, site_count)

  pub numbers-count : length (numbers_of p) ≡ list_count p.header.sites p.header.lines
  unfolding numbers_of
  numbers-count =
      let s = length-joined site_numbers site_fields (λ x. refl) p.sites in
      let n = length-joined (line_numbers version) line_fields (λ l. refl) p.lines in
      rw (length-append, length-append, s, n, site_count, line_count) (omega arith)

  module _ (mark : p.header.mark ≡ park_mark) (first : p.header.version ≡ version) (lacking : Lacking p) (none : p.generators ≡ []) where
    header_read : list_header (numbers_of p) ≡ p.header
    unfolding list_header list_of numbers_of
    header_read =
        λ j. record { mark = sym mark j; version = sym first j; month = p.header.month; sites = p.header.sites; lines = p.header.lines; price = p.header.price; hours = p.header.hours; generators = sym lacking.generators j }

    sites_read : list_of (list_site (numbers_of p)) p.header.sites ≡ p.sites
    unfolding list_site numbers_of
    sites_read =
        all_back site_numbers site_fields site_from_lem no_site p.sites head lines_part (Every_all site_back p.sites) (list_site (numbers_of p)) (λ i. refl) p.header.sites site_count

    lines_read : list_of (list_line p.header (numbers_of p)) p.header.lines ≡ p.lines
    unfolding list_line numbers_of
    lines_read =
        all_back (line_numbers version) line_fields line_from_lem no_line p.lines (head ++ sites_part) [] (every_map _ _ line_back p.lines lacking.lines) (list_line p.header (numbers_of p))
        (λ i. ap₂ (λ (numbers : List ℕ) (k : ℕ). line_from_lem numbers (k + line_fields * i)) (sym (append_assoc head sites_part (lines_part ++ []) ∙ rw append-nil)) (sym before_lines))
        p.header.lines line_count

    pub park_read : list_park (numbers_of p) ≡ p
    unfolding list_park
    park_read = rw (header_read, sites_read, lines_read, none)

-- the list of a park that fits a file has 32-bit numbers
abbrev Wide : ℕ → Type 0
Wide n = n < 2 ^ 32

site_wide : (x : Site) → Fits site_widths (site_numbers x) → Every Wide (site_numbers x)
site_wide x f = fits_wide site_widths (site_numbers x) (lit≤ tt, (lit≤ tt, (lit≤ tt, (lit≤ tt, (lit≤ tt, tt))))) f

line_wide : (l : Line) → Fits (line_widths version) (line_numbers version l) → Every Wide (line_numbers version l)
line_wide l f = fits_wide (line_widths version) (line_numbers version l) (lit≤ tt, (lit≤ tt, (lit≤ tt, (lit≤ tt, (lit≤ tt, (lit≤ tt, (lit≤ tt, (lit≤ tt, tt)))))))) f

pub numbers_wide : (p : Park) → p.header.version ≡ version → FitsFile p → Every Wide (numbers_of p)
unfolding numbers_of
numbers_wide p first fits =
    let header = drop 2 (header_numbers version p.header) in
    let sites = joined site_numbers p.sites in
    let lines = joined (line_numbers version) p.lines in
    let header_fits = subst (λ (v : ℕ). Fits (header_widths v) (header_numbers v p.header)) first fits.header in
    let lines_fit = subst (λ (v : ℕ). Every (λ (l : Line). Fits (line_widths v) (line_numbers v l)) p.lines) first fits.lines in
    Every_join Wide header (sites ++ lines)
    (fits_wide (drop 2 (header_widths version)) header (lit≤ tt, (lit≤ tt, (lit≤ tt, (lit≤ tt, (lit≤ tt, tt))))) header_fits.1.1)
    (Every_join Wide sites lines
    (Every-joined site_numbers Wide p.sites (every_map _ _ site_wide p.sites fits.sites))
    (Every-joined (line_numbers version) Wide p.lines (every_map _ _ line_wide p.lines lines_fit)))
