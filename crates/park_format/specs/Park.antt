-- The park file as values (01, "The park file"; 02, R-5): a header, and lists of sites, of lines and of generators. A file of version 1 has
-- no generators, and its lines no active generation.
-- Assumes nothing.
use Rattle.std.specs.Prelude.{ℕ, zero, suc, ◌<◌, ◌≡◌, Bool, cond, List, [], ◌∷◌, ◌++◌, eqb, get_or}
use Rattle.park_format.specs.Format.{fields_at, generator_start, generator_widths, header_widths, line_start, line_widths, site_start, site_widths, version_of}
use Rattle.park_format.specs.declared.header.Header.{Header}
use Rattle.park_format.specs.declared.site.Site.{Site}
use Rattle.park_format.specs.declared.line.Line.{Line}
use Rattle.park_format.specs.declared.generator.Generator.{Generator}

-- a record from its numbers, in the order of the file; 0 for what its version has no field for
abbrev pub header_from : List ℕ → Header
header_from xs =
    record {
      mark = get_or xs 0 0;
      version = get_or xs 1 0;
      month = get_or xs 2 0;
      sites = get_or xs 3 0;
      lines = get_or xs 4 0;
      price = get_or xs 5 0;
      hours = get_or xs 6 0;
      generators = get_or xs 7 0;
    }

abbrev pub site_from : List ℕ → Site
site_from xs =
    record {
      power = get_or xs 0 0;
      flag = get_or xs 1 0;
      compensation = get_or xs 2 0;
      motors = get_or xs 3 0;
      discount = get_or xs 4 0;
    }

abbrev pub line_from : List ℕ → Line
line_from xs =
    record {
      from = get_or xs 0 0;
      to = get_or xs 1 0;
      meters = get_or xs 2 0;
      eerp = get_or xs 3 0;
      active = get_or xs 4 0;
      reactive = get_or xs 5 0;
      generated = get_or xs 6 0;
      night = get_or xs 7 0;
      produced = get_or xs 8 0;
    }

abbrev pub generator_from : List ℕ → Generator
generator_from xs = record { site = get_or xs 0 0; output = get_or xs 1 0 }

-- the header of a file, and the site, the line and the generator that begin at a position
unfoldable pub header_of : List ℕ → Header
header_of file = header_from (fields_at (header_widths (version_of file)) file 0)

unfoldable pub site_at : List ℕ → ℕ → Site
site_at file at = site_from (fields_at site_widths file at)

unfoldable pub line_at : ℕ → List ℕ → ℕ → Line
line_at version file at = line_from (fields_at (line_widths version) file at)

unfoldable pub generator_at : List ℕ → ℕ → Generator
generator_at file at = generator_from (fields_at generator_widths file at)

-- site i, line i and generator i of a file with that header, counted from 0
unfoldable pub site_of : Header → List ℕ → ℕ → Site
site_of h file i = site_at file (site_start h.version i)

unfoldable pub line_of : Header → List ℕ → ℕ → Line
line_of h file i = line_at h.version file (line_start h.version h.sites i)

unfoldable pub generator_of : Header → List ℕ → ℕ → Generator
generator_of h file i = generator_at file (generator_start h.version h.sites h.lines i)

-- n values, the i-th of them at i, counted from 0
unfoldable pub list_of {ℓ} : {A : Type ℓ} → (ℕ → A) → ℕ → List A
list_of f zero = []
list_of f (suc n) = list_of f n ++ (f n ∷ [])

-- the values of a list that pass a test, in their order
unfoldable pub select {ℓ} : {A : Type ℓ} → (A → Bool) → List A → List A
select test [] = []
select test (x ∷ xs) = cond (test x) (x ∷ select test xs) (select test xs)

-- the lines that go to site k, its inputs, and those that come from it, its transits
abbrev pub inputs : ℕ → List Line → List Line
inputs k lines = select (λ (l : Line). eqb l.to k) lines

abbrev pub transits : ℕ → List Line → List Line
transits k lines = select (λ (l : Line). eqb l.from k) lines

-- the generators of site k
abbrev pub generators_at : ℕ → List Generator → List Generator
generators_at k generators = select (λ (g : Generator). eqb g.site k) generators

-- the park as values
pub record Park : Type 0 where
  pub header : Header
  pub sites : List Site
  pub lines : List Line
  pub generators : List Generator

-- the park of a file: as many sites, lines and generators as its header says
unfoldable pub park_of : List ℕ → Park
park_of file =
    let h = header_of file in
    record {
      header = h;
      sites = list_of (site_of h file) h.sites;
      lines = list_of (line_of h file) h.lines;
      generators = list_of (generator_of h file) h.generators;
    }

-- no park has these: what stands for a site, a line or a generator past the last
abbrev pub no_site : Site
no_site = site_from []

abbrev pub no_line : Line
no_line = line_from []

abbrev pub no_generator : Generator
no_generator = generator_from []

-- a record that is read by its index is that entry of the park (`site_entry` of proofs/Entries.antt, and so on)
abbrev pub SiteEntry : Type 0
SiteEntry = (file : List ℕ) (i : ℕ) → i < (header_of file).sites → get_or (park_of file).sites i no_site ≡ site_of (header_of file) file i

abbrev pub LineEntry : Type 0
LineEntry = (file : List ℕ) (i : ℕ) → i < (header_of file).lines → get_or (park_of file).lines i no_line ≡ line_of (header_of file) file i

abbrev pub GeneratorEntry : Type 0
GeneratorEntry =
    (file : List ℕ) (i : ℕ) → i < (header_of file).generators
    → get_or (park_of file).generators i no_generator ≡ generator_of (header_of file) file i
