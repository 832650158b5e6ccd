-- A park file written from the numbers of its fields, as `Format` reads them, and the two laws of reading and writing.
-- Assumes nothing.
use Rattle.std.specs.Prelude.{ℕ, zero, suc, ◌/◌, ◌%◌, ◌^◌, ◌<◌, ◌≡◌, List, [], ◌∷◌, ◌++◌, map, length}
use Rattle.park_format.specs.Accepted.{Every}
use Rattle.park_format.specs.Format.{generator_widths, header_widths, later, line_widths, site_widths}
use Rattle.park_format.specs.Park.{Park, generator_from, header_from, header_of, line_from, park_of, site_from}
use Rattle.park_format.specs.Rules.{size_of}
use Rattle.park_format.specs.declared.header.Header.{Header}
use Rattle.park_format.specs.declared.site.Site.{Site}
use Rattle.park_format.specs.declared.line.Line.{Line}
use Rattle.park_format.specs.declared.generator.Generator.{Generator}

-- a number in w bytes, lowest byte first
unfoldable pub bytes_of : ℕ → ℕ → List ℕ
bytes_of zero n = []
bytes_of (suc w) n = n % 256 ∷ bytes_of w (n / 256)

-- the numbers of a record, each in the width of its field
unfoldable pub bytes_for : List ℕ → List ℕ → List ℕ
bytes_for [] numbers = []
bytes_for (w ∷ ws) [] = []
bytes_for (w ∷ ws) (n ∷ ns) = bytes_of w n ++ bytes_for ws ns

-- the numbers of a record in a file of a version, in its order: `header_from`, `site_from`, `line_from` and `generator_from` make the record of
-- them
abbrev pub header_numbers : ℕ → Header → List ℕ
header_numbers version h =
    h.mark ∷ h.version ∷ h.month ∷ h.sites ∷ h.lines ∷ h.price ∷ h.hours ∷ later version (h.generators ∷ [])

abbrev pub site_numbers : Site → List ℕ
site_numbers x = x.power ∷ x.flag ∷ x.compensation ∷ x.motors ∷ x.discount ∷ []

abbrev pub line_numbers : ℕ → Line → List ℕ
line_numbers version l =
    l.from ∷ l.to ∷ l.meters ∷ l.eerp ∷ l.active ∷ l.reactive ∷ l.generated ∷ l.night ∷ later version (l.produced ∷ [])

abbrev pub generator_numbers : Generator → List ℕ
generator_numbers g = g.site ∷ g.output ∷ []

-- the bytes of a record; a header states its version
abbrev pub header_bytes : Header → List ℕ
header_bytes h = bytes_for (header_widths h.version) (header_numbers h.version h)

abbrev pub site_bytes : Site → List ℕ
site_bytes x = bytes_for site_widths (site_numbers x)

abbrev pub line_bytes : ℕ → Line → List ℕ
line_bytes version l = bytes_for (line_widths version) (line_numbers version l)

abbrev pub generator_bytes : Generator → List ℕ
generator_bytes g = bytes_for generator_widths (generator_numbers g)

-- what is written of each value of a list, one after the other
unfoldable pub joined {ℓ} : {A : Type ℓ} → (A → List ℕ) → List A → List ℕ
joined writes [] = []
joined writes (x ∷ xs) = writes x ++ joined writes xs

-- the file of a park
unfoldable pub file_of : Park → List ℕ
file_of p =
    header_bytes p.header
    ++ (joined site_bytes p.sites
    ++ (joined (line_bytes p.header.version) p.lines
    ++ joined generator_bytes p.generators))

-- and of the numbers of its header, its sites, its lines and its generators
abbrev pub file_from : List ℕ → List (List ℕ) → List (List ℕ) → List (List ℕ) → List ℕ
file_from header sites lines generators =
    file_of (record { header = header_from header; sites = map site_from sites; lines = map line_from lines; generators = map generator_from generators })

-- as many numbers as widths, each small enough for its own
abbrev pub Fits : List ℕ → List ℕ → Type 0
Fits [] [] = Unit {0}
Fits [] (n ∷ ns) = ⊥
Fits (w ∷ ws) [] = ⊥
Fits (w ∷ ws) (n ∷ ns) = (n < 256 ^ w) × Fits ws ns

-- a park that has 0 for what version 1 has no field for
pub record Lacking (p : Park) : Type 0 where
  pub generators : p.header.generators ≡ 0
  pub lines : Every (λ (l : Line). l.produced ≡ 0) p.lines

-- a park that a file can hold: its header counts its records, each field fits its width, and in version 1 what has no field is 0
pub record FitsFile (p : Park) : Type 0 where
  pub site_count : length p.sites ≡ p.header.sites
  pub line_count : length p.lines ≡ p.header.lines
  pub generator_count : length p.generators ≡ p.header.generators
  pub header : Fits (header_widths p.header.version) (header_numbers p.header.version p.header)
  pub sites : Every (λ (x : Site). Fits site_widths (site_numbers x)) p.sites
  pub lines : Every (λ (l : Line). Fits (line_widths p.header.version) (line_numbers p.header.version l)) p.lines
  pub generators : Every (λ (g : Generator). Fits generator_widths (generator_numbers g)) p.generators
  pub first : p.header.version ≡ 1 → Lacking p

-- a list of bytes
abbrev pub AreBytes : List ℕ → Type 0
AreBytes file = Every (λ (b : ℕ). b < 256) file

-- a park that was written is read back, and a file as long as its header says is written again as it was (`read_back` of
-- proofs/Made.antt and `written_again` of proofs/Again.antt)
abbrev pub ReadBack : Type 0
ReadBack = (p : Park) → FitsFile p → park_of (file_of p) ≡ p

abbrev pub WrittenAgain : Type 0
WrittenAgain = (file : List ℕ) → AreBytes file → length file ≡ size_of (header_of file) → file_of (park_of file) ≡ file
