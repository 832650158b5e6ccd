-- A customer's list of numbers (02, R-1): five of the header (month, s, n, T, t), five for each site, eight for each line, in the order of
-- the file. It is a park as a file is, of version 1.
-- Assumes nothing.
use Rattle.std.specs.Prelude.{ℕ, ◌+◌, ◌*◌, List, [], ◌∷◌, ◌++◌, drop, get_or, length}
use Rattle.park_format.specs.Format.{header_widths, line_widths, site_widths}
use Rattle.park_format.specs.Made.{header_numbers, joined, line_numbers, site_numbers}
use Rattle.park_format.specs.Park.{Park, header_from, line_from, list_of, site_from}
use Rattle.park_format.specs.Rules.{park_mark}
use Rattle.park_format.specs.declared.header.Header.{Header}
use Rattle.park_format.specs.declared.site.Site.{Site}
use Rattle.park_format.specs.declared.line.Line.{Line}

-- the version that is written, also when later ones exist
abbrev pub version : ℕ
version = 1

-- the fields of a header without mark and version, 5, of a site, 5, and of a line, 8
abbrev pub header_fields : ℕ
header_fields = length (drop 2 (header_widths version))

abbrev pub site_fields : ℕ
site_fields = length site_widths

abbrev pub line_fields : ℕ
line_fields = length (line_widths version)

-- where the numbers of site i and of line i begin, counted from 0, in a list of s sites
abbrev pub site_first : ℕ → ℕ
site_first i = header_fields + site_fields * i

abbrev pub line_first : ℕ → ℕ → ℕ
line_first s i = site_first s + line_fields * i

-- how many numbers a list of s sites and n lines has: 5 + 5s + 8n
abbrev pub list_count : ℕ → ℕ → ℕ
list_count s n = line_first s n

-- the first numbers of a list, as many as that; past its end stands 0, which only a list that breaks 1 or 9 comes to
abbrev pub first_of : ℕ → List ℕ → List ℕ
first_of count numbers = list_of (λ (i : ℕ). get_or numbers i 0) count

-- the header, site i and line i of a list; what version 1 has no field for is 0
unfoldable pub list_header : List ℕ → Header
list_header numbers = header_from (park_mark ∷ version ∷ first_of header_fields numbers)

unfoldable pub list_site : List ℕ → ℕ → Site
list_site numbers i = site_from (drop (site_first i) numbers)

unfoldable pub list_line : Header → List ℕ → ℕ → Line
list_line h numbers i = line_from (first_of line_fields (drop (line_first h.sites i) numbers))

-- the park of a list: as many sites and lines as its header says, and no generators
unfoldable pub list_park : List ℕ → Park
list_park numbers =
    let h = list_header numbers in
    record { header = h; sites = list_of (list_site numbers) h.sites; lines = list_of (list_line h numbers) h.lines; generators = [] }

-- the list of a park: its numbers in a file of version 1, but for mark and version
unfoldable pub numbers_of : Park → List ℕ
numbers_of p = drop 2 (header_numbers version p.header) ++ (joined site_numbers p.sites ++ joined (line_numbers version) p.lines)
