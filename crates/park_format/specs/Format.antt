-- The park file by the widths of its fields (01, "The park file"): numbers are unsigned, lowest byte first. A file is the list of its bytes.
-- Assumes nothing.
use Rattle.std.specs.Prelude.{ℕ, zero, suc, ◌+◌, ◌*◌, cond, List, [], ◌∷◌, eqb, get_or}

-- what the first version has no field for: nothing there, these fields in each later one
abbrev pub later : ℕ → List ℕ → List ℕ
later version fields = cond (eqb version 1) [] fields

-- the fields of each record, in bytes: mark, version, month, sites, lines, price, hours; from version 2 on the generators (02, R-5)
abbrev pub header_widths : ℕ → List ℕ
header_widths version = 3 ∷ 2 ∷ 1 ∷ 1 ∷ 1 ∷ 4 ∷ 2 ∷ later version (1 ∷ [])

-- power, flag, compensation, motors, discount
abbrev pub site_widths : List ℕ
site_widths = 4 ∷ 1 ∷ 2 ∷ 2 ∷ 2 ∷ []

-- from, to, meter mark, EERP, and the readings WP, WQ, WG, WN; from version 2 on the active generation
abbrev pub line_widths : ℕ → List ℕ
line_widths version = 1 ∷ 1 ∷ 1 ∷ 2 ∷ 4 ∷ 4 ∷ 4 ∷ 4 ∷ later version (4 ∷ [])

-- site, active generation
abbrev pub generator_widths : List ℕ
generator_widths = 1 ∷ 4 ∷ []

-- the size of a record
abbrev pub total : List ℕ → ℕ
total [] = 0
total (w ∷ ws) = w + total ws

-- 14 bytes in version 1, 15 from version 2 on
unfoldable pub header_size : ℕ → ℕ
header_size version = total (header_widths version)

-- 11 bytes
abbrev pub site_size : ℕ
site_size = total site_widths

-- 21 bytes in version 1, 25 from version 2 on
unfoldable pub line_size : ℕ → ℕ
line_size version = total (line_widths version)

-- the shortest header and the shortest line, those of version 1: 14 and 21 bytes
abbrev pub shortest_header : ℕ
shortest_header = total (header_widths 1)

abbrev pub shortest_line : ℕ
shortest_line = total (line_widths 1)

-- 5 bytes
abbrev pub generator_size : ℕ
generator_size = total generator_widths

-- where site i, line i and generator i begin, counted from 0, in a file of s sites and n lines: the sites follow the header, the lines the
-- sites, and the generators the lines
abbrev pub site_start : ℕ → ℕ → ℕ
site_start version i = header_size version + site_size * i

abbrev pub line_start : ℕ → ℕ → ℕ → ℕ
line_start version s i = site_start version s + line_size version * i

abbrev pub generator_start : ℕ → ℕ → ℕ → ℕ → ℕ
generator_start version s n i = line_start version s n + generator_size * i

-- the bytes of a file of s sites, n lines and g generators: 14 + 11s + 21n in version 1, which has no generators, 15 + 11s + 25n + 5g in
-- version 2
abbrev pub file_size : ℕ → ℕ → ℕ → ℕ → ℕ
file_size version s n g = generator_start version s n g

-- the byte at a position; 0 past the end, which only a file that breaks 1 or 9 comes to
abbrev pub byte : List ℕ → ℕ → ℕ
byte file at = get_or file at 0

-- the number in w bytes from a position on
unfoldable pub number_at : ℕ → List ℕ → ℕ → ℕ
number_at zero file at = 0
number_at (suc w) file at = byte file at + 256 * number_at w file (at + 1)

-- the numbers of a record, by the widths of its fields
unfoldable pub fields_at : List ℕ → List ℕ → ℕ → List ℕ
fields_at [] file at = []
fields_at (w ∷ ws) file at = number_at w file at ∷ fields_at ws file (at + w)

-- the version of a file: every header begins with the mark in three bytes and the version in two
abbrev pub version_of : List ℕ → ℕ
version_of file = number_at 2 file 3
