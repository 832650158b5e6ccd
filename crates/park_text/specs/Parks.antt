-- The parks of the cases, as files: park Alder (01, "Park Alder, and its neighbours") and what differs from it in a line or two, parks of
-- version 2 (02, R-5), parks at the limits of what is due (02, R-7), and parks with power stations (02, R-8).
-- Assumes nothing.
use Rattle.std.specs.Prelude.{ℕ, List, [], ◌∷◌, ◌++◌, length}
use Rattle.park_format.specs.Made.{file_from}
use Rattle.park_format.specs.Rules.{park_mark}

-- Park Alder, with a given discount of site 2, first and second line
abbrev pub alder_with : ℕ → List ℕ → List ℕ → List ℕ
alder_with discount first second =
    file_from
    (park_mark ∷ 1 ∷ 4 ∷ 2 ∷ 3 ∷ 500000 ∷ 200 ∷ [])
    ((400 ∷ 1 ∷ 50 ∷ 0 ∷ 0 ∷ []) ∷ (100 ∷ 0 ∷ 0 ∷ 0 ∷ discount ∷ []) ∷ [])
    (first ∷ second ∷ (0 ∷ 2 ∷ 0 ∷ 669 ∷ 5000 ∷ 0 ∷ 0 ∷ 0 ∷ []) ∷ [])
    []

-- with its own first line and discount
abbrev pub alder_by : List ℕ → List ℕ
alder_by second = alder_with 100 (0 ∷ 1 ∷ 1 ∷ 669 ∷ 40000 ∷ 30000 ∷ 0 ∷ 0 ∷ []) second

abbrev pub alder : List ℕ
alder = alder_by (1 ∷ 2 ∷ 1 ∷ 700 ∷ 10000 ∷ 4000 ∷ 0 ∷ 0 ∷ [])

abbrev pub alder_cut : List ℕ
alder_cut = alder_by (1 ∷ 2 ∷ 1 ∷ 700 ∷ 10000 ∷ 40000 ∷ 0 ∷ 0 ∷ [])

abbrev pub alder_unmetered : List ℕ
alder_unmetered = alder_by (1 ∷ 2 ∷ 0 ∷ 700 ∷ 10000 ∷ 0 ∷ 0 ∷ 0 ∷ [])

-- site 1 sends back more than the park takes in, and no meter tells its reactive energy
abbrev pub alder_back : List ℕ
alder_back = alder_by (1 ∷ 0 ∷ 0 ∷ 5000 ∷ 10000000 ∷ 0 ∷ 0 ∷ 0 ∷ [])

-- the tangent of site 1 is above its limit, and no meter tells what goes on to site 2
abbrev pub alder_high : List ℕ
alder_high = alder_with 100 (0 ∷ 1 ∷ 1 ∷ 669 ∷ 100 ∷ 30000 ∷ 0 ∷ 0 ∷ []) (1 ∷ 2 ∷ 0 ∷ 700 ∷ 10000 ∷ 0 ∷ 0 ∷ 0 ∷ [])

-- a discount of 1,001 at site 2, and D 0 on line 1
abbrev pub alder_refused : List ℕ
alder_refused = alder_with 1001 (0 ∷ 1 ∷ 1 ∷ 0 ∷ 40000 ∷ 30000 ∷ 0 ∷ 0 ∷ []) (1 ∷ 2 ∷ 1 ∷ 700 ∷ 10000 ∷ 4000 ∷ 0 ∷ 0 ∷ [])

-- Alder in version 2, without generators
abbrev pub alder_second : List ℕ
alder_second =
    file_from
    (park_mark ∷ 2 ∷ 4 ∷ 2 ∷ 3 ∷ 500000 ∷ 200 ∷ 0 ∷ [])
    ((400 ∷ 1 ∷ 50 ∷ 0 ∷ 0 ∷ []) ∷ (100 ∷ 0 ∷ 0 ∷ 0 ∷ 100 ∷ []) ∷ [])
    ((0 ∷ 1 ∷ 1 ∷ 669 ∷ 40000 ∷ 30000 ∷ 0 ∷ 0 ∷ 0 ∷ []) ∷ (1 ∷ 2 ∷ 1 ∷ 700 ∷ 10000 ∷ 4000 ∷ 0 ∷ 0 ∷ 0 ∷ []) ∷ (0 ∷ 2 ∷ 0 ∷ 669 ∷ 5000 ∷ 0 ∷ 0 ∷ 0 ∷ 0 ∷ []) ∷ [])
    []

-- two sites with devices and active generation on their lines, a given end of the last line, which site 1 sends out without a meter of reactive
-- consumption, and given generators
abbrev pub own_with : ℕ → List (List ℕ) → List ℕ
own_with to generators =
    file_from
    (park_mark ∷ 2 ∷ 4 ∷ 2 ∷ 4 ∷ 500000 ∷ 200 ∷ length generators ∷ [])
    ((400 ∷ 1 ∷ 50 ∷ 0 ∷ 0 ∷ []) ∷ (100 ∷ 1 ∷ 10 ∷ 20 ∷ 100 ∷ []) ∷ [])
    ((0 ∷ 1 ∷ 9 ∷ 669 ∷ 40000 ∷ 30000 ∷ 0 ∷ 0 ∷ 5000 ∷ []) ∷ (1 ∷ 2 ∷ 9 ∷ 700 ∷ 10000 ∷ 4000 ∷ 0 ∷ 0 ∷ 2000 ∷ []) ∷ (0 ∷ 2 ∷ 0 ∷ 669 ∷ 5000 ∷ 0 ∷ 0 ∷ 0 ∷ 0 ∷ []) ∷ (1 ∷ to ∷ 8 ∷ 700 ∷ 3000 ∷ 0 ∷ 0 ∷ 0 ∷ 1000 ∷ []) ∷ [])
    generators

-- two generators at site 1, and one at site 2 that reads 0
abbrev pub three_generators : List (List ℕ)
three_generators = (1 ∷ 7000 ∷ []) ∷ (2 ∷ 0 ∷ []) ∷ (1 ∷ 500 ∷ []) ∷ []

-- the last line goes on to site 2, or back to the network; and the first park without its generators
abbrev pub own_on : List ℕ
own_on = own_with 2 three_generators

abbrev pub own_back : List ℕ
own_back = own_with 0 three_generators

abbrev pub own_none : List ℕ
own_none = own_with 2 []

-- a given version, one site with a given flag, one line with a given mark and given readings WP and of active generation, and given generators
abbrev pub one_line : ℕ → ℕ → ℕ → ℕ → ℕ → List (List ℕ) → List ℕ
one_line version flag mark active produced generators =
    file_from
    (park_mark ∷ version ∷ 4 ∷ 1 ∷ 1 ∷ 500000 ∷ 200 ∷ length generators ∷ [])
    ((400 ∷ flag ∷ 0 ∷ 0 ∷ 0 ∷ []) ∷ [])
    ((0 ∷ 1 ∷ mark ∷ 669 ∷ active ∷ 0 ∷ 0 ∷ 0 ∷ produced ∷ []) ∷ [])
    generators

-- no two fields that stand side by side are alike, but for s and n
abbrev pub mixed_second : List ℕ
mixed_second =
    file_from
    (park_mark ∷ 2 ∷ 12 ∷ 1 ∷ 1 ∷ 66051 ∷ 258 ∷ 2 ∷ [])
    ((197121 ∷ 1 ∷ 1027 ∷ 1541 ∷ 519 ∷ []) ∷ [])
    ((0 ∷ 1 ∷ 15 ∷ 2057 ∷ 789258 ∷ 986637 ∷ 1184016 ∷ 1118739 ∷ 1316116 ∷ []) ∷ [])
    ((1 ∷ 1578774 ∷ []) ∷ (1 ∷ 1776153 ∷ []) ∷ [])

-- a header of version 2 as far as the hours, whose two bytes are given
abbrev pub head_second : ℕ → ℕ → List ℕ
head_second low high = 80 ∷ 82 ∷ 75 ∷ 2 ∷ 0 ∷ 4 ∷ 1 ∷ 1 ∷ 32 ∷ 161 ∷ 7 ∷ 0 ∷ low ∷ high ∷ []

-- a park of version 2 in which no line goes to site 2, with given generators
abbrev pub unfed_second : List (List ℕ) → List ℕ
unfed_second generators =
    file_from
    (park_mark ∷ 2 ∷ 4 ∷ 2 ∷ 1 ∷ 500000 ∷ 200 ∷ length generators ∷ [])
    ((400 ∷ 1 ∷ 0 ∷ 0 ∷ 0 ∷ []) ∷ (400 ∷ 0 ∷ 0 ∷ 0 ∷ 0 ∷ []) ∷ [])
    ((0 ∷ 1 ∷ 8 ∷ 669 ∷ 0 ∷ 0 ∷ 0 ∷ 0 ∷ 0 ∷ []) ∷ [])
    generators

-- a site with a generator that sends on more than it takes in, and one without a generator
abbrev pub own_short : List ℕ
own_short =
    file_from
    (park_mark ∷ 2 ∷ 4 ∷ 2 ∷ 3 ∷ 500000 ∷ 200 ∷ 1 ∷ [])
    ((400 ∷ 1 ∷ 50 ∷ 0 ∷ 0 ∷ []) ∷ (100 ∷ 0 ∷ 0 ∷ 0 ∷ 0 ∷ []) ∷ [])
    ((0 ∷ 1 ∷ 9 ∷ 669 ∷ 1000 ∷ 30000 ∷ 0 ∷ 0 ∷ 5000 ∷ []) ∷ (1 ∷ 2 ∷ 9 ∷ 700 ∷ 2000 ∷ 4000 ∷ 0 ∷ 0 ∷ 3000 ∷ []) ∷ (1 ∷ 2 ∷ 8 ∷ 700 ∷ 600 ∷ 0 ∷ 0 ∷ 0 ∷ 1000 ∷ []) ∷ [])
    ((1 ∷ 2500 ∷ []) ∷ [])

-- the line of one of the sites at the limits of what is due, with a given site, mark, WQ and WG, and what a line of its version has besides
abbrev pub limit_line : List ℕ → ℕ → ℕ → ℕ → ℕ → List ℕ
limit_line more site mark reactive generated = (0 ∷ site ∷ mark ∷ 669 ∷ 1000 ∷ reactive ∷ generated ∷ 0 ∷ []) ++ more

-- Seven sites at the limits of what is due, each with its line, in a given version and month, with a given flag, and what a header and a line of
-- that version have besides. At the first five generation is computed: 10,000 tenths of a kVArh by a Q of 1,000, and 9,999 by a P of 3,333. Of consumption and
-- generation there is too little of the first, of the second, of none, and of both; site 5 has enough of both, but a power below 16. At the last
-- two it is metered: site 6 generates 1,000 kVArh and consumes nothing, site 7 consumes 1,000 and generates 999.
abbrev pub limits_with : ℕ → ℕ → ℕ → List ℕ → List ℕ
limits_with version month flag more =
    file_from
    (park_mark ∷ version ∷ month ∷ 7 ∷ 7 ∷ 500000 ∷ 1 ∷ more)
    ((16 ∷ flag ∷ 1000 ∷ 0 ∷ 100 ∷ []) ∷ (16 ∷ flag ∷ 0 ∷ 3333 ∷ 100 ∷ []) ∷ (16 ∷ flag ∷ 1000 ∷ 0 ∷ 100 ∷ []) ∷ (16 ∷ flag ∷ 0 ∷ 3333 ∷ 100 ∷ []) ∷ (15 ∷ flag ∷ 1000 ∷ 0 ∷ 100 ∷ []) ∷ (16 ∷ flag ∷ 0 ∷ 0 ∷ 100 ∷ []) ∷ (16 ∷ flag ∷ 0 ∷ 0 ∷ 100 ∷ []) ∷ [])
    (limit_line more 1 1 999 0 ∷ limit_line more 2 1 1000 0 ∷ limit_line more 3 1 1000 0 ∷ limit_line more 4 1 999 0 ∷ limit_line more 5 1 1000 0 ∷ limit_line more 6 3 0 1000 ∷ limit_line more 7 3 1000 999 ∷ [])
    []

-- in version 1, in version 2, and there as power stations
abbrev pub limits : ℕ → List ℕ
limits month = limits_with 1 month 1 []

abbrev pub limits_second : ℕ → List ℕ
limits_second month = limits_with 2 month 1 (0 ∷ [])

abbrev pub limits_stations : ℕ → List ℕ
limits_stations month = limits_with 2 month 3 (0 ∷ [])

-- one such site, with a given power, Q, P, D and WQ
abbrev pub one_limit : ℕ → ℕ → ℕ → ℕ → ℕ → List ℕ
one_limit power compensation motors eerp reactive =
    file_from
    (park_mark ∷ 1 ∷ 4 ∷ 1 ∷ 1 ∷ 500000 ∷ 1 ∷ [])
    ((power ∷ 1 ∷ compensation ∷ motors ∷ 100 ∷ []) ∷ [])
    ((0 ∷ 1 ∷ 1 ∷ eerp ∷ 1000 ∷ reactive ∷ 0 ∷ 0 ∷ []) ∷ [])
    []

-- four sites with the four flags, alike but for a generator at the last, each with its line: without devices and with them, and a station without
-- devices and with them
abbrev pub four_flags : List ℕ
four_flags =
    file_from
    (park_mark ∷ 2 ∷ 4 ∷ 4 ∷ 4 ∷ 500000 ∷ 1 ∷ 1 ∷ [])
    ((16 ∷ 0 ∷ 0 ∷ 0 ∷ 100 ∷ []) ∷ (16 ∷ 1 ∷ 0 ∷ 0 ∷ 100 ∷ []) ∷ (16 ∷ 2 ∷ 0 ∷ 0 ∷ 100 ∷ []) ∷ (16 ∷ 3 ∷ 0 ∷ 0 ∷ 100 ∷ []) ∷ [])
    (limit_line (0 ∷ []) 1 3 2000 1000 ∷ limit_line (0 ∷ []) 2 3 2000 1000 ∷ limit_line (0 ∷ []) 3 3 2000 1000 ∷ limit_line (0 ∷ []) 4 3 2000 1000 ∷ [])
    ((4 ∷ 1000 ∷ []) ∷ [])

-- Alder with WQ 40,000 on line 2, in version 2, of which both sites are stations, the first with devices
abbrev pub alder_stations : List ℕ
alder_stations =
    file_from
    (park_mark ∷ 2 ∷ 4 ∷ 2 ∷ 3 ∷ 500000 ∷ 200 ∷ 0 ∷ [])
    ((400 ∷ 3 ∷ 50 ∷ 0 ∷ 0 ∷ []) ∷ (100 ∷ 2 ∷ 0 ∷ 0 ∷ 100 ∷ []) ∷ [])
    ((0 ∷ 1 ∷ 1 ∷ 669 ∷ 40000 ∷ 30000 ∷ 0 ∷ 0 ∷ 0 ∷ []) ∷ (1 ∷ 2 ∷ 1 ∷ 700 ∷ 10000 ∷ 40000 ∷ 0 ∷ 0 ∷ 0 ∷ []) ∷ (0 ∷ 2 ∷ 0 ∷ 669 ∷ 5000 ∷ 0 ∷ 0 ∷ 0 ∷ 0 ∷ []) ∷ [])
    []

-- one site with a given flag, Q and P, in a given version, whose header and line have what is given besides
abbrev pub one_flag : ℕ → ℕ → ℕ → ℕ → List ℕ → List ℕ
one_flag version flag compensation motors more =
    file_from
    (park_mark ∷ version ∷ 4 ∷ 1 ∷ 1 ∷ 500000 ∷ 1 ∷ more)
    ((16 ∷ flag ∷ compensation ∷ motors ∷ 100 ∷ []) ∷ [])
    (limit_line more 1 1 2000 0 ∷ [])
    []
