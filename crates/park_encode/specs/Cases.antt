-- Park Alder's list (01, "Park Alder, and its neighbours"), a list with its file byte by byte, lists of a wrong count, lists that differ
-- from Alder's in one number, which is too large for its field and within its limits once it is narrowed, and Alder's with a flag or a mark
-- of version 2 or with other ends of a line. `list_cases` of proofs/CaseTest.antt proves them.
-- Assumes nothing.
use Rattle.std.specs.Prelude.{ℕ, ◌≡◌, List, [], ◌∷◌, ◌++◌, set, take}
use Rattle.std.proofs.Math.Option.{some}
use Rattle.park_encode.specs.Encode.{IsAcceptedList, list_refusal, made_file}

-- header, two sites, three lines
abbrev pub alder_list : List ℕ
alder_list =
    4 ∷ 2 ∷ 3 ∷ 500000 ∷ 200
    ∷ 400 ∷ 1 ∷ 50 ∷ 0 ∷ 0
    ∷ 100 ∷ 0 ∷ 0 ∷ 0 ∷ 100
    ∷ 0 ∷ 1 ∷ 1 ∷ 669 ∷ 40000 ∷ 30000 ∷ 0 ∷ 0
    ∷ 1 ∷ 2 ∷ 1 ∷ 700 ∷ 10000 ∷ 4000 ∷ 0 ∷ 0
    ∷ 0 ∷ 2 ∷ 0 ∷ 669 ∷ 5000 ∷ 0 ∷ 0 ∷ 0
    ∷ []

-- one site and one line, of which no two fields that stand side by side are alike, but for s and n; and its file: header, site, line
abbrev pub mixed_list : List ℕ
mixed_list =
    12 ∷ 1 ∷ 1 ∷ 66051 ∷ 513
    ∷ 197121 ∷ 1 ∷ 1027 ∷ 1541 ∷ 519
    ∷ 0 ∷ 1 ∷ 7 ∷ 2057 ∷ 789258 ∷ 986637 ∷ 1184016 ∷ 1118739
    ∷ []

abbrev pub mixed_file : List ℕ
mixed_file =
    80 ∷ 82 ∷ 75 ∷ 1 ∷ 0 ∷ 12 ∷ 1 ∷ 1 ∷ 3 ∷ 2 ∷ 1 ∷ 0 ∷ 1 ∷ 2
    ∷ 1 ∷ 2 ∷ 3 ∷ 0 ∷ 1 ∷ 3 ∷ 4 ∷ 5 ∷ 6 ∷ 7 ∷ 2
    ∷ 0 ∷ 1 ∷ 7 ∷ 9 ∷ 8 ∷ 10 ∷ 11 ∷ 12 ∷ 0 ∷ 13 ∷ 14 ∷ 15 ∷ 0 ∷ 16 ∷ 17 ∷ 18 ∷ 0 ∷ 19 ∷ 18 ∷ 17 ∷ 0
    ∷ []

-- Alder's with another number at a place, counted from 0
abbrev pub alder_with : ℕ → ℕ → List ℕ
alder_with i n = set alder_list i n

pub record ListCases : Type 0 where
  pub alder : IsAcceptedList alder_list
  pub mixed : IsAcceptedList mixed_list
  pub bytes : made_file mixed_list ≡ mixed_file
  -- no number; four, with a wrong month; five, with a wrong month and with a right one; one too few, and one too many
  pub none : list_refusal [] ≡ some (1, 0)
  pub four : list_refusal (13 ∷ 2 ∷ 3 ∷ 500000 ∷ []) ≡ some (1, 0)
  pub month13 : list_refusal (13 ∷ 2 ∷ 3 ∷ 500000 ∷ 200 ∷ []) ≡ some (4, 0)
  pub five : list_refusal (4 ∷ 2 ∷ 3 ∷ 500000 ∷ 200 ∷ []) ≡ some (9, 0)
  pub short : list_refusal (take 38 alder_list) ≡ some (9, 0)
  pub long : list_refusal (alder_list ++ (0 ∷ [])) ≡ some (9, 0)
  -- the header: month, s, n, t
  pub month : list_refusal (alder_with 0 260) ≡ some (4, 0)
  pub sites : list_refusal (alder_with 1 257) ≡ some (5, 0)
  pub lines : list_refusal (alder_with 2 259) ≡ some (6, 0)
  pub hours : list_refusal (alder_with 4 65536) ≡ some (8, 0)
  -- site 1: flag, Q, P, and h of site 2
  pub flag : list_refusal (alder_with 6 257) ≡ some (11, 1)
  pub compensation : list_refusal (alder_with 7 65586) ≡ some (12, 1)
  pub motors : list_refusal (alder_with 8 65536) ≡ some (12, 1)
  pub discount : list_refusal (alder_with 14 65636) ≡ some (13, 2)
  -- from of line 2, to and mark of line 1, D of line 3
  pub from : list_refusal (alder_with 23 257) ≡ some (14, 2)
  pub to : list_refusal (alder_with 16 257) ≡ some (14, 1)
  pub mark : list_refusal (alder_with 17 263) ≡ some (15, 1)
  pub eerp : list_refusal (alder_with 34 65537) ≡ some (16, 3)
  -- the flags of version 2: at site 1, where Q is 50, and at site 2
  pub flag2 : list_refusal (alder_with 6 2) ≡ some (11, 1)
  pub flag3 : list_refusal (alder_with 6 3) ≡ some (11, 1)
  pub flag2_alone : list_refusal (alder_with 11 2) ≡ some (11, 2)
  -- the marks of version 2
  pub mark8 : list_refusal (alder_with 17 8) ≡ some (15, 1)
  pub mark9 : list_refusal (alder_with 17 9) ≡ some (15, 1)
  pub mark10 : list_refusal (alder_with 17 10) ≡ some (15, 1)
  pub mark11 : list_refusal (alder_with 17 11) ≡ some (15, 1)
  pub mark14 : list_refusal (alder_with 25 14) ≡ some (15, 2)
  pub mark15 : list_refusal (alder_with 25 15) ≡ some (15, 2)
  -- ends: line 2 from site 3 to site 2; line 1 from the network to the network; line 2 from site 2 to itself; line 2 from site 2 to site 1, with a
  -- mark of 5; line 2 from site 2 to itself and line 3 to site 3; line 2 back to the network
  pub above : list_refusal (alder_with 23 3) ≡ some (14, 2)
  pub network : list_refusal (alder_with 16 0) ≡ some (23, 1)
  pub itself : list_refusal (alder_with 23 2) ≡ some (24, 2)
  pub backwards : list_refusal (set (set (alder_with 23 2) 24 1) 25 5) ≡ some (24, 2)
  pub two_lines : list_refusal (set (alder_with 23 2) 32 3) ≡ some (24, 2)
  pub back_to_network : IsAcceptedList (alder_with 24 0)
