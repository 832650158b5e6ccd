-- The text of a refusal and of a bill (01, Park Alder), as a list of ASCII codes.
-- Assumes nothing.
use Rattle.std.specs.Prelude.{ℕ, zero, suc, ◌+◌, ◌*◌, ◌/◌, ◌%◌, min, cond, List, [], ◌∷◌, ◌++◌, ltb, length, take, drop}
use Rattle.park_bill.specs.Bill.{bill_numbers}
use Rattle.park_text.specs.Ascii.{ascii}

abbrev pub newline : ℕ
newline = 10

abbrev pub comma : ℕ
comma = 44

-- `0` to `9`
abbrev pub digit : ℕ → ℕ
digit d = 48 + d

-- a number of at most that many digits, with no leading zeros
unfoldable pub digits_within : ℕ → ℕ → List ℕ
digits_within zero n = []
digits_within (suc most) n =
    let longer = digits_within most (n / 10) ++ (digit (n % 10) ∷ []) in
    cond (ltb n 10) (digit n ∷ []) longer

-- a number in decimal; n has at most n + 1 digits
unfoldable pub decimal : ℕ → List ℕ
decimal n = digits_within (suc n) n

-- a comma before each number
unfoldable pub fields_text : List ℕ → List ℕ
fields_text [] = []
fields_text (n ∷ rest) = (comma ∷ decimal n) ++ fields_text rest

abbrev pub refused_text : List ℕ
refused_text = ascii "refused"

unfoldable pub refusal_text : ℕ → ℕ → List ℕ
refusal_text number place = refused_text ++ (fields_text (number ∷ place ∷ []) ++ (newline ∷ []))

-- the line of a site: its number and its eleven
unfoldable pub site_text : ℕ → List ℕ → List ℕ
site_text k numbers = decimal k ++ (fields_text numbers ++ (newline ∷ []))

unfoldable pub names_text : List ℕ
names_text = ascii "site,consumption,tg,settled,cut,generation,pc,pg,p2,p3,total,reason\n"

-- sites 1 to n, each from its eleven numbers of the list
unfoldable pub sites_text : ℕ → List ℕ → List ℕ
sites_text zero list = []
sites_text (suc n) list = sites_text n list ++ site_text (suc n) (take bill_numbers (drop (bill_numbers * n) list))

-- the line of names, and then s sites, or as many as the list holds
unfoldable pub bill_text : ℕ → List ℕ → List ℕ
bill_text s list = names_text ++ sites_text (min s (length list / bill_numbers)) list
