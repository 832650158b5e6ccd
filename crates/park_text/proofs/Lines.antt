-- Laws of the printed lines: each number adds a field, and each site a line.
-- Assumes nothing.
use Prim.Native.Nat.{ℕ, zero, suc, ◌+◌, ◌*◌, ◌/◌, ◌≤◌, ◌<◌, min}
use native.Mathlib.Nat.{mul-zero}
use native.Mathlib.Numerals.{add-one}
use native.Mathlib.Omega.{arith}
use mathlib.Core.Path.{◌≡◌, refl, sym, ap, ◌∙◌}
use mathlib.Core.List.{List, [], ◌∷◌, ◌++◌, append_assoc, append-nil}
use lib.ListN.{length, take, drop, get_or}
use lib.Seq.{drop-drop, get_or-take, take-suc}
use Rattle.std.specs.Simd.{first_chunks}
use Rattle.park_format.specs.Limits.{most_sites}
use Rattle.park_bill.specs.Bill.{bill_numbers}
use Rattle.park_text.specs.Text.{bill_text, comma, decimal, fields_text, names_text, site_text, sites_text}

pub fields_append : (a b : List ℕ) → fields_text (a ++ b) ≡ fields_text a ++ fields_text b
unfolding fields_text
fields_append [] b = refl
fields_append (n ∷ a) b = ap (λ (rest : List ℕ). (comma ∷ decimal n) ++ rest) (fields_append a b) ∙ sym (append_assoc (comma ∷ decimal n) (fields_text a) (fields_text b))

-- the next number
pub fields_next : (l : List ℕ) (i : ℕ) → i < length l → fields_text (take (i + 1) l) ≡ fields_text (take i l) ++ ((comma ∷ []) ++ decimal (get_or l i 0))
unfolding fields_text
fields_next l i within =
    rw (add-one, take-suc l i 0)
    (fields_append (take i l) (get_or l i 0 ∷ []) ∙ ap (λ (t : List ℕ). fields_text (take i l) ++ t) (append-nil (comma ∷ decimal (get_or l i 0))))

chunk_at : (wide count : ℕ) (list : List ℕ) (k : ℕ) → k < count → get_or (first_chunks wide count list) k [] ≡ take wide (drop (wide * k) list)
chunk_at wide zero list k less = absurd (omega arith)
chunk_at wide (suc count) list zero less = ap (λ (n : ℕ). take wide (drop n list)) (sym (mul-zero wide))
chunk_at wide (suc count) list (suc k) less =
    chunk_at wide count (drop wide list) k (omega arith)
    ∙ ap (take wide) (drop-drop (wide * k) wide list ∙ ap (λ (n : ℕ). drop n list) (omega arith))

-- the next site, with its part of the list
pub sites_next : (list : List ℕ) (bills : List (List ℕ)) (count k : ℕ) → bills ≡ first_chunks bill_numbers (length list / bill_numbers) list → bill_numbers * count ≤ length list → k < count → sites_text (k + 1) list ≡ sites_text k list ++ site_text (k + 1) (get_or (take count bills) k [])
unfolding sites_text
sites_next list bills count k parts held within =
    rw (add-one, get_or-take count bills k [] within, parts, chunk_at bill_numbers (length list / bill_numbers) list k (omega arith)) refl

-- a list that holds the numbers of as many bills as a park can have
pub bill_parts : (s n : ℕ) (list : List ℕ) → length list ≡ most_sites * bill_numbers → n ≡ min s most_sites → bill_text s list ≡ names_text ++ sites_text n list
unfolding bill_text
bill_parts s n list all few = ap (λ (i : ℕ). names_text ++ sites_text (min s (i / bill_numbers)) list) all ∙ sym (ap (λ (i : ℕ). names_text ++ sites_text i list) few)
