-- The printed numbers are read back.
-- Assumes nothing.
use Prim.Native.Nat.{ℕ, zero, suc, ◌+◌, ◌*◌, ◌-◌, ◌/◌, ◌%◌, ◌<◌, min}
use native.Mathlib.Omega.{arith}
use mathlib.Core.Logic.{⊎_elim}
use mathlib.Core.Path.{◌≡◌, refl, sym, ap, ◌∙◌}
use mathlib.Core.List.{List, [], ◌∷◌, ◌++◌, append_assoc, append-nil}
use borrow.Author.Tests.{le-ltb}
use lib.ListN.{length, take, drop, get_or, length-append}
use Rattle.std.proofs.lemmas.Bool.{cases_lt}
use Rattle.park_format.specs.Accepted.{Every}
use Rattle.park_format.proofs.Lists.{Every_snoc}
use Rattle.park_bill.specs.Bill.{bill_numbers}
use Rattle.park_text.specs.Text.{bill_text, decimal, digit, digits_within, fields_text, names_text, newline, refusal_text, site_text, sites_text}
use Rattle.park_text.specs.Laws.{BillReadsBack, FirstDigit, IsDigit, numbers_after, numbers_in, OnlyDigits, PrintsApart, ReadsBack, RefusalReadsBack, sites_in, SomeDigit, value, value_after}
use Rattle.park_text.proofs.Digits.{more_within, small_within}

value_snoc : (n : ℕ) (text : List ℕ) (d : ℕ) → value_after n (text ++ (d ∷ [])) ≡ 10 * value_after n text + (d - 48)
unfolding value_after
value_snoc n [] d = refl
value_snoc n (x ∷ text) d = value_snoc (10 * n + (x - 48)) text d

joined : (n : ℕ) → 10 * (n / 10) + (digit (n % 10) - 48) ≡ n
joined n = omega arith

value_within : (most n : ℕ) → n < most → value (digits_within most n) ≡ n
unfolding value_after
value_within zero n h = absurd (omega arith)
value_within (suc most) n h =
    ⊎_elim
    (λ small. ap value (small_within most n small) ∙ one n)
    (λ more.
    ap value (more_within most n more)
    ∙ value_snoc 0 (digits_within most (n / 10)) (digit (n % 10))
    ∙ ap (λ (v : ℕ). 10 * v + (digit (n % 10) - 48)) (value_within most (n / 10) (omega arith))
    ∙ joined n)
    (cases_lt n 10)
  where
    one : (n : ℕ) → value (digit n ∷ []) ≡ n
    one n = omega arith

pub reads_back : ReadsBack
unfolding decimal
reads_back n = value_within (suc n) n (omega arith)

pub prints_apart : PrintsApart
prints_apart m n same = sym (reads_back m) ∙ ap value same ∙ reads_back n

first_within : (most n : ℕ) → n < most → 0 < n → (rest : List ℕ) → 48 < get_or (digits_within most n ++ rest) 0 0
first_within zero n h above rest = absurd (omega arith)
first_within (suc most) n h above rest =
    ⊎_elim
    (λ small. rw (small_within most n small) (omega arith))
    (λ more.
    rw (more_within most n more, append_assoc (digits_within most (n / 10)) (digit (n % 10) ∷ []) rest)
    (first_within most (n / 10) (omega arith) (omega arith) (digit (n % 10) ∷ rest)))
    (cases_lt n 10)

pub first_digit : FirstDigit
unfolding decimal
first_digit n above = rw append-nil at (first_within (suc n) n (omega arith) above [])

digits_within_lem : (most n : ℕ) → Every IsDigit (digits_within most n)
unfolding digits_within
digits_within_lem zero n = tt
digits_within_lem (suc most) n =
    ⊎_elim
    (λ small. rw (small_within most n small) ((omega arith, omega arith), tt))
    (λ more.
    rw (more_within most n more)
    (Every_snoc IsDigit (digits_within most (n / 10)) (digit (n % 10)) (digits_within_lem most (n / 10)) (omega arith, omega arith)))
    (cases_lt n 10)

pub only_digits : OnlyDigits
unfolding decimal
only_digits n = digits_within_lem (suc n) n

pub some_digit : SomeDigit
unfolding decimal
some_digit n =
    ⊎_elim
    (λ small. rw (small_within n n small) (omega arith))
    (λ more. rw (more_within n n more, length-append (digits_within n (n / 10)) (digit (n % 10) ∷ [])) (omega arith))
    (cases_lt n 10)

-- a digit is not the end of a number
digit_read : (n d : ℕ) (rest : List ℕ) → numbers_after n (digit d ∷ rest) ≡ numbers_after (10 * n + (digit d - 48)) rest
unfolding numbers_after
digit_read n d rest = rw (le-ltb (digit d) 48 (omega arith))

within_read : (most n : ℕ) → n < most → (rest : List ℕ) → numbers_in (digits_within most n ++ rest) ≡ numbers_after n rest
within_read zero n h rest = absurd (omega arith)
within_read (suc most) n h rest =
    ⊎_elim
    (λ small.
    ap (λ (l : List ℕ). numbers_in (l ++ rest)) (small_within most n small)
    ∙ digit_read 0 n rest
    ∙ ap (λ (i : ℕ). numbers_after i rest) (one n))
    (λ more.
    ap (λ (l : List ℕ). numbers_in (l ++ rest)) (more_within most n more)
    ∙ ap numbers_in (append_assoc (digits_within most (n / 10)) (digit (n % 10) ∷ []) rest)
    ∙ within_read most (n / 10) (omega arith) (digit (n % 10) ∷ rest)
    ∙ digit_read (n / 10) (n % 10) rest
    ∙ ap (λ (i : ℕ). numbers_after i rest) (joined n))
    (cases_lt n 10)
  where
    one : (n : ℕ) → 10 * 0 + (digit n - 48) ≡ n
    one n = omega arith

decimal_read : (n : ℕ) (rest : List ℕ) → numbers_in (decimal n ++ rest) ≡ numbers_after n rest
unfolding decimal
decimal_read n rest = within_read (suc n) n (omega arith) rest

-- the rest of a line, after digits that came to n
fields_read : (l : List ℕ) (n : ℕ) (rest : List ℕ) → numbers_after n ((fields_text l ++ (newline ∷ [])) ++ rest) ≡ n ∷ (l ++ numbers_in rest)
unfolding numbers_after fields_text
fields_read [] n rest = refl
fields_read (m ∷ l) n rest =
    ap (λ (t : List ℕ). n ∷ numbers_in t) (ap (λ (t : List ℕ). t ++ rest) (append_assoc (decimal m) (fields_text l) (newline ∷ [])) ∙ append_assoc (decimal m) (fields_text l ++ (newline ∷ [])) rest)
    ∙ ap (λ (t : List ℕ). n ∷ t) (decimal_read m ((fields_text l ++ (newline ∷ [])) ++ rest) ∙ fields_read l m rest)

site_read : (k : ℕ) (l rest : List ℕ) → numbers_in (site_text k l ++ rest) ≡ (k ∷ l) ++ numbers_in rest
unfolding site_text
site_read k l rest =
    ap numbers_in (append_assoc (decimal k) (fields_text l ++ (newline ∷ [])) rest)
    ∙ decimal_read k ((fields_text l ++ (newline ∷ [])) ++ rest)
    ∙ fields_read l k rest

sites_read : (n : ℕ) (list rest : List ℕ) → numbers_in (sites_text n list ++ rest) ≡ sites_in n list ++ numbers_in rest
unfolding sites_text sites_in
sites_read zero list rest = refl
sites_read (suc n) list rest =
    let numbers = take bill_numbers (drop (bill_numbers * n) list) in
    ap numbers_in (append_assoc (sites_text n list) (site_text (suc n) numbers) rest)
    ∙ sites_read n list (site_text (suc n) numbers ++ rest)
    ∙ ap (λ (t : List ℕ). sites_in n list ++ t) (site_read (suc n) numbers rest)
    ∙ sym (append_assoc (sites_in n list) (suc n ∷ numbers) (numbers_in rest))

pub refusal_reads_back : RefusalReadsBack
unfolding refusal_text fields_text numbers_after
refusal_reads_back number place =
    ap numbers_in (append_assoc (decimal number) (fields_text (place ∷ [])) (newline ∷ []))
    ∙ decimal_read number (fields_text (place ∷ []) ++ (newline ∷ []))
    ∙ ap (numbers_after number) (sym (append-nil (fields_text (place ∷ []) ++ (newline ∷ []))))
    ∙ fields_read (place ∷ []) number []

pub bill_reads_back : BillReadsBack
unfolding bill_text names_text numbers_after
bill_reads_back s list =
    let n = min s (length list / bill_numbers) in
    ap numbers_in (sym (append-nil (sites_text n list))) ∙ sites_read n list [] ∙ append-nil (sites_in n list)
