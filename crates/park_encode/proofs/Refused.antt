-- What `encode` refuses, by the rows of the table and the rule of the call.
-- Assumes nothing.
use Prim.Native.Nat.{ℕ, ◌≤◌}
use native.Mathlib.Omega.{arith}
use mathlib.Core.Logic.{⊎_elim, ◌⊎◌, inl, inr}
use mathlib.Core.Path.{◌≡◌, refl, sym, ap, subst}
use mathlib.Core.Bool.{true≢false}
use mathlib.Core.List.{List}
use mathlib.Core.Option.{some}
use borrow.Author.Tests.{lt-ltb, ltb-true}
use lib.Dec.{lit≤, ltb}
use lib.ListN.{length}
use Rattle.park_format.specs.Call.{answer}
use Rattle.park_format.specs.Park.{list_of}
use Rattle.park_format.specs.Rules.{each, first_broken, header_rules, OfTable}
use Rattle.park_format.proofs.Ends.{ends_meant}
use Rattle.park_format.proofs.Former.{same_refused}
use Rattle.park_format.proofs.Said.{first_own, first_says, no_call, own_positive, refused_by, refused_keeps, said_exactly, table_says}
use Rattle.park_encode.specs.Encode.{encode_refusal, has_too_few, has_wrong_count, list_refusal, list_rules, made_size}
use Rattle.park_encode.specs.Numbers.{list_header, list_park}
use Rattle.park_encode.specs.Refused.{BufferKept, BufferTooShort, ListEndsMeant, ListRefusals, ListsRefused, NeverZero, SameListsRefused}
use Rattle.park_encode.proofs.Refusals.{list_first}

abbrev OfList : ℕ → Type 0
OfList n = (n ≡ 1) ⊎ ((4 ≤ n) × ((n ≤ 24) × OfTable n))

-- mark and version are always right, and there are no generators
pub list_refusals : ListRefusals
unfolding each list_refusal list_rules list_park list_header list_of header_rules
list_refusals numbers r e =
    first_says OfList (list_rules numbers)
    (table_says OfList (has_too_few numbers) (has_wrong_count numbers) (list_park numbers) (λ e. inl refl)
    (λ e. absurd (true≢false (sym e)), (λ e. absurd (true≢false (sym e)), (λ e. inr (lit≤ tt, (lit≤ tt, inl (lit≤ tt, lit≤ tt))), (λ e. inr (lit≤ tt, (lit≤ tt, inl (lit≤ tt, lit≤ tt))), (λ e. inr (lit≤ tt, (lit≤ tt, inl (lit≤ tt, lit≤ tt))), (λ e. inr (lit≤ tt, (lit≤ tt, inl (lit≤ tt, lit≤ tt))), (λ e. inr (lit≤ tt, (lit≤ tt, inl (lit≤ tt, lit≤ tt))), (λ e. absurd (true≢false (sym e)), (λ e. inr (lit≤ tt, (lit≤ tt, inl (lit≤ tt, lit≤ tt))), tt)))))))))
    tt
    (λ n low high own. inr (omega arith, (high, own))))
    e

pub lists_refused : ListsRefused
lists_refused numbers before r e = ap (λ refused. answer refused (made_size numbers)) (list_first numbers before (sym e))

pub list_ends_meant : ListEndsMeant
unfolding list_refusal list_rules
list_ends_meant numbers = ends_meant (has_too_few numbers) (has_wrong_count numbers) (list_park numbers)

pub same_lists_refused : SameListsRefused
unfolding list_refusal list_rules
same_lists_refused numbers = same_refused (has_too_few numbers) (has_wrong_count numbers) (list_park numbers)

own : (numbers : List ℕ) (r : ℕ × ℕ) → first_broken (list_rules numbers) ≡ some r → OfTable r.0
unfolding list_rules
own numbers r e = first_own (has_too_few numbers) (has_wrong_count numbers) (list_park numbers) e

pub buffer_too_short : BufferTooShort
unfolding encode_refusal list_refusal
buffer_too_short numbers before place =
    let size = made_size numbers in
    let exactly = said_exactly (list_rules numbers) 22 place (λ r e same. no_call 22 (lit≤ tt) (lit≤ tt) (subst OfTable same (own numbers r e))) size (ltb (length before) size) in (
      λ e. let h = exactly.0 e in (h.0, (h.1.0, ltb-true (length before) size h.1.1)),
      λ h. exactly.1 (h.0, (h.1.0, lt-ltb (length before) size h.1.1)),
    )

pub never_zero : NeverZero
unfolding encode_refusal
never_zero numbers before r e =
    ⊎_elim (λ first. own_positive r.0 (own numbers r first)) (λ last. omega (arith, ap (λ (q : ℕ × ℕ). q.0) last.1.1))
    (refused_by (list_rules numbers) 22 (made_size numbers) r (ltb (length before) (made_size numbers)) e)

pub buffer_kept : BufferKept
buffer_kept numbers before r e = refused_keeps (encode_refusal numbers before) (made_size numbers) r _ before e
