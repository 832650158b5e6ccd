-- Laws of a list's refusal, as those of a file's.
-- Assumes nothing.
use Prim.Native.Nat.{ℕ, ◌≤◌, ◌<◌}
use mathlib.Core.Path.{◌≡◌, refl, sym, ap, ◌∙◌}
use mathlib.Core.Bool.{false, not}
use mathlib.Core.List.{List}
use mathlib.Core.Option.{Option, none, some}
use native.Mathlib.Omega.{arith}
use lib.Dec.{eqb}
use lib.ListN.{length}
use borrow.Author.Tests.{eqb-true, le-ltb, lt-ltb, not-false}
use Rattle.park_format.specs.Inner.Recorded.{record_rules}
use Rattle.park_format.specs.Rules.{first_broken, header_rules, rules_of, rules_with, size_of}
use Rattle.park_format.specs.declared.header.Header.{Header}
use Rattle.park_format.proofs.Accepted.{kept_fields, right_length}
use Rattle.park_format.proofs.Verdict.{header_refuses, records_decide}
use Rattle.park_encode.specs.Encode.{has_wrong_count, list_refusal, list_rules}
use Rattle.park_encode.specs.Inner.Counted.{Counted}
use Rattle.park_encode.specs.Numbers.{header_fields, list_count, list_header, list_park}

module _ (numbers : List ℕ) where
  abbrev h : Header
  h = list_header numbers

  pub few_refused : length numbers < header_fields → some (1, 0) ≡ list_refusal numbers
  unfolding list_refusal list_rules rules_with first_broken
  few_refused few = rw (lt-ltb (length numbers) header_fields few)

  pub list_table : header_fields ≤ length numbers → list_refusal numbers ≡ first_broken (rules_of false (has_wrong_count numbers) (list_park numbers))
  unfolding list_refusal list_rules
  list_table long = rw (le-ltb (length numbers) header_fields long)

  -- refused by a rule of its header
  pub list_refuses : {r : ℕ × ℕ} → header_fields ≤ length numbers → some r ≡ first_broken (header_rules (has_wrong_count numbers) h) → some r ≡ list_refusal numbers
  unfolding list_park
  list_refuses long e = header_refuses (list_park numbers) (has_wrong_count numbers) e ∙ sym (list_table long)

  -- the rules of the header, as they were looked at: the count that was compared is the one that it asks for
  pub looked : {read : Header} {count : ℕ} {told : Option (ℕ × ℕ)} → read ≡ h → count ≡ list_count read.sites read.lines → told ≡ first_broken (header_rules (not (eqb (length numbers) count)) read) → told ≡ first_broken (header_rules (has_wrong_count numbers) h)
  looked {read = read} its asks told =
      told
      ∙ ap (λ (n : ℕ). first_broken (header_rules (not (eqb (length numbers) n)) read)) asks
      ∙ ap (λ (x : Header). first_broken (header_rules (not (eqb (length numbers) (list_count x.sites x.lines))) x)) its

  module _ (sound : none ≡ first_broken (header_rules (has_wrong_count numbers) h)) where
    -- with a header that keeps its rules it has as many numbers as the header asks for
    pub counted : Counted h (length numbers)
    counted =
        let kept = kept_fields (has_wrong_count numbers) h (sym sound) (size_of h) refl in
        let count = eqb-true (length numbers) _ (not-false _ (right_length (has_wrong_count numbers) h (sym sound))) in
        record { sites = kept.sites.1; lines = kept.lines.1; size = omega (arith, count) }

    -- and then its records decide
    pub list_decides : first_broken (record_rules (list_park numbers)) ≡ list_refusal numbers
    unfolding list_park
    list_decides = records_decide (list_park numbers) (has_wrong_count numbers) sound ∙ sym (list_table (omega (arith, counted.size)))
