-- What an accepted list guarantees: its count is right, and its park keeps every rule and fits a file.
-- Assumes nothing.
use Prim.Native.Nat.{ℕ}
use mathlib.Core.Path.{◌≡◌, refl, sym}
use mathlib.Core.List.{List}
use lib.ListN.{length}
use borrow.Author.Tests.{eqb-true, not-false}
use Rattle.park_format.specs.Accepted.{Kept}
use Rattle.park_format.specs.Made.{FitsFile, Lacking}
use Rattle.park_format.specs.Park.{list_of}
use Rattle.park_format.specs.declared.line.Line.{Line}
use Rattle.park_format.proofs.Accepted.{kept_park, Parts, parts, right_length}
use Rattle.park_format.proofs.Fits.{kept_fits}
use Rattle.park_format.proofs.Lists.{Every-list_of, length-list_of}
use Rattle.park_encode.specs.Encode.{has_too_few, has_wrong_count, IsAcceptedList, list_refusal, list_rules, made_size}
use Rattle.park_encode.specs.Inner.Counted.{Counted}
use Rattle.park_encode.specs.Numbers.{list_count, list_header, list_line, list_park, list_site}
use Rattle.park_encode.proofs.Table.{counted}

pub site_count_lem : (numbers : List ℕ) → length (list_park numbers).sites ≡ (list_park numbers).header.sites
unfolding list_park
site_count_lem numbers = length-list_of (list_site numbers) (list_header numbers).sites

pub line_count_lem : (numbers : List ℕ) → length (list_park numbers).lines ≡ (list_park numbers).header.lines
unfolding list_park
line_count_lem numbers = length-list_of (list_line (list_header numbers) numbers) (list_header numbers).lines

pub generator_count_lem : (numbers : List ℕ) → length (list_park numbers).generators ≡ (list_park numbers).header.generators
unfolding list_park list_header list_of
generator_count_lem numbers = refl

-- what version 1 has no field for is 0
lacking : (numbers : List ℕ) → Lacking (list_park numbers)
unfolding list_park list_header list_line list_of
lacking numbers =
    record {
      generators = refl;
      lines = Every-list_of (λ (l : Line). l.produced ≡ 0) (list_line (list_header numbers) numbers) (list_header numbers).lines (λ i h. refl);
    }

module _ (numbers : List ℕ) (accepted : IsAcceptedList numbers) where
  list_parts : Parts (has_too_few numbers) (has_wrong_count numbers) (list_park numbers)
  unfolding list_refusal list_rules
  list_parts = parts (has_too_few numbers) (has_wrong_count numbers) (list_park numbers) accepted

  pub list_count_lem : length numbers ≡ list_count (list_header numbers).sites (list_header numbers).lines
  list_count_lem = eqb-true (length numbers) _ (not-false _ (right_length (has_wrong_count numbers) (list_park numbers).header list_parts.header))

  pub counted_list : Counted (list_header numbers) (length numbers)
  unfolding list_park
  counted_list = counted numbers (sym list_parts.header)

  pub list_kept : Kept (made_size numbers) (list_park numbers)
  unfolding list_park
  list_kept = kept_park (list_park numbers) (made_size numbers) list_parts refl (site_count_lem numbers) (line_count_lem numbers) (generator_count_lem numbers)

  pub list_fits : FitsFile (list_park numbers)
  list_fits = kept_fits (made_size numbers) (list_park numbers) list_kept (λ e. lacking numbers)
