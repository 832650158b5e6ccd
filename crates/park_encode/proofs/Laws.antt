-- The laws of lists and files, from reading and writing by records.
-- Assumes nothing.
use Prim.Native.Nat.{ℕ, ◌≤◌}
use native.Mathlib.Omega.{arith}
use mathlib.Core.Path.{◌≡◌, sym, ap, subst, ◌∙◌}
use mathlib.Core.Bool.{not}
use mathlib.Core.List.{List, ◌++◌}
use borrow.Author.Tests.{eq-eqb, le-ltb}
use lib.ListN.{drop, length, take}
use lib.Seq.{drop_at, take_at}
use Rattle.park_format.specs.Call.{answer}
use Rattle.park_format.specs.Format.{shortest_header}
use Rattle.park_format.specs.Made.{file_of, FitsFile}
use Rattle.park_format.specs.Park.{header_of, Park, park_of}
use Rattle.park_format.specs.Rules.{file_rules, has_wrong_length, is_short, refusal, size_of}
use Rattle.park_format.specs.declared.header.Header.{Header}
use Rattle.park_format.proofs.Accepted.{kept}
use Rattle.park_format.proofs.Fits.{kept_fits}
use Rattle.park_format.proofs.Made.{file_bytes, read_back}
use Rattle.park_format.proofs.Again.{written_again}
use Rattle.park_format.proofs.First.{first_lacks}
use Rattle.park_format.proofs.Sizes.{header_sizes}
use Rattle.park_encode.specs.Encode.{buffer_after, has_too_few, has_wrong_count, IsAcceptedList, list_refusal, list_rules, made_file, made_size}
use Rattle.park_encode.specs.Laws.{EncodedInto, FilesOfOneList, ListsReadBack, MadeOf, RefusedAlike}
use Rattle.park_encode.specs.Numbers.{header_fields, list_count, list_header, list_park, numbers_of}
use Rattle.park_encode.proofs.Accepted.{list_count_lem, list_fits}
use Rattle.park_encode.proofs.Numbers.{list_again, numbers-count, numbers_wide, park_read}
use Rattle.park_encode.proofs.Refusals.{nothing_refused}
use Rattle.park_encode.proofs.Written.{made_length}

-- the header of a list's file is the list's
header_made : (numbers : List ℕ) → FitsFile (list_park numbers) → header_of (made_file numbers) ≡ list_header numbers
unfolding park_of list_park
header_made numbers fits = ap (λ (p : Park). p.header) (read_back (list_park numbers) fits)

-- both tables: neither is too short nor of a wrong length, and the parks are the same
pub refused_alike : RefusedAlike
unfolding refusal file_rules list_refusal list_rules
refused_alike numbers count fits =
    let file = made_file numbers in
    let size = made_length numbers in
    let length-right : has_wrong_length file ≡ has_wrong_count numbers =
    ap not (eq-eqb (length file) (size_of (header_of file)) (size ∙ ap size_of (sym (header_made numbers fits))) ∙ sym (eq-eqb (length numbers) _ count)) in
    let long : is_short file ≡ has_too_few numbers =
    le-ltb (length file) shortest_header (omega (arith, size, header_sizes (list_header numbers).version)) ∙ sym (le-ltb (length numbers) header_fields (omega (arith, count))) in
    rw (long, length-right, read_back (list_park numbers) fits)

module _ (numbers : List ℕ) (accepted : IsAcceptedList numbers) where
  pub made_of : MadeOf numbers
  unfolding list_header
  made_of =
      record {
        size = made_length numbers;
        bytes = file_bytes (list_park numbers);
        accepted = refused_alike numbers (list_count_lem numbers accepted) (list_fits numbers accepted) ∙ accepted;
        first = ap (λ (h : Header). h.version) (header_made numbers (list_fits numbers accepted));
        same = ap numbers_of (read_back (list_park numbers) (list_fits numbers accepted)) ∙ list_again numbers (list_count_lem numbers accepted);
      }

  pub encoded_into : (before : List ℕ) → made_size numbers ≤ length before → EncodedInto numbers before
  encoded_into before room =
      let file = made_file numbers in
      let rest = drop (made_size numbers) before in
      let allowed = nothing_refused numbers before accepted room in
      let buffer : buffer_after numbers before ≡ file ++ rest = rw allowed in
      record {
        reply = ap (λ refused. answer refused (made_size numbers)) allowed;
        file = ap (take (made_size numbers)) buffer ∙ take_at file rest (made_size numbers) (made_length numbers);
        rest = ap (drop (made_size numbers)) buffer ∙ drop_at file rest (made_size numbers) (made_length numbers);
      }

pub lists_read_back : ListsReadBack
lists_read_back numbers accepted = (made_of numbers accepted, encoded_into numbers accepted)

pub files_of_one_list : FilesOfOneList
unfolding park_of list_park
files_of_one_list file bytes accepted first =
    let p = park_of file in
    let k = kept file accepted in
    let lacks = first_lacks file first in
    let read = park_read p k.site_count k.line_count k.header.mark first lacks.0 lacks.1 in
    let makes : made_file (numbers_of p) ≡ file = ap file_of read ∙ written_again file bytes k.header.size in
    let header : list_header (numbers_of p) ≡ p.header = ap (λ (q : Park). q.header) read in
    let count = numbers-count p k.site_count k.line_count ∙ ap (λ (h : Header). list_count h.sites h.lines) (sym header) in
    let fits = kept_fits (length file) p k (λ e. lacks.0) in
    record {
      wide = numbers_wide p first fits;
      accepted = sym (refused_alike (numbers_of p) count (subst FitsFile (sym read) fits)) ∙ ap refusal makes ∙ accepted;
      makes = makes;
      only = λ numbers its same. sym (made_of numbers its).same ∙ ap (λ (l : List ℕ). numbers_of (park_of l)) same;
    }
