-- Records by their index: each is that entry of the list's park.
-- Assumes nothing.
use Prim.Native.Nat.{ℕ, zero, suc, ◌+◌, ◌-◌, ◌≤◌, ◌<◌}
use native.Mathlib.Omega.{arith}
use mathlib.Core.Path.{◌≡◌, refl, sym, ap, subst, ◌∙◌}
use mathlib.Core.List.{List, [], ◌∷◌, ◌++◌}
use lib.ListN.{drop, get_or, length, length-drop, take}
use lib.Seq.{take-suc}
use Rattle.park_format.specs.Inner.Recorded.{Recorded}
use Rattle.park_format.specs.Limits.{most_sites}
use Rattle.park_format.specs.Park.{line_from, list_of, no_line, no_site, site_from}
use Rattle.park_format.specs.declared.header.Header.{Header}
use Rattle.park_format.specs.declared.line.Line.{Line}
use Rattle.park_format.specs.declared.site.Site.{Site}
use Rattle.park_format.proofs.Lists.{get_or-list_of}
use Rattle.park_encode.specs.Inner.Counted.{Counted}
use Rattle.park_encode.specs.Numbers.{first_of, line_fields, line_first, list_header, list_line, list_park, list_site, site_fields, site_first}
use Rattle.park_encode.proofs.Accepted.{generator_count_lem, line_count_lem, site_count_lem}

-- it has as many records as its header says
pub recorded_list : (numbers : List ℕ) {h : Header} → h ≡ list_header numbers → Counted h (length numbers) → Recorded (list_park numbers)
unfolding list_park
recorded_list numbers read counted =
    record {
      sites = site_count_lem numbers;
      lines = line_count_lem numbers;
      generators = generator_count_lem numbers;
      few = subst (λ (x : Header). x.sites ≤ most_sites) read counted.sites;
    }

-- the first numbers of a list that has them
pub first_is : (n : ℕ) (l : List ℕ) → n ≤ length l → first_of n l ≡ take n l
unfolding list_of
first_is zero l h = refl
first_is (suc n) l h = rw (take-suc l n 0 h) (ap (λ (xs : List ℕ). xs ++ (get_or l n 0 ∷ [])) (first_is n l (omega arith)))

-- and those from a position on
pub window_is : (n : ℕ) (l : List ℕ) (at : ℕ) → at + n ≤ length l → first_of n (drop at l) ≡ take n (drop at l)
window_is n l at h = first_is n (drop at l) (rw (length-drop at l) (omega (arith, h)))

-- as they are read
slice_is : (n : ℕ) (l : List ℕ) (at : ℕ) → at + n ≤ length l → take (at + n - at) (drop at l) ≡ first_of n (drop at l)
slice_is n l at h = ap (λ (k : ℕ). take k (drop at l)) (omega arith) ∙ sym (window_is n l at h)

-- each record that is read where it begins lies within the list, and is that entry of the park
module _ (numbers : List ℕ) {h : Header} (read : h ≡ list_header numbers) (counted : Counted h (length numbers)) {i at : ℕ} where
  pub site_inside : i < (list_park numbers).header.sites → at ≡ site_first i → at + site_fields ≤ length numbers
  unfolding list_park
  site_inside there start = omega (arith, there, start, ap (λ (x : Header). x.sites) read, counted.size)

  pub site_read : {x : Site} → i < (list_park numbers).header.sites → at ≡ site_first i → x ≡ site_from (take (at + site_fields - at) (drop at numbers)) → x ≡ get_or (list_park numbers).sites i no_site
  unfolding list_park list_site list_of
  site_read there start taken =
      taken
      ∙ ap site_from (slice_is site_fields numbers at (site_inside there start) ∙ ap (λ (k : ℕ). first_of site_fields (drop k numbers)) start)
      ∙ sym (get_or-list_of (list_site numbers) (list_header numbers).sites no_site i there)

  pub line_inside : i < (list_park numbers).header.lines → at ≡ line_first h.sites i → at + line_fields ≤ length numbers
  unfolding list_park
  line_inside there start = omega (arith, there, start, ap (λ (x : Header). x.lines) read, counted.size)

  pub line_read : {l : Line} → i < (list_park numbers).header.lines → at ≡ line_first h.sites i → l ≡ line_from (first_of line_fields (take (at + line_fields - at) (drop at numbers))) → l ≡ get_or (list_park numbers).lines i no_line
  unfolding list_park list_line list_of
  line_read there start taken =
      taken
      ∙ ap (λ (xs : List ℕ). line_from (first_of line_fields xs)) (slice_is line_fields numbers at (line_inside there start) ∙ ap (λ (k : ℕ). first_of line_fields (drop k numbers)) (start ∙ ap (λ (x : Header). line_first x.sites i) read))
      ∙ sym (get_or-list_of (list_line (list_header numbers) numbers) (list_header numbers).lines no_line i there)
