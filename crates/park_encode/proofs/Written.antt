-- The file of a list, written part by part, and the buffer that holds it.
-- Assumes nothing.
use Prim.Native.Nat.{ℕ, ◌+◌, ◌*◌, ◌≤◌}
use native.Mathlib.Nat.{zero-add}
use native.Mathlib.Omega.{arith}
use mathlib.Core.Path.{◌≡◌, refl, sym, ap, subst, ◌∙◌}
use mathlib.Core.List.{List, ◌++◌}
use lib.ListN.{drop, get_or, length}
use lib.Seq.{sets-eq}
use Rattle.park_format.specs.Format.{header_size, line_size, site_size, site_start, line_start}
use Rattle.park_format.specs.Inner.Sized.{Sized}
use Rattle.park_format.specs.Inner.Stored.{Stored}
use Rattle.park_format.specs.Made.{header_bytes, joined, line_bytes, site_bytes}
use Rattle.park_format.specs.Park.{list_of, no_line, no_site, Park}
use Rattle.park_format.specs.Rules.{size_of}
use Rattle.park_format.specs.declared.header.Header.{Header}
use Rattle.park_format.specs.declared.line.Line.{Line}
use Rattle.park_format.specs.declared.site.Site.{Site}
use Rattle.park_format.proofs.Joined.{next_joined, nothing_joined}
use Rattle.park_format.proofs.Lists.{list_of_its}
use Rattle.park_format.proofs.Made.{file_length, file_stored, line_size_lem, site_size_lem}
use Rattle.park_encode.specs.Encode.{made_file, made_size}
use Rattle.park_encode.specs.Inner.Counted.{Counted}
use Rattle.park_encode.specs.Numbers.{list_header, list_park, version}
use Rattle.park_encode.proofs.Accepted.{generator_count_lem, line_count_lem, site_count_lem}

module _ (numbers : List ℕ) where
  abbrev p : Park
  p = list_park numbers

  -- the bytes of the first n sites, and of the first n lines
  abbrev pub sites_until : ℕ → List ℕ
  sites_until n = joined site_bytes (list_of (λ (i : ℕ). get_or p.sites i no_site) n)

  abbrev pub lines_until : ℕ → List ℕ
  lines_until n = joined (line_bytes version) (list_of (λ (i : ℕ). get_or p.lines i no_line) n)

  pub no_sites : (at : ℕ) (a : List ℕ) → Stored (sites_until 0) at a a
  no_sites = nothing_joined site_bytes site_size site_size_lem (λ (i : ℕ). get_or p.sites i no_site)

  pub no_lines : (at : ℕ) (a : List ℕ) → Stored (lines_until 0) at a a
  no_lines = nothing_joined (line_bytes version) (line_size version) (line_size_lem version) (λ (i : ℕ). get_or p.lines i no_line)

  -- with the list's header, as it was read
  module _ {h : Header} (read : h ≡ p.header) where
    pub first_version : h.version ≡ version
    unfolding list_park list_header
    first_version = ap (λ (x : Header). x.version) read

    -- a buffer with room for the file has room for each part
    pub sized : {own : Header} {bytes : ℕ} → own ≡ list_header numbers → Counted own (length numbers) → made_size numbers ≤ bytes → Sized h bytes
    unfolding list_park list_header list_of
    sized {bytes = bytes} its counted room =
        let generators = ap (λ (x : Header). x.generators) its in
        subst (λ (x : Header). Sized x bytes) (its ∙ sym read) (record { sites = counted.sites; lines = counted.lines; generators = omega (arith, generators); size = subst (λ (x : Header). size_of x ≤ bytes) (sym its) room })

    -- one site more, and one line more
    pub one_site : (k : ℕ) {at : ℕ} {x : Site} {a b c : List ℕ} → at ≡ site_start h.version k → x ≡ get_or p.sites k no_site → Stored (sites_until k) (header_size h.version) a b → Stored (site_bytes x) at b c → Stored (sites_until (k + 1)) (header_size h.version) a c
    one_site k start its before here =
        next_joined site_bytes site_size site_size_lem (λ (i : ℕ). get_or p.sites i no_site) k (header_size h.version) before (rw (← start, ← its) here)

    pub one_line : (k : ℕ) {at : ℕ} {l : Line} {a b c : List ℕ} → at ≡ line_start h.version h.sites k → l ≡ get_or p.lines k no_line → Stored (lines_until k) (site_start h.version h.sites) a b → Stored (line_bytes version l) at b c → Stored (lines_until (k + 1)) (site_start h.version h.sites) a c
    one_line k {l = l} {b = b} {c = c} start its before here =
        let there = subst (λ (v : ℕ). Stored (line_bytes version l) (site_start h.version h.sites + line_size v * k) b c) first_version (rw start at here) in
        next_joined (line_bytes version) (line_size version) (line_size_lem version) (λ (i : ℕ). get_or p.lines i no_line) k (site_start h.version h.sites) before (rw (← its) there)

    -- and after the last of both the file
    pub park_stored : {a b c d : List ℕ} → Stored (header_bytes h) 0 a b → Stored (sites_until h.sites) (header_size h.version) b c → Stored (lines_until h.lines) (site_start h.version h.sites) c d → Stored (made_file numbers) 0 a d
    unfolding list_park list_header
    park_stored {a} {b} {c} {d} head sites lines =
        let all_sites = ap (λ (n : ℕ). sites_until n) (ap (λ (x : Header). x.sites) read ∙ sym (site_count_lem numbers)) ∙ ap (joined site_bytes) (list_of_its no_site p.sites) in
        let all_lines = ap (λ (n : ℕ). lines_until n) (ap (λ (x : Header). x.lines) read ∙ sym (line_count_lem numbers)) ∙ ap (joined (line_bytes version)) (list_of_its no_line p.lines) in
        file_stored p refl (site_count_lem numbers)
        (subst (λ (x : Header). Stored (header_bytes x) 0 a b) read head)
        (subst (λ (x : Header). Stored (joined site_bytes p.sites) (header_size x.version) b c) read (rw all_sites at sites))
        (subst (λ (x : Header). Stored (joined (line_bytes version) p.lines) (site_start x.version x.sites) c d) read (rw all_lines at lines))

  pub made_length : length (made_file numbers) ≡ made_size numbers
  unfolding list_park
  made_length = file_length (list_park numbers) (site_count_lem numbers) (line_count_lem numbers) (generator_count_lem numbers)

  pub buffer_is : {before after : List ℕ} → Stored (made_file numbers) 0 before after → made_size numbers ≤ length before → after ≡ made_file numbers ++ drop (made_size numbers) before
  buffer_is {before} stored room =
      stored.list
      ∙ sets-eq (made_file numbers) before 0 (omega (arith, made_length, room))
      ∙ ap (λ (n : ℕ). made_file numbers ++ drop n before) (zero-add (length (made_file numbers)) ∙ made_length)
