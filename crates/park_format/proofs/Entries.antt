-- Records by their index: each is that entry of the park.
-- Assumes nothing.
use Prim.Native.Nat.{ℕ, ◌+◌, ◌≤◌, ◌<◌}
use native.Mathlib.Omega.{arith}
use mathlib.Core.Path.{◌≡◌, sym, ap, subst, ◌∙◌}
use mathlib.Core.List.{List}
use lib.ListN.{get_or, length}
use Rattle.park_format.specs.Format.{generator_size, generator_start, line_size, line_start, shortest_line, site_size, site_start}
use Rattle.park_format.specs.Inner.Recorded.{Recorded}
use Rattle.park_format.specs.Inner.Sized.{Sized}
use Rattle.park_format.specs.Limits.{most_generators, most_lines}
use Rattle.park_format.specs.Park.{generator_at, generator_of, GeneratorEntry, header_of, line_at, line_of, LineEntry, no_generator, no_line, no_site, park_of, site_at, site_of, SiteEntry}
use Rattle.park_format.specs.declared.generator.Generator.{Generator}
use Rattle.park_format.specs.declared.header.Header.{Header}
use Rattle.park_format.specs.declared.line.Line.{Line}
use Rattle.park_format.specs.declared.site.Site.{Site}
use Rattle.park_format.proofs.Lists.{get_or-list_of, length-list_of}
use Rattle.park_format.proofs.Sizes.{line_sizes, line_within}

pub site_entry : SiteEntry
unfolding park_of
site_entry file i h = get_or-list_of (site_of (header_of file) file) (header_of file).sites no_site i h

pub line_entry : LineEntry
unfolding park_of
line_entry file i h = get_or-list_of (line_of (header_of file) file) (header_of file).lines no_line i h

pub generator_entry : GeneratorEntry
unfolding park_of
generator_entry file i h = get_or-list_of (generator_of (header_of file) file) (header_of file).generators no_generator i h

-- a file with room for all that its header says, with that header as it was read
pub record Roomy (file : List ℕ) (h : Header) : Type 0 where
  pub read : h ≡ header_of file
  pub sized : Sized h (length file)

pub roomy : (file : List ℕ) {own h : Header} → own ≡ header_of file → Sized own (length file) → h ≡ (park_of file).header → Roomy file h
unfolding park_of
roomy file its sized read = record { read = read; sized = subst (λ (x : Header). Sized x (length file)) (its ∙ sym read) sized }

pub same_version : (file : List ℕ) {own h : Header} {version : ℕ} → own ≡ header_of file → own.version ≡ version → Roomy file h → version ≡ h.version
same_version file its is room = sym is ∙ ap (λ (x : Header). x.version) (its ∙ sym room.read)

-- where its records begin is asked of records that it has
pub inside_lines : (file : List ℕ) {h : Header} {i : ℕ} → Roomy file h → i < (park_of file).header.lines → i ≤ most_lines
unfolding park_of
inside_lines file room there = let lines = ap (λ (x : Header). x.lines) room.read in omega (arith, there, lines, room.sized.lines)

pub inside_generators : (file : List ℕ) {h : Header} {i : ℕ} → Roomy file h → i < (park_of file).header.generators → i ≤ most_generators
unfolding park_of
inside_generators file room there =
    let generators = ap (λ (x : Header). x.generators) room.read in
    omega (arith, there, generators, room.sized.generators)

-- it has as many records as its header says
pub recorded_file : (file : List ℕ) {h : Header} → h ≡ header_of file → Sized h (length file) → Recorded (park_of file)
unfolding park_of
recorded_file file read sized =
    let r = header_of file in
    record {
      sites = length-list_of (site_of r file) r.sites;
      lines = length-list_of (line_of r file) r.lines;
      generators = length-list_of (generator_of r file) r.generators;
      few = subst (λ (x : Header). x.sites ≤ 16) read sized.sites;
    }

-- and each that is read where it begins lies within the file, and is that entry of the park
module _ (file : List ℕ) {h : Header} (room : Roomy file h) (i at : ℕ) where
  pub site_inside : i < (park_of file).header.sites → at ≡ site_start h.version i → at + site_size ≤ length file
  unfolding park_of
  site_inside there start =
      let sites = ap (λ (x : Header). x.sites) room.read in
      omega (arith, there, start, sites, room.sized.size)

  pub site_read : {x : Site} → i < (park_of file).header.sites → at ≡ site_start h.version i → x ≡ site_at file at → x ≡ get_or (park_of file).sites i no_site
  unfolding park_of site_of
  site_read there start read =
      read ∙ ap (site_at file) (start ∙ ap (λ (x : Header). site_start x.version i) room.read) ∙ sym (site_entry file i there)

  pub line_inside : i < (park_of file).header.lines → at ≡ line_start h.version h.sites i → (at + line_size h.version ≤ length file) × (at + shortest_line ≤ length file)
  unfolding park_of
  line_inside there start =
      let lines = ap (λ (x : Header). x.lines) room.read in
      let inside = line_within {i = i} room.sized (omega (arith, there, lines)) in
      (omega (arith, start, inside), omega (arith, start, inside, line_sizes h.version))

  pub line_read : {l : Line} → i < (park_of file).header.lines → at ≡ line_start h.version h.sites i → l ≡ line_at h.version file at → l ≡ get_or (park_of file).lines i no_line
  unfolding park_of line_of
  line_read there start read =
      read ∙ ap (line_at h.version file) start ∙ ap (λ (x : Header). line_at x.version file (line_start x.version x.sites i)) room.read ∙ sym (line_entry file i there)

  pub generator_inside : i < (park_of file).header.generators → at ≡ generator_start h.version h.sites h.lines i → at + generator_size ≤ length file
  unfolding park_of
  generator_inside there start =
      let generators = ap (λ (x : Header). x.generators) room.read in
      omega (arith, there, start, generators, room.sized.size)

  pub generator_read : {g : Generator} → i < (park_of file).header.generators → at ≡ generator_start h.version h.sites h.lines i → g ≡ generator_at file at → g ≡ get_or (park_of file).generators i no_generator
  unfolding park_of generator_of
  generator_read there start read =
      read
      ∙ ap (generator_at file) (start ∙ ap (λ (x : Header). generator_start x.version x.sites x.lines i) room.read)
      ∙ sym (generator_entry file i there)
