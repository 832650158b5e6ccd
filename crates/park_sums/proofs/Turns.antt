-- What a turn of a walk over the lines of an accepted park knows of the line that it read, and of the lines before it.
-- Assumes nothing.
use Prim.Native.Nat.{ℕ, ◌+◌, ◌<◌}
use native.Mathlib.Omega.{arith}
use mathlib.Core.Path.{◌≡◌, subst}
use mathlib.Core.List.{[], ◌∷◌, ◌++◌}
use lib.ListN.{drop, get_or, length, length-take, take}
use Rattle.std.proofs.lemmas.List.{take-append-drop, take_more}
use Rattle.park_format.specs.Accepted.{Kept, KeptLine}
use Rattle.park_format.specs.Inner.Recorded.{Recorded}
use Rattle.park_format.specs.Park.{no_line, Park}
use Rattle.park_format.specs.Rules.{KeepsRules, size_of}
use Rattle.park_format.specs.declared.header.Header.{Header}
use Rattle.park_format.specs.declared.line.Line.{Line}
use Rattle.park_format.proofs.Accepted.{park_kept}
use Rattle.park_format.proofs.Lists.{every_append}
use Rattle.park_sums.specs.Inner.Rows.{places, SmallLine}
use Rattle.park_sums.proofs.Nets.{Few, kept_small}

-- all lines of such a park
pub all_few : (p : Park) → Kept (size_of p.header) p → Few p.header p.lines
all_few p kept = record { kept = kept.lines; few = omega (arith, kept.line_count, kept.header.lines) }

pub record Turn (p : Park) (i : ℕ) (l : Line) : Type 0 where
  pub to : l.to < places
  pub from : l.from < places
  pub small : SmallLine l
  pub keeps : KeptLine p.header l
  -- the lines before it, and with it
  pub earlier : Few p.header (take i p.lines)
  pub next : Few p.header (take i p.lines ++ (l ∷ []))
  pub more : take (i + 1) p.lines ≡ take i p.lines ++ (l ∷ [])

module _ (p : Park) (recorded : Recorded p) (keeps : KeepsRules p) where
  kept : Kept (size_of p.header) p
  kept = park_kept p recorded keeps

  -- the first i lines
  pub first_few : (i : ℕ) → Few p.header (take i p.lines)
  first_few i =
      record {
        kept = (every_append (KeptLine p.header) (take i p.lines) (drop i p.lines) (rw take-append-drop kept.lines)).0;
        few = omega (arith, length-take i p.lines, kept.line_count, kept.header.lines);
      }

  pub turn : {i : ℕ} {l : Line} {h : Header} → h ≡ p.header → i < h.lines → l ≡ get_or p.lines i no_line → Turn p i l
  turn {i} {l} {h} same test read =
      let inside : i < length p.lines = rw (same, ← recorded.lines) at test in
      let more : take (i + 1) p.lines ≡ take i p.lines ++ (l ∷ []) = rw read (take_more p.lines i no_line inside) in
      let next : Few p.header (take i p.lines ++ (l ∷ [])) = subst (Few p.header) more (first_few (i + 1)) in
      let keeps : KeptLine p.header l = (every_append (KeptLine p.header) (take i p.lines) (l ∷ []) next.kept).1.0 in
      record {
        to = omega (arith, keeps.to, recorded.few);
        from = omega (arith, keeps.from, recorded.few);
        small = kept_small p.header l keeps;
        keeps = keeps;
        earlier = first_few i;
        next = next;
        more = more;
      }
