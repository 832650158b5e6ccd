-- Laws of a text that a writer adds piece by piece.
-- Assumes nothing.
use Prim.Native.Nat.{ℕ}
use native.Mathlib.Omega.{arith}
use mathlib.Core.Path.{◌≡◌, sym, ap, ap₂, ◌∙◌}
use mathlib.Core.List.{List, [], ◌++◌, append_assoc}
use lib.ListN.{length, take, drop, length-append}
use lib.Seq.{drop-drop}
use Rattle.std.specs.Borrow.{MutBor}
use Rattle.std.proofs.Common.{take-append-drop}
use Rattle.park_text.specs.Buffer.{Starts}
use Rattle.park_text.specs.Inner.Writer.{Begins, rest_of, text_of, Writes}
use Rattle.park_text.specs.declared.writer.Writer.{Writer}

module _ {a b : List ℕ} {before mid after : Writer} where
  -- two texts one after the other
  pub writes_then : Writes a before mid → Writes b mid after → Writes (a ++ b) before after
  writes_then first second =
      record {
        lent = second.lent ∙ first.lent;
        size = omega (arith, first.size, second.size, length-append a b);
        added = second.added ∙ ap (λ (l : List ℕ). l ++ b) first.added ∙ append_assoc (text_of before) a b;
        kept = second.kept ∙ ap (drop (length b)) first.kept ∙ drop-drop (length b) (length a) (rest_of before) ∙ ap (λ (n : ℕ). drop n (rest_of before)) (sym (length-append a b));
      }

-- the text of a new writer, where its buffer is no longer lent
pub starts : {text after : List ℕ} {buffer : MutBor (List ℕ)} {first last : Writer} → Begins buffer first → Writes text first last → (buffer.ghost_name ≡ last.out.ghost_name → after ≡ last.out.now) → Starts text buffer.now last.size after
starts {text} {after} {buffer} {first} {last} new w back =
    let none : text_of first ≡ [] = ap (λ (n : ℕ). take n first.out.now) new.size in
    let all : rest_of first ≡ buffer.now = ap₂ (λ (n : ℕ) (l : List ℕ). drop n l) new.size new.same in
    let written : text_of last ≡ text = w.added ∙ ap (λ (l : List ℕ). l ++ text) none in
    let left : rest_of last ≡ drop (length text) buffer.now = w.kept ∙ ap (drop (length text)) all in
    record {
      counted = omega (arith, w.size, new.size);
      bytes = back (sym (w.lent ∙ new.lent)) ∙ sym (take-append-drop last.size last.out.now) ∙ ap₂ (λ (l r : List ℕ). l ++ r) written left;
    }
