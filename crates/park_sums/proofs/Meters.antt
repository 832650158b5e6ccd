-- Laws of the meters that lines lack, with one line more.
-- Assumes nothing.
use Prim.Native.Nat.{ℕ, ◌/◌, ◌%◌, ◌<◌}
use native.Mathlib.Omega.{arith}
use mathlib.Core.Path.{◌≡◌, refl, sym, ap, ◌∙◌}
use mathlib.Core.Bool.{Bool, true, false, cond, not, ◌&&◌}
use mathlib.Core.List.{List, [], ◌∷◌, ◌++◌, append-nil}
use lib.Bits.{bit_or, bit_xor, or_mod, or_shr, xor_mod, xor_shr}
use lib.Dec.{eqb}
use Rattle.park_format.specs.Limits.{latest_version, most_mark}
use Rattle.park_format.specs.Park.{select}
use Rattle.park_format.specs.Rules.{measures_generated, measures_night}
use Rattle.park_format.specs.declared.line.Line.{Line}
use Rattle.park_format.proofs.Bits.{digit}
use Rattle.park_format.proofs.Lists.{select-append}
use Rattle.park_sums.specs.Sums.{all_of}
use Rattle.park_sums.specs.Inner.Rows.{lacked, Lacking}
use Rattle.park_sums.proofs.Sums.{all_snoc}

-- a meter is not among what is lacked with a line more, if it was not and is of the line
digit_more : (x y : ℕ) → x < 2 → y < 2 → not (eqb (bit_or x (bit_xor 1 y)) 1) ≡ (not (eqb x 1) && eqb y 1)
digit_more x y h k =
    digit (λ (a : ℕ). not (eqb (bit_or a (bit_xor 1 y)) 1) ≡ (not (eqb a 1) && eqb y 1)) x h
    (digit (λ (b : ℕ). not (eqb (bit_or 0 (bit_xor 1 b)) 1) ≡ (not (eqb 0 1) && eqb b 1)) y k refl refl)
    (digit (λ (b : ℕ). not (eqb (bit_or 1 (bit_xor 1 b)) 1) ≡ (not (eqb 1 1) && eqb b 1)) y k refl refl)

last_more : (a c b : ℕ) → c % 2 ≡ 1 → not (eqb (bit_or a (bit_xor c b) % 2) 1) ≡ (not (eqb (a % 2) 1) && eqb (b % 2) 1)
last_more a c b e =
    ap (λ (x : ℕ). not (eqb x 1)) (or_mod a (bit_xor c b) 1 ∙ ap (bit_or (a % 2)) (xor_mod c b 1 ∙ ap (λ (x : ℕ). bit_xor x (b % 2)) e))
    ∙ digit_more (a % 2) (b % 2) (omega arith) (omega arith)

generated_more : (a b : ℕ) → not (measures_generated (bit_or a (bit_xor (most_mark latest_version) b))) ≡ (not (measures_generated a) && measures_generated b)
generated_more a b =
    ap (λ (x : ℕ). not (eqb (x % 2) 1)) (or_shr a (bit_xor 15 b) 1 ∙ ap (bit_or (a / 2)) (xor_shr 15 b 1)) ∙ last_more (a / 2) 7 (b / 2) refl

night_more : (a b : ℕ) → not (measures_night (bit_or a (bit_xor (most_mark latest_version) b))) ≡ (not (measures_night a) && measures_night b)
night_more a b =
    ap (λ (x : ℕ). not (eqb (x % 2) 1)) (or_shr a (bit_xor 15 b) 2 ∙ ap (bit_or (a / 4)) (xor_shr 15 b 2)) ∙ last_more (a / 4) 3 (b / 4) refl

-- no line lacks a meter yet
pub lacking_none : Lacking 0 []
unfolding all_of
lacking_none = record { generated = refl; night = refl }

-- one line more
pub lacking_more : {lacks : ℕ} (lines : List Line) (l : Line) → Lacking lacks lines → Lacking (bit_or lacks (lacked l)) (lines ++ (l ∷ []))
lacking_more {lacks} lines l b =
    record {
      generated = generated_more lacks l.meters ∙ ap (λ (t : Bool). t && measures_generated l.meters) b.generated ∙ sym (all_snoc (λ (x : Line). measures_generated x.meters) lines l);
      night = night_more lacks l.meters ∙ ap (λ (t : Bool). t && measures_night l.meters) b.night ∙ sym (all_snoc (λ (x : Line). measures_night x.meters) lines l);
    }

-- the chosen lines, with one line more
module _ (test : Line → Bool) (lines : List Line) (l : Line) where
  chosen : (b : Bool) → test l ≡ b → select test (lines ++ (l ∷ [])) ≡ select test lines ++ cond b (l ∷ []) []
  unfolding select
  chosen b e = select-append test lines (l ∷ []) ∙ ap (λ (t : Bool). select test lines ++ cond t (l ∷ []) []) e

  pub lacking_here : {lacks : ℕ} → test l ≡ true → Lacking lacks (select test lines) → Lacking (bit_or lacks (lacked l)) (select test (lines ++ (l ∷ [])))
  lacking_here e b = rw (chosen true e) (lacking_more (select test lines) l b)

  pub lacking_elsewhere : {lacks : ℕ} → test l ≡ false → Lacking lacks (select test lines) → Lacking lacks (select test (lines ++ (l ∷ [])))
  lacking_elsewhere e b = rw (chosen false e, append-nil) b
