use Rattle.std.proofs.Common.{◌≤◌, ap, ap₂, subst, sym, ◌∙◌, arith}
use Rattle.std.proofs.Math.IntN.{nat_abs, ◌+ℤ◌}
use native.Mathlib.Nat.{le_trans}
use mir.Syntax.{w64}
use mir.Val.{SFits}
use Rattle.park_charge.specs.Losses.{above_le, above_zero}
use Rattle.park_format.specs.Limits.{most_active}
use Rattle.park_sums.proofs.Signed.{read_whole, small_fits, sum-size}
use Rattle.park_sums.proofs.row.above_zero.Goals as goal

pub returns-clause-most : goal.returns-clause-most
returns-clause-most c =
    let a = c.args.a in
    let b = c.args.b in
    let read = ap₂ ◌+ℤ◌ (read_whole a c.ranges.a) (read_whole b c.ranges.b) in
    let size : nat_abs (a +ℤ b) ≤ most_active = omega (arith, sum-size a b) in
    let fits = subst (SFits w64) (sym read) (small_fits (a +ℤ b) (omega arith)) in
    let is = c.above_zero.ensures ∙ ap above_zero (read_whole _ fits ∙ read) in
    le_trans (rw is (above_le _)) size
