use Rattle.std.proofs.Common.{ℕ, suc, ◌+◌, ◌-◌, ◌≡◌, arith, sym, ap, ◌∙◌}
use Rattle.std.proofs.lemmas.List.Edits.{sets}
use Rattle.park_format.specs.Made.{bytes_of}
use Rattle.park_format.proofs.Bytes.{byte_stored}
use Rattle.park_format.proofs.number.write.Goals as goal

pub loop-i-preserved : goal.loop-i-preserved
loop-i-preserved g c =
    let i = c.loop-i.i in
    let rest = c.loop-i.rest in
    let w = g.row.N - (i + 1) in
    let before : g.row.N - i ≡ suc w = omega (arith, c.loop-i-test.true) in
    let after : c.args.at + i + 1 ≡ c.args.at + (i + 1) = omega arith in
    let stored = byte_stored w rest (c.args.at + i) c.loop-i.file in
    rw (← after) (sym stored) ∙ ap (λ (k : ℕ). sets c.loop-i.file (c.args.at + i) (bytes_of k rest)) (sym before) ∙ c.loop-i.invariant

pub returns : goal.returns
unfolding bytes_of
returns g c =
    let none : g.row.N - c.loop-i.i ≡ 0 = omega (arith, c.loop-i-test.false) in
    record { list = rw none at c.loop-i.invariant; size = c.loop-i.auto.file }
