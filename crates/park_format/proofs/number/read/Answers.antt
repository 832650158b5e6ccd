use Rattle.std.proofs.Common.{ℕ, suc, ◌+◌, ◌-◌, ◌*◌, ◌^◌, ◌≡◌, ◌<◌, arith, refl, sym}
use Rattle.park_format.specs.Format.{byte, number_at}
use Rattle.park_format.proofs.Bytes.{byte_before, byte_fits, small_wide}
use Rattle.park_format.proofs.number.read.Goals as goal

pub loop-i-init : goal.loop-i-init
unfolding number_at
loop-i-init g c =
    let none : g.row.N - g.row.N ≡ 0 = omega arith in
    rw none (refl, omega arith)

-- the bytes from i on, and the one before them, are few enough
wide : (w n b : ℕ) → w < 4 → n < 256 ^ w → b < 256 → 256 * n + b < 2 ^ 32
wide w n b few small byte = small_wide (suc w) (256 * n + b) few (byte_fits w n b small byte)

pub overflow_mul-number : goal.overflow_mul-number
overflow_mul-number g c =
    let fits = wide (g.row.N - c.loop-i.i) c.loop-i.number 0 (omega (arith, c.requires, c.loop-i.auto.i, c.loop-i-test.true)) c.loop-i.invariant.1 (omega arith) in
    omega (arith, fits)

pub overflow_add-number : goal.overflow_add-number
overflow_add-number g c =
    let small = c.type_inv.file (c.args.at + (c.loop-i.i - 1)) in
    let fits = wide (g.row.N - c.loop-i.i) c.loop-i.number c.from.result (omega (arith, c.requires, c.loop-i.auto.i, c.loop-i-test.true)) c.loop-i.invariant.1 (omega (arith, c.from.ensures, small)) in
    omega (arith, fits)

pub loop-i-preserved : goal.loop-i-preserved
loop-i-preserved g c =
    let i = c.loop-i.i in
    let w = g.row.N - i in
    let next : g.row.N - (i - 1) ≡ suc w = omega (arith, c.loop-i.auto.i, c.loop-i-test.true) in
    let before = byte_before c.args.file.now c.args.at w i c.loop-i-test.true in
    let small = c.type_inv.file (c.args.at + (i - 1)) in
    rw next
    (rw (c.from.ensures, c.loop-i.invariant.0) (sym before), byte_fits w c.loop-i.number c.from.result c.loop-i.invariant.1 (omega (arith, c.from.ensures, small)))
