use Rattle.std.proofs.Common.{◌≤◌, not}
use native.Mathlib.Nat.{le_trans}
use Rattle.park_charge.proofs.Bounds.{estimated_out-le}
use Rattle.park_charge.proofs.Product.{product_fits}
use Rattle.park_format.specs.Limits.{most_eerp, most_reading}
use Rattle.park_sums.proofs.Nets.{when-le}
use Rattle.park_sums.proofs.bounded.BoundedLine.takes_later.Goals as goal

pub overflow_mul-result : goal.overflow_mul-result
overflow_mul-result c =
    let active : c.select_unpredictable-active.result ≤ most_reading = rw c.select_unpredictable-active.ensures (le_trans (when-le (not c.measures.result) c.args.self.line.active) c.args.self.small.active) in
    product_fits most_reading most_eerp (rw c.estimated_outflow-flow.ensures (estimated_out-le c.args.tangent active)) c.args.self.small.eerp tt
