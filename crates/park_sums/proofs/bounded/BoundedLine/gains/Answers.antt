use Rattle.park_charge.proofs.Product.{product_fits}
use Rattle.park_charge.proofs.Bounds.{inflow-le}
use Rattle.park_format.specs.Limits.{most_eerp, most_reading}
use Rattle.park_sums.proofs.bounded.BoundedLine.gains.Goals as goal

pub overflow_mul-result : goal.overflow_mul-result
overflow_mul-result c =
    product_fits most_reading most_eerp (rw c.inflow-flow.ensures (inflow-le _ c.args.self.small.active c.args.self.small.reactive)) c.args.self.small.eerp tt
