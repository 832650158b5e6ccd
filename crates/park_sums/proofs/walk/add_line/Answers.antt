use Rattle.park_sums.proofs.AllSites.{both_room}
use Rattle.park_sums.proofs.walk.add_line.Goals as goal

pub with_transit-requires : goal.with_transit-requires
with_transit-requires c =
    let bounded = c.args.bounded in
    both_room c.args.sums.now bounded.line bounded.small c.requires.near c.requires.ends.0 c.with_input.ensures _ c.requires.ends.1
