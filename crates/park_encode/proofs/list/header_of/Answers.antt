use Rattle.std.proofs.Common.{refl}
use Rattle.park_format.specs.Park.{list_of}
use Rattle.park_encode.specs.Numbers.{list_header}
use Rattle.park_encode.proofs.list.header_of.Goals as goal

pub returns : goal.returns
unfolding list_header list_of
returns c = refl
