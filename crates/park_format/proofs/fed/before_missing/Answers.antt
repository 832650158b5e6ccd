use Rattle.park_format.proofs.Bits.{lowest}
use Rattle.park_format.proofs.fed.before_missing.Goals as goal

pub returns : goal.returns
returns c = lowest c.args.fed c.ranges.fed.fits
