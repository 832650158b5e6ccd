use Rattle.std.proofs.Common.{sym, ◌∙◌, arith}
use Rattle.park_format.proofs.Accepted.{header_fits}
use Rattle.park_format.proofs.opening.open.Goals as goal

pub version_of-requires : goal.version_of-requires
version_of-requires c = header_fits c.args.file.now (sym c.in_ok-check.ensures)

pub accepted_as-requires : goal.accepted_as-requires
accepted_as-requires c = (omega arith, (sym c.in_ok-check.ensures, λ low high. sym c.version_of.ensures ∙ c.if-version_of-eq-FIRST_VERSION.true))
