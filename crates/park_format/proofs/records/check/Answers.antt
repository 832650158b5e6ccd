use Rattle.std.proofs.Common.{◌∙◌}
use Rattle.std.proofs.lemmas.Result.{err_from_is_err_and}
use Rattle.park_format.proofs.Verdict.{lowest_unfed, sites_refuse, lines_refuse, generators_refuse, inputs_refuse}
use Rattle.park_format.proofs.records.check.Goals as goal

pub returns-in_err-check_sites : goal.returns-in_err-check_sites
returns-in_err-check_sites g c =
    let e = err_from_is_err_and c.from_residual.result c.from_residual.ensures.1 in
    rw (e.1, e.2) (sites_refuse (g.R.Records.park c.args.records.now) c.in_err-check_sites.ensures)

pub returns-in_err-fed : goal.returns-in_err-fed
returns-in_err-fed g c =
    let e = err_from_is_err_and c.from_residual-in_err-fed.result c.from_residual-in_err-fed.ensures.1 in
    rw (e.1, e.2) (lines_refuse (g.R.Records.park c.args.records.now) c.in_ok-check_sites.ensures c.in_err-fed.ensures)

pub returns-in_err-check_generators : goal.returns-in_err-check_generators
returns-in_err-check_generators g c =
    let e = err_from_is_err_and c.from_residual-in_err-check_generators.result c.from_residual-in_err-check_generators.ensures.1 in
    rw (e.1, e.2) (generators_refuse (g.R.Records.park c.args.records.now) c.in_ok-check_sites.ensures c.in_ok-fed.ensures.0 c.in_err-check_generators.ensures)

pub returns : goal.returns
returns g c =
    let park = g.R.Records.park c.args.records.now in
    let recorded = g.met.R.Records.recorded c.args.records.now in
    c.check.ensures.decides
    ∙ rw c.header.ensures (lowest_unfed park recorded _ c.check.ensures.low c.in_ok-fed.ensures.1 c.check.ensures.lowest)
    ∙ inputs_refuse park c.in_ok-check_sites.ensures c.in_ok-fed.ensures.0 c.in_ok-check_generators.ensures
