use Rattle.std.proofs.Common.{◌+◌, ◌<◌, ◌≤◌, length, refl, ◌∙◌}
use Rattle.std.proofs.lemmas.Result.{err_from_is_err_and}
use Rattle.park_format.specs.Park.{no_site}
use Rattle.park_format.specs.Rules.{site_rules}
use Rattle.park_format.proofs.Rules.{rest_none, rest_refused, rest_turn}
use Rattle.park_format.proofs.records.check_sites.Goals as goal

pub loop-k-init : goal.loop-k-init
loop-k-init g c = record { its = c.header-header.ensures; sound = refl }

pub returns-in_err-at_place : goal.returns-in_err-at_place
returns-in_err-at_place g c =
    let p = err_from_is_err_and c.from_residual.result c.from_residual.ensures.1 in
    let park = g.R.Records.park c.args.records.now in
    let inside : c.loop-k.k < length park.sites = rw (c.header-header.ensures, ← (g.met.R.Records.recorded c.args.records.now).sites) at c.loop-k-test.true in
    let told = rw c.header-header.ensures at (c.in_err-at_place.ensures ∙ c.check.ensures (c.loop-k.k + 1)) in
    rw (p.1, p.2) (rest_refused (site_rules park.header) no_site park.sites c.loop-k.k inside c.site.ensures told ∙ c.loop-k.invariant.sound)

pub loop-k-preserved : goal.loop-k-preserved
loop-k-preserved g c =
    let park = g.R.Records.park c.args.records.now in
    let inside : c.loop-k.k < length park.sites = rw (c.header-header.ensures, ← (g.met.R.Records.recorded c.args.records.now).sites) at c.loop-k-test.true in
    let told = rw c.header-header.ensures at (c.in_ok-at_place.ensures ∙ c.check.ensures (c.loop-k.k + 1)) in
    record {
      its = c.header-header.ensures;
      sound = rest_turn (site_rules park.header) no_site park.sites c.loop-k.k inside c.site.ensures told ∙ c.loop-k.invariant.sound;
    }

pub returns : goal.returns
returns g c =
    let park = g.R.Records.park c.args.records.now in
    let all : length park.sites ≤ c.loop-k.k = rw (c.header-header.ensures, ← (g.met.R.Records.recorded c.args.records.now).sites) at c.loop-k-test.false in
    rest_none (site_rules park.header) no_site park.sites c.loop-k.k all ∙ c.loop-k.invariant.sound
