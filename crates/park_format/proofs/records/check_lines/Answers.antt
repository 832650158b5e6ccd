use Rattle.std.proofs.Common.{◌≡◌, ◌+◌, ◌<◌, length, refl, sym, ap, ◌∙◌, arith}
use Rattle.std.specs.Prelude.{take}
use Rattle.std.proofs.Math.Numerals.{add-one}
use Rattle.std.proofs.Math.Seq.{take-length, take-suc}
use Rattle.std.proofs.lemmas.Result.{err_from_is_err_and}
use Rattle.park_format.specs.Inner.Set.{has}
use Rattle.park_format.specs.Park.{no_line, select}
use Rattle.park_format.specs.Rules.{line_rules}
use Rattle.park_format.specs.declared.header.Header.{Header}
use Rattle.park_format.proofs.Accepted.{kept_line}
use Rattle.park_format.proofs.Bits.{has-zero}
use Rattle.park_format.proofs.Rules.{rest_none, rest_refused, rest_turn}
use Rattle.park_format.proofs.Verdict.{fed_more}
use Rattle.park_format.proofs.records.check_lines.Goals as goal

pub loop-i-init : goal.loop-i-init
unfolding select has
loop-i-init g c = record { its = c.header-header.ensures; sound = refl; fed = has-zero }

pub returns-in_err-at_place : goal.returns-in_err-at_place
returns-in_err-at_place g c =
    let p = err_from_is_err_and c.from_residual.result c.from_residual.ensures.1 in
    let park = g.R.Records.park c.args.records.now in
    let inside : c.loop-i.i < length park.lines = rw (c.header-header.ensures, ← (g.met.R.Records.recorded c.args.records.now).lines) at c.loop-i-test.true in
    let told = rw c.header-header.ensures at (c.in_err-at_place.ensures ∙ c.check.ensures (c.loop-i.i + 1)) in
    rw (p.1, p.2) (rest_refused (line_rules park.header) no_line park.lines c.loop-i.i inside c.line-line.ensures told ∙ c.loop-i.invariant.sound)

pub with-fed-requires : goal.with-fed-requires
with-fed-requires g c =
    let kept = kept_line c.header-header.result (c.loop-i.i + 1) c.line-line.result (sym (c.in_ok-at_place.ensures ∙ c.check.ensures (c.loop-i.i + 1))) in
    let few = (g.met.R.Records.recorded c.args.records.now).few in
    let sites = ap (λ (h : Header). h.sites) c.header-header.ensures in
    omega (arith, kept.to, few, sites)

pub loop-i-preserved : goal.loop-i-preserved
loop-i-preserved g c =
    let park = g.R.Records.park c.args.records.now in
    let i = c.loop-i.i in
    let inside : i < length park.lines = rw (c.header-header.ensures, ← (g.met.R.Records.recorded c.args.records.now).lines) at c.loop-i-test.true in
    let told = rw c.header-header.ensures at (c.in_ok-at_place.ensures ∙ c.check.ensures (i + 1)) in
    record {
      its = c.header-header.ensures;
      sound = rest_turn (line_rules park.header) no_line park.lines i inside c.line-line.ensures told ∙ c.loop-i.invariant.sound;
      fed = rw (add-one, take-suc park.lines i no_line inside, ← c.line-line.ensures) (fed_more _ _ c.line-line.result (take i park.lines) c.loop-i.invariant.fed c.with-fed.ensures);
    }

pub returns : goal.returns
returns g c =
    let park = g.R.Records.park c.args.records.now in
    let fed = c.loop-i.fed in
    let lines = ap (λ (h : Header). h.lines) c.header-header.ensures in
    let end : c.loop-i.i ≡ length park.lines =
    omega (arith, lines, (g.met.R.Records.recorded c.args.records.now).lines, c.loop-i-test.false, c.loop-i.auto.i-end) in (
      rest_none (line_rules park.header) no_line park.lines c.loop-i.i (omega (arith, end)) ∙ c.loop-i.invariant.sound,
      rw (end, take-length) at c.loop-i.invariant.fed,
    )
