use Rattle.std.proofs.Common.{◌≡◌}
use Rattle.park_format.specs.Park.{no_generator}
use Rattle.park_format.specs.Rules.{generator_rules}
use Rattle.park_format.proofs.Rules.{rest_from}
use Rattle.park_format.proofs.records.check_generators.Given as goal

-- what the generators break first is broken first from generator i on
abbrev pub invariant-loop-i : goal.invariant-loop-i
invariant-loop-i g l =
    let p = g.R.Records.park l.records in
    rest_from (generator_rules p.header p.sites) no_generator p.generators l.i ≡ rest_from (generator_rules p.header p.sites) no_generator p.generators 0
