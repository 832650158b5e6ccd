-- Records that are read by their index, from a file or from elsewhere: as many as the header says. And the rules of them all, without those of
-- header and length.
-- Assumes nothing.
use Rattle.std.specs.Prelude.{◌≤◌, ◌≡◌, List, ◌++◌, length}
use Rattle.park_format.specs.Limits.{most_sites}
use Rattle.park_format.specs.Park.{Park}
use Rattle.park_format.specs.Rules.{Row, each, generator_rules, input_rules, line_rules, site_rules}

pub record Recorded (p : Park) : Type 0 where
  pub sites : length p.sites ≡ p.header.sites
  pub lines : length p.lines ≡ p.header.lines
  pub generators : length p.generators ≡ p.header.generators
  pub few : p.header.sites ≤ most_sites

-- site by site, line by line, generator by generator, the park
abbrev pub record_rules : Park → List Row
record_rules p =
    each (site_rules p.header) 1 p.sites
    ++ (each (line_rules p.header) 1 p.lines
    ++ (each (generator_rules p.header p.sites) 1 p.generators
    ++ each (input_rules p.lines) 1 p.sites))
