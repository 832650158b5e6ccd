-- The mark of a power station (02, R-8), which is the 2 in its flag: where no flag breaks 11, a park is refused alike with its marks and without
-- them. `mark_taken` of proofs/Stations.antt proves the first of these laws, and so on.
-- Assumes nothing.
use Rattle.std.specs.Prelude.{◌-◌, ◌≡◌, Bool, false, cond, map}
use Rattle.park_format.specs.Accepted.{Every}
use Rattle.park_format.specs.Park.{Park}
use Rattle.park_format.specs.Rules.{first_broken, has_devices, is_station, KeepsRules, rules_of, wrong_flag}
use Rattle.park_format.specs.declared.site.Site.{Site}

-- a site without the mark, and a park without any
abbrev pub unmarked : Site → Site
unmarked x =
    record {
      power = x.power;
      flag = cond (is_station x) (x.flag - 2) x.flag;
      compensation = x.compensation;
      motors = x.motors;
      discount = x.discount;
    }

abbrev pub without_marks : Park → Park
without_marks p =
    record { header = p.header; sites = map unmarked p.sites; lines = p.lines; generators = p.generators }

-- such a site is no station, and has the devices that it had
pub record Taken (x : Site) : Type 0 where
  pub station : is_station (unmarked x) ≡ false
  pub devices : has_devices (unmarked x) ≡ has_devices x

abbrev pub MarkTaken : Type 0
MarkTaken = (x : Site) → Taken x

-- where no flag breaks 11, the table says the same of the park without marks
abbrev pub RefusedUnmarked : Type 0
RefusedUnmarked =
    (short wrongLength : Bool) (p : Park) → Every (λ (x : Site). wrong_flag p.header.version x.flag ≡ false) p.sites
    → first_broken (rules_of short wrongLength (without_marks p)) ≡ first_broken (rules_of short wrongLength p)

-- and so a park that keeps the rules keeps them without marks
abbrev pub KeptUnmarked : Type 0
KeptUnmarked = (p : Park) → KeepsRules p → KeepsRules (without_marks p)
