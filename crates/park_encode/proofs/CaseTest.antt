-- The cases, by computing.
-- Assumes nothing.
use mathlib.Core.Path.{refl}
use Rattle.park_format.specs.Made.{bytes_for, bytes_of, file_of, joined}
use Rattle.park_format.specs.Park.{list_of, select}
use Rattle.park_format.specs.Rules.{each, first_broken, header_rules, input_rules, line_rules, most_hours, rules_with, site_rules}
use Rattle.park_encode.specs.Cases.{ListCases}
use Rattle.park_encode.specs.Encode.{list_refusal, list_rules}
use Rattle.park_encode.specs.Numbers.{list_header, list_line, list_park, list_site}

pub list_cases : ListCases
unfolding bytes_for bytes_of each file_of first_broken header_rules input_rules joined line_rules list_header list_line list_of list_park list_refusal list_rules list_site most_hours rules_with select site_rules
list_cases =
    record {
      alder = refl;
      mixed = refl;
      bytes = refl;
      none = refl;
      four = refl;
      month13 = refl;
      five = refl;
      short = refl;
      long = refl;
      month = refl;
      sites = refl;
      lines = refl;
      hours = refl;
      flag = refl;
      compensation = refl;
      motors = refl;
      discount = refl;
      from = refl;
      to = refl;
      mark = refl;
      eerp = refl;
      flag2 = refl;
      flag3 = refl;
      flag2_alone = refl;
      mark8 = refl;
      mark9 = refl;
      mark10 = refl;
      mark11 = refl;
      mark14 = refl;
      mark15 = refl;
      above = refl;
      network = refl;
      itself = refl;
      backwards = refl;
      two_lines = refl;
      back_to_network = refl;
    }
