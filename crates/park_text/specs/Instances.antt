-- What the laws say of one site of a park, of one site of an accepted file, and of one refused file. The entries of the list of cases say it besides, so
-- that a law which says less no longer proves them. `site_laws` of proofs/Instances.antt is the proof for a site, and so on.
-- Assumes nothing.
use Rattle.std.specs.Prelude.{ℕ, ◌+◌, min, ◌≡◌, true, false, List, [], ◌∷◌}
use Rattle.std.proofs.Math.Option.{Option}
use Rattle.park_format.specs.Accepted.{Every}
use Rattle.park_format.specs.First.{first_rules}
use Rattle.park_format.specs.Park.{generators_at, header_of, Park, park_of}
use Rattle.park_format.specs.Rules.{first_broken, has_devices, has_wrong_length, is_short, is_station, KeepsRules, rules_of, says_devices, wrong_flag}
use Rattle.park_format.specs.Stations.{Taken, without_marks}
use Rattle.park_format.specs.declared.generator.Generator.{Generator}
use Rattle.park_format.specs.declared.site.Site.{Site}
use Rattle.park_charge.specs.Flow.{tangent}
use Rattle.park_bill.specs.Bill.{active_net, bill, Nothing, own_net, reactive_net, site_record, touching}
use Rattle.park_bill.specs.ByReason.{bill_by_reason, due_at, struck, with_money}
use Rattle.park_bill.specs.ByTable.{bill_by_table}
use Rattle.park_bill.specs.First.{bill_by, line_bill}
use Rattle.park_bill.specs.Former.{former_bill, with_tangent}
use Rattle.park_bill.specs.Stations.{bill_without_stations, consumption_alone}

-- site k of a park: what R-4 to R-8 of 02 changed of its bill, and step 7
pub record SiteLaws (p : Park) (k : ℕ) : Type 0 where
  pub only_tangent : with_tangent (min (bill p k).tg 2_000) (bill p k) ≡ former_bill p k
  pub shown_tangent : (bill p k).tg ≡ tangent (active_net (touching k p)) (reactive_net (touching k p))
  pub without_generators : generators_at k p.generators ≡ [] → bill p k ≡ line_bill p k
  pub with_generators : (g : Generator) (gs : List Generator) → generators_at k p.generators ≡ g ∷ gs → bill p k ≡ bill_by own_net p k
  pub by_table : bill_by_table p k ≡ bill p k
  pub only_money : bill p k ≡ with_money (bill p k) (bill_by_reason p k)
  pub only_struck : bill p k ≡ struck (due_at p k) (site_record p k).discount (bill_by_reason p k)
  pub both_due : (due_at p k).consumption ≡ true → (due_at p k).generation ≡ true → bill p k ≡ bill_by_reason p k
  pub no_money : ((bill p k).reason ≡ 0 → ⊥) → Nothing (bill p k)
  pub taken : Taken (site_record p k)
  pub station : is_station (site_record p k) ≡ true → bill p k ≡ consumption_alone (site_record p k).discount (bill (without_marks p) k)
  pub unmarked : is_station (site_record p k) ≡ false → bill p k ≡ bill (without_marks p) k

-- a site's record in an accepted park: what its flag says, and what follows without devices
pub record FlagLaws (x : Site) : Type 0 where
  pub beside : wrong_flag 2 (2 + x.flag) ≡ wrong_flag 1 x.flag
  pub devices : says_devices (2 + x.flag) ≡ says_devices x.flag
  pub without_devices : has_devices x ≡ false → (x.compensation ≡ 0) × (x.motors ≡ 0)

-- site k of an accepted file
pub record AcceptedLaws (file : List ℕ) (k : ℕ) : Type 0 where
  pub site : SiteLaws (park_of file) k
  pub flag : FlagLaws (site_record (park_of file) k)
  pub generators : Every (λ (g : Generator). has_devices (site_record (park_of file) g.site) ≡ true) (park_of file).generators
  pub kept_unmarked : KeepsRules (without_marks (park_of file))
  pub others_pay : is_station (site_record (park_of file) k) ≡ false → bill (park_of file) k ≡ bill_without_stations (park_of file) k
  pub first_pay : (header_of file).version ≡ 1 → bill (park_of file) k ≡ bill_without_stations (park_of file) k

-- a file with that refusal: version 1 was refused so, and so is the park without marks where no flag breaks 11
pub record RefusedLaws (file : List ℕ) (refused : Option (ℕ × ℕ)) : Type 0 where
  pub first : (header_of file).version ≡ 1 → first_broken (first_rules (is_short file) (has_wrong_length file) (park_of file)) ≡ refused
  pub unmarked : Every (λ (x : Site). wrong_flag (park_of file).header.version x.flag ≡ false) (park_of file).sites → first_broken (rules_of (is_short file) (has_wrong_length file) (without_marks (park_of file))) ≡ refused
