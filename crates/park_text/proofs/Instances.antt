-- The laws, of one site and of one file.
-- Assumes nothing.
use Prim.Native.Nat.{ℕ, ◌-◌}
use mathlib.Core.Path.{◌≡◌, refl, sym, ◌∙◌}
use mathlib.Core.Bool.{false}
use mathlib.Core.List.{List}
use mathlib.Core.Option.{Option}
use Rattle.park_format.proofs.Accepted.{kept}
use Rattle.park_format.proofs.First.{first_flags, first_refused}
use Rattle.park_format.proofs.Headed.{accepted_keeps}
use Rattle.park_format.proofs.Lists.{Every-get_or, every_map}
use Rattle.park_format.proofs.Stations.{kept_unmarked, mark_taken, refused_unmarked}
use Rattle.park_format.specs.Accepted.{KeptGenerator, KeptSite}
use Rattle.park_format.specs.Park.{no_site, Park, park_of}
use Rattle.park_format.specs.Rules.{file_rules, first_broken, has_devices, has_wrong_length, IsAccepted, is_short, refusal, rules_of}
use Rattle.park_format.specs.declared.site.Site.{Site}
use Rattle.park_bill.proofs.ByReason.{both_due, only_money, only_struck}
use Rattle.park_bill.proofs.ByTable.{same_bill_by_table}
use Rattle.park_bill.proofs.First.{with_generators, without_generators}
use Rattle.park_bill.proofs.Former.{only_tangent, shown_tangent}
use Rattle.park_bill.proofs.Money.{no_money}
use Rattle.park_bill.proofs.Stations.{first_pay, others_pay, station_bills, unmarked_bills}
use Rattle.park_bill.specs.Bill.{site_record}
use Rattle.park_text.specs.Instances.{AcceptedLaws, FlagLaws, RefusedLaws, SiteLaws}

pub site_laws : (p : Park) (k : ℕ) → SiteLaws p k
site_laws p k =
    record {
      only_tangent = only_tangent p k;
      shown_tangent = shown_tangent p k;
      without_generators = without_generators p k;
      with_generators = with_generators p k;
      by_table = same_bill_by_table p k;
      only_money = only_money p k;
      only_struck = only_struck p k;
      both_due = both_due p k;
      no_money = no_money p k;
      taken = mark_taken (site_record p k);
      station = station_bills p k;
      unmarked = unmarked_bills p k;
    }

module _ (file : List ℕ) (accepted : IsAccepted file) (k : ℕ) where
  abbrev p : Park
  p = park_of file

  without_devices : has_devices (site_record p k) ≡ false → ((site_record p k).compensation ≡ 0) × ((site_record p k).motors ≡ 0)
  without_devices =
      Every-get_or (λ (x : Site). has_devices x ≡ false → (x.compensation ≡ 0) × (x.motors ≡ 0)) no_site (λ _. (refl, refl)) p.sites
      (every_map (KeptSite p.header) _ (λ x kept. kept.without_devices) p.sites (kept file accepted).sites) (k - 1)

  flag_laws : FlagLaws (site_record p k)
  flag_laws =
      record {
        beside = first_flags.beside (site_record p k).flag;
        devices = first_flags.devices (site_record p k).flag;
        without_devices = without_devices;
      }

  pub accepted_laws : AcceptedLaws file k
  accepted_laws =
      record {
        site = site_laws p k;
        flag = flag_laws;
        generators = every_map (KeptGenerator p.header p.sites) _ (λ g kept. kept.devices) p.generators (kept file accepted).generators;
        kept_unmarked = kept_unmarked p (accepted_keeps file accepted);
        others_pay = others_pay file accepted k;
        first_pay = λ first. first_pay file accepted first k;
      }

as_rules : (file : List ℕ) → first_broken (rules_of (is_short file) (has_wrong_length file) (park_of file)) ≡ refusal file
unfolding refusal file_rules
as_rules file = refl

pub refused_laws : (file : List ℕ) {refused : Option (ℕ × ℕ)} → refusal file ≡ refused → RefusedLaws file refused
refused_laws file e =
    record {
      first = λ first. sym (first_refused file first) ∙ e;
      unmarked = λ flags. refused_unmarked (is_short file) (has_wrong_length file) (park_of file) flags ∙ as_rules file ∙ e;
    }
