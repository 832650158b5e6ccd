use Rattle.std.proofs.Common.{ℕ, ◌≡◌}
use Rattle.park_format.specs.Park.{no_site, Park}
use Rattle.park_format.specs.Rules.{site_rules}
use Rattle.park_format.specs.declared.header.Header.{Header}
use Rattle.park_format.proofs.Rules.{rest_from}
use Rattle.park_format.proofs.records.check_sites.Given as goal

-- what the sites break first is broken first from site k on
pub record Reached (p : Park) (header : Header) (k : ℕ) : Type 0 where
  pub its : header ≡ p.header
  pub sound : rest_from (site_rules p.header) no_site p.sites k ≡ rest_from (site_rules p.header) no_site p.sites 0

abbrev pub invariant-loop-k : goal.invariant-loop-k
invariant-loop-k g l = Reached (g.R.Records.park l.records) l.header l.k
