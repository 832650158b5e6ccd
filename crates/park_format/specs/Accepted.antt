-- What an accepted file guarantees: each rule of the table, turned round, of the header, of each site, line and generator, and of the park.
-- That no file is shorter than a header (1) follows from its length (9).
-- Assumes nothing.
use Rattle.std.specs.Prelude.{ℕ, ◌-◌, ◌≤◌, ◌<◌, ◌≡◌, true, false, List, [], ◌∷◌, get_or, length}
use Rattle.park_format.specs.Limits.{latest_version, months, most_discount, most_eerp, most_flag, most_generators, most_installed, most_lines, most_mark, most_power, most_price, most_reading, most_sites}
use Rattle.park_format.specs.Park.{Park, inputs, no_site, park_of}
use Rattle.park_format.specs.Rules.{IsAccepted, has_devices, park_mark, most_hours, size_of, measures_reactive, measures_generated, measures_night, measures_produced, is_empty}
use Rattle.park_format.specs.declared.header.Header.{Header}
use Rattle.park_format.specs.declared.site.Site.{Site}
use Rattle.park_format.specs.declared.line.Line.{Line}
use Rattle.park_format.specs.declared.generator.Generator.{Generator}

-- 2 to 9 and 25
pub record KeptHeader (bytes : ℕ) (h : Header) : Type 0 where
  pub mark : h.mark ≡ park_mark
  pub version : (1 ≤ h.version) × (h.version ≤ latest_version)
  pub month : (1 ≤ h.month) × (h.month ≤ months)
  pub sites : (1 ≤ h.sites) × (h.sites ≤ most_sites)
  pub lines : (1 ≤ h.lines) × (h.lines ≤ most_lines)
  pub price : (1 ≤ h.price) × (h.price ≤ most_price)
  pub hours : h.hours ≤ most_hours h.month
  pub generators : h.generators ≤ most_generators
  pub size : bytes ≡ size_of h

-- 10 to 13, in a park with that header
pub record KeptSite (h : Header) (x : Site) : Type 0 where
  pub power : (1 ≤ x.power) × (x.power ≤ most_power)
  pub flag : x.flag ≤ most_flag h.version
  pub compensation : x.compensation ≤ most_installed
  pub motors : x.motors ≤ most_installed
  pub without_devices : has_devices x ≡ false → (x.compensation ≡ 0) × (x.motors ≡ 0)
  pub discount : x.discount ≤ most_discount

-- 14, 23, 24 and 15 to 18, in a park with that header
pub record KeptLine (h : Header) (l : Line) : Type 0 where
  pub from : l.from ≤ h.sites
  pub to : l.to ≤ h.sites
  pub not_both_network : l.from ≡ 0 → l.to ≡ 0 → ⊥
  pub forward : (l.from ≡ 0 → ⊥) → (l.to ≡ 0 → ⊥) → l.from < l.to
  pub meters : l.meters ≤ most_mark h.version
  pub night_generated : measures_night l.meters ≡ true → measures_generated l.meters ≡ true
  pub eerp : (1 ≤ l.eerp) × (l.eerp ≤ most_eerp)
  pub active : l.active ≤ most_reading
  pub reactive : l.reactive ≤ most_reading
  pub generated : l.generated ≤ most_reading
  pub night : l.night ≤ most_reading
  pub produced : l.produced ≤ most_reading
  pub unmetered_reactive : measures_reactive l.meters ≡ false → l.reactive ≡ 0
  pub unmetered_generated : measures_generated l.meters ≡ false → l.generated ≡ 0
  pub unmetered_night : measures_night l.meters ≡ false → l.night ≡ 0
  pub unmetered_produced : measures_produced l.meters ≡ false → l.produced ≡ 0
  pub night_within : l.night ≤ l.generated

-- 26 and 27, in a park with that header and those sites
pub record KeptGenerator (h : Header) (sites : List Site) (g : Generator) : Type 0 where
  pub site : (1 ≤ g.site) × (g.site ≤ h.sites)
  pub devices : has_devices (get_or sites (g.site - 1) no_site) ≡ true
  pub output : g.output ≤ most_reading

-- what holds of each value of a list
abbrev pub Every {ℓ} : {A : Type ℓ} → (A → Type 0) → List A → Type 0
Every P [] = Unit {0}
Every P (x ∷ xs) = P x × Every P xs

-- the park as a whole, of a file of that many bytes
pub record Kept (bytes : ℕ) (p : Park) : Type 0 where
  pub header : KeptHeader bytes p.header
  -- the lists are as long as the header says
  pub site_count : length p.sites ≡ p.header.sites
  pub line_count : length p.lines ≡ p.header.lines
  pub generator_count : length p.generators ≡ p.header.generators
  pub sites : Every (KeptSite p.header) p.sites
  pub lines : Every (KeptLine p.header) p.lines
  pub generators : Every (KeptGenerator p.header p.sites) p.generators
  -- 19
  pub fed : (k : ℕ) → 1 ≤ k → k ≤ p.header.sites → is_empty (inputs k p.lines) ≡ false

-- the law that later layers cite; `kept` of proofs/Accepted.antt is its proof
abbrev pub Guarantee : Type 0
Guarantee = (file : List ℕ) → IsAccepted file → Kept (length file) (park_of file)
