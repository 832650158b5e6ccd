-- A park that keeps the rules fits a file: no limit is above what the field's width can hold.
-- Assumes nothing.
use Prim.Native.Nat.{ℕ, ◌-◌, ◌≤◌, ◌<◌, ◌^◌, zero-le}
use native.Mathlib.Omega.{arith}
use mathlib.Core.Path.{◌≡◌}
use mathlib.Core.Bool.{Bool, true, false, cond}
use mathlib.Core.List.{List, [], ◌∷◌}
use lib.Dec.{lit≤}
use lib.ListN.{get_or}
use Rattle.park_format.specs.Accepted.{Kept, KeptGenerator, KeptHeader, KeptLine, KeptSite}
use Rattle.park_format.specs.Format.{generator_widths, header_widths, later, line_widths, site_widths}
use Rattle.park_format.specs.Limits.{longest_month, months, most_flag, most_mark, most_sites}
use Rattle.park_format.specs.Made.{Fits, FitsFile, Lacking, generator_numbers, header_numbers, line_numbers, site_numbers}
use Rattle.park_format.specs.Park.{Park}
use Rattle.park_format.specs.Rules.{month_hours, most_hours, zero_or_above}
use Rattle.park_format.specs.declared.generator.Generator.{Generator}
use Rattle.park_format.specs.declared.header.Header.{Header}
use Rattle.park_format.specs.declared.line.Line.{Line}
use Rattle.park_format.specs.declared.site.Site.{Site}
use Rattle.park_format.proofs.Lists.{Every-get_or, every_map}
use Rattle.park_format.proofs.Sizes.{by_version}

-- no month has more hours than the longest
pub most_hours_le : (month : ℕ) → most_hours month ≤ longest_month
unfolding most_hours
most_hours_le month = by (zero_or_above months month)
  where
    by : (b : Bool) → cond b 0 (get_or month_hours (month - 1) 0) ≤ longest_month
    by true = zero-le
    by false =
        Every-get_or (λ (h : ℕ). h ≤ longest_month) 0 zero-le month_hours
        (lit≤ tt, (lit≤ tt, (lit≤ tt, (lit≤ tt, (lit≤ tt, (lit≤ tt, (lit≤ tt, (lit≤ tt, (lit≤ tt, (lit≤ tt, (lit≤ tt, (lit≤ tt, tt))))))))))))
        (month - 1)

-- a field that only versions after the first have
later_fits : (version w n : ℕ) → n < 256 ^ w → Fits (later version (w ∷ [])) (later version (n ∷ []))
later_fits version w n h = by_version (λ (b : Bool). Fits (cond b [] (w ∷ [])) (cond b [] (n ∷ []))) tt (h, tt) version

header_fits : (size : ℕ) (h : Header) → KeptHeader size h → Fits (header_widths h.version) (header_numbers h.version h)
header_fits size h k =
    let hours = most_hours_le h.month in
    (omega (arith, k.mark), (omega (arith, k.version), (omega (arith, k.month), (omega (arith, k.sites), (omega (arith, k.lines), (omega (arith, k.price), (omega (arith, k.hours, hours), later_fits h.version 1 h.generators (omega (arith, k.generators)))))))))

pub flags_few : (version : ℕ) → most_flag version ≤ 3
flags_few = by_version (λ (b : Bool). cond b 1 3 ≤ 3) (lit≤ tt) (lit≤ tt)

site_fits : (h : Header) (x : Site) → KeptSite h x → Fits site_widths (site_numbers x)
site_fits h x k =
    (omega (arith, k.power), (omega (arith, k.flag, flags_few h.version), (omega (arith, k.compensation), (omega (arith, k.motors), (omega (arith, k.discount), tt)))))

marks_few : (version : ℕ) → most_mark version ≤ 15
marks_few = by_version (λ (b : Bool). cond b 7 15 ≤ 15) (lit≤ tt) (lit≤ tt)

line_fits : (h : Header) → h.sites ≤ most_sites → (l : Line) → KeptLine h l → Fits (line_widths h.version) (line_numbers h.version l)
line_fits h few l k =
    (omega (arith, k.from), (omega (arith, k.to), (omega (arith, k.meters, marks_few h.version), (omega (arith, k.eerp), (omega (arith, k.active), (omega (arith, k.reactive), (omega (arith, k.generated), (omega (arith, k.night), later_fits h.version 4 l.produced (omega (arith, k.produced))))))))))

generator_fits : (h : Header) (sites : List Site) → h.sites ≤ most_sites → (g : Generator) → KeptGenerator h sites g → Fits generator_widths (generator_numbers g)
generator_fits h sites few g k = (omega (arith, k.site), (omega (arith, k.output), tt))

pub kept_fits : (size : ℕ) (p : Park) → Kept size p → (p.header.version ≡ 1 → Lacking p) → FitsFile p
kept_fits size p k lacking =
    let h = p.header in
    let few = k.header.sites.1 in
    record {
      site_count = k.site_count;
      line_count = k.line_count;
      generator_count = k.generator_count;
      header = header_fits size h k.header;
      sites = every_map (KeptSite h) _ (site_fits h) p.sites k.sites;
      lines = every_map (KeptLine h) _ (line_fits h few) p.lines k.lines;
      generators = every_map (KeptGenerator h p.sites) _ (generator_fits h p.sites few) p.generators k.generators;
      first = lacking;
    }
