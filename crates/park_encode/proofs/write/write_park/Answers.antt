use Rattle.std.proofs.Common.{◌≡◌, arith}
use Rattle.park_format.proofs.Sizes.{header_sizes, line_sizes, line_within}
use Rattle.park_encode.proofs.Written.{first_version, no_lines, no_sites, one_line, one_site, park_stored, sized}
use Rattle.park_encode.proofs.write.write_park.Goals as goal

pub write-requires : goal.write-requires
write-requires c =
    let list = c.args.list.now in
    let room = sized list.numbers.now c.header-header.ensures list.its list.counted c.requires in
    (first_version list.numbers.now c.header-header.ensures, omega (arith, room.size, header_sizes c.header-header.result.version))

pub loop-k-init : goal.loop-k-init
loop-k-init c = no_sites _ _ _

pub write-requires-in-loop-k : goal.write-requires-in-loop-k
write-requires-in-loop-k c =
    let list = c.args.list.now in
    let room = sized list.numbers.now c.header-header.ensures list.its list.counted c.requires in
    omega (arith, c.site_start.ensures.start, c.loop-k-test.true, c.loop-k.auto.file, c.write.ensures.size, room.size)

pub loop-k-preserved : goal.loop-k-preserved
loop-k-preserved c =
    one_site c.args.list.now.numbers.now c.header-header.ensures c.loop-k.k c.site_start.ensures.start c.site.ensures c.loop-k.invariant c.write-in-loop-k.ensures

pub loop-i-init : goal.loop-i-init
loop-i-init c = no_lines _ _ _

pub line_start-requires : goal.line_start-requires
line_start-requires c =
    let list = c.args.list.now in
    let room = sized list.numbers.now c.header-header.ensures list.its list.counted c.requires in
    (room.sites, omega (arith, c.loop-i-test.true, room.lines))

pub write-requires-in-loop-i : goal.write-requires-in-loop-i
write-requires-in-loop-i c =
    let list = c.args.list.now in
    let room = sized list.numbers.now c.header-header.ensures list.its list.counted c.requires in
    omega (arith, c.line_start.ensures.start, line_within room c.loop-i-test.true, line_sizes c.header-header.result.version, c.loop-i.auto.file, c.loop-k.auto.file, c.write.ensures.size)

pub loop-i-preserved : goal.loop-i-preserved
loop-i-preserved c =
    one_line c.args.list.now.numbers.now c.header-header.ensures c.loop-i.i c.line_start.ensures.start c.line.ensures c.loop-i.invariant c.write-in-loop-i.ensures

pub returns : goal.returns
returns c =
    let h = c.header-header.result in
    let sites : c.loop-k.k ≡ h.sites = omega (arith, c.loop-k-test.false, c.loop-k.auto.k-end) in
    let lines : c.loop-i.i ≡ h.lines = omega (arith, c.loop-i-test.false, c.loop-i.auto.i-end) in
    park_stored c.args.list.now.numbers.now c.header-header.ensures c.write.ensures (rw sites at c.loop-k.invariant) (rw lines at c.loop-i.invariant)
