use Rattle.std.proofs.Common.{ℕ, ap, ◌∙◌}
use Rattle.park_format.specs.Park.{line_at}
use Rattle.park_format.proofs.Entries.{inside_lines, line_inside, line_read, roomy, same_version}
use Rattle.park_format.proofs.laid.LaidRecords.line.Goals as goal

pub line_start-requires : goal.line_start-requires
line_start-requires g c =
    let room = roomy c.args.self.now.bytes.now c.args.self.now.its c.args.self.now.sized c.header.ensures in
    (room.sized.sites, inside_lines c.args.self.now.bytes.now room c.requires)

pub read-requires-clause-within : goal.read-requires-clause-within
read-requires-clause-within g c =
    let room = roomy c.args.self.now.bytes.now c.args.self.now.its c.args.self.now.sized c.header.ensures in
    let inside = line_inside c.args.self.now.bytes.now room c.args.i c.line_start.result c.requires c.line_start.ensures.start in
    let same = same_version c.args.self.now.bytes.now c.args.self.now.its c.args.self.now.version room in
    rw same inside.0

pub read-requires-clause-first : goal.read-requires-clause-first
read-requires-clause-first g c =
    let room = roomy c.args.self.now.bytes.now c.args.self.now.its c.args.self.now.sized c.header.ensures in
    (line_inside c.args.self.now.bytes.now room c.args.i c.line_start.result c.requires c.line_start.ensures.start).1

pub returns : goal.returns
returns g c =
    let room = roomy c.args.self.now.bytes.now c.args.self.now.its c.args.self.now.sized c.header.ensures in
    let same = same_version c.args.self.now.bytes.now c.args.self.now.its c.args.self.now.version room in
    line_read c.args.self.now.bytes.now room c.args.i c.line_start.result c.requires c.line_start.ensures.start
    (c.read.ensures ∙ ap (λ (v : ℕ). line_at v c.args.self.now.bytes.now c.line_start.result) same)
