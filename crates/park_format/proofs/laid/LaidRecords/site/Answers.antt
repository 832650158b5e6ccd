use Rattle.park_format.proofs.Entries.{roomy, site_inside, site_read}
use Rattle.park_format.proofs.laid.LaidRecords.site.Goals as goal

pub read-requires : goal.read-requires
read-requires g c =
    let room = roomy c.args.self.now.bytes.now c.args.self.now.its c.args.self.now.sized c.header.ensures in
    site_inside c.args.self.now.bytes.now room c.args.i c.site_start.result c.requires c.site_start.ensures.start

pub returns : goal.returns
returns g c =
    let room = roomy c.args.self.now.bytes.now c.args.self.now.its c.args.self.now.sized c.header.ensures in
    site_read c.args.self.now.bytes.now room c.args.i c.site_start.result c.requires c.site_start.ensures.start c.read.ensures
