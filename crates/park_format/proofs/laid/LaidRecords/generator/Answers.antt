use Rattle.park_format.proofs.Entries.{generator_inside, generator_read, inside_generators, roomy}
use Rattle.park_format.proofs.laid.LaidRecords.generator.Goals as goal

pub generator_start-requires-clause-lines : goal.generator_start-requires-clause-lines
generator_start-requires-clause-lines g c = (roomy c.args.self.now.bytes.now c.args.self.now.its c.args.self.now.sized c.header.ensures).sized.lines

pub generator_start-requires-clause-there : goal.generator_start-requires-clause-there
generator_start-requires-clause-there g c = inside_generators c.args.self.now.bytes.now (roomy c.args.self.now.bytes.now c.args.self.now.its c.args.self.now.sized c.header.ensures) c.requires

pub read-requires : goal.read-requires
read-requires g c =
    let room = roomy c.args.self.now.bytes.now c.args.self.now.its c.args.self.now.sized c.header.ensures in
    generator_inside c.args.self.now.bytes.now room c.args.i c.generator_start.result c.requires c.generator_start.ensures

pub returns : goal.returns
returns g c =
    let room = roomy c.args.self.now.bytes.now c.args.self.now.its c.args.self.now.sized c.header.ensures in
    generator_read c.args.self.now.bytes.now room c.args.i c.generator_start.result c.requires c.generator_start.ensures c.read.ensures
