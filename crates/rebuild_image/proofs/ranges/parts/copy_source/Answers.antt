use Rattle.std.proofs.Common.{length, arith}
use Rattle.rebuild_image.proofs.ranges.RangeLaws.{bytes_long, told_source_copied, read_copies}
use Rattle.rebuild_image.proofs.ranges.parts.copy_source.Goals as goal

pub read-requires : goal.read-requires
read-requires g c =
    let long = bytes_long (g.S.Source.holds c.args.src.now) (g.S.Source.size c.args.src.now)
    (g.met.S.Source.sized c.args.src.now) in
    omega (arith, long, c.requires)

pub returns-clause-bytes : goal.returns-clause-bytes
returns-clause-bytes g c =
    told_source_copied (g.S.Source.holds c.args.src.now) (g.S.Source.size c.args.src.now)
    c.read.result c.args.at (length c.args.buf.now) c.read.new.buf c.read.ensures.bytes

pub returns-clause-copies : goal.returns-clause-copies
returns-clause-copies g c =
    read_copies g.S.Source c.read.result c.args.src.now c.read.new.src (length c.args.buf.now)
    c.read.ensures.asks
