use Rattle.std.proofs.Common.{arith}
use Rattle.elf_update_to.proofs.GapLaws.{gap_stops, gap_ends}
use Rattle.elf_update_to.proofs.walks.put_gap.Goals as goal

pub returns-in-Err : goal.returns-in-Err
returns-in-Err g c =
    gap_stops g.P.ImageParts g.K.Sink (g.P.ImageParts.base (g.P.ImageParts.kept c.args.parts.now))
    c.args.ground.kept c.args.ground.fill c.args.from c.args.end c.min.result
    c.min.ensures c.in-Err.e c.args.parts.now c.put_base.new.parts c.args.sink.now
    c.put_base.new.sink c.args.page.now c.put_base.new.page c.in-Err.ensures

pub returns : goal.returns
returns g c =
    gap_ends g.P.ImageParts g.K.Sink (g.P.ImageParts.base (g.P.ImageParts.kept c.args.parts.now))
    c.args.ground.kept c.args.ground.fill c.args.from c.args.end c.min.result
    c.min.ensures c.put_fill.result c.args.parts.now c.put_base.new.parts c.args.sink.now
    c.put_base.new.sink c.put_fill.new.sink c.args.page.now
    c.put_base.new.page c.put_fill.new.page c.saturating_sub.result
    (omega (arith, c.saturating_sub.ensures, c.max-start.ensures)) c.put_fill.ensures.err
    c.in_default.ensures c.put_fill.ensures.flows
