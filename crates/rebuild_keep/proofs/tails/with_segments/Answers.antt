use Rattle.std.proofs.Common.{arith}
use Rattle.elf_update_plan.proofs.RowLaws.{ok_is}
use Rattle.rebuild_keep.proofs.EndLaws.{segments_begin, segments_more, segments_all}
use Rattle.rebuild_keep.proofs.tails.with_segments.Goals as goal

pub loop-i-init : goal.loop-i-init
loop-i-init g c =
    segments_begin c.args.end c.args.elf.now.o.phdrs (omega (arith, c.ranges.end))

pub phdr_at-requires : goal.phdr_at-requires
phdr_at-requires g c =
    let count = ok_is _ _ c.phnum-i-end.ensures in omega (arith, count, c.loop-i-test.true)

pub loop-i-preserved : goal.loop-i-preserved
loop-i-preserved g c =
    let count = ok_is _ _ c.phnum-i-end.ensures in
    segments_more c.args.end c.loop-i.i c.loop-i.reached c.segment_end.result c.max-reached.result
    c.phdr_at.result c.phdr_at.result c.args.elf.now.o.phdrs
    (omega (arith, count, c.loop-i-test.true)) c.phdr_at.ensures c.segment_end.ensures
    c.max-reached.ensures c.loop-i.invariant

pub returns : goal.returns
returns g c =
    let count = ok_is _ _ c.phnum-i-end.ensures in
    segments_all c.args.end c.loop-i.i c.loop-i.reached c.args.elf.now.o.phdrs
    (omega (arith, count, c.loop-i-test.false)) c.loop-i.invariant
