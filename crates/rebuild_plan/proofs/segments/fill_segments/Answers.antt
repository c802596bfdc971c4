use Rattle.std.proofs.Common.{arith}
use Rattle.rebuild_tables.proofs.elf_update_plan.RowLaws.{ok_is}
use Rattle.rebuild_plan.proofs.SegmentLaws.{segment_listed, segments_listed}
use Rattle.rebuild_plan.proofs.segments.fill_segments.Goals as goal

pub loop-i-init : goal.loop-i-init
loop-i-init g c = c.requires

pub phdr_at-requires : goal.phdr_at-requires
phdr_at-requires g c =
    let count = ok_is _ _ c.phnum-i-end.ensures in omega (arith, count, c.loop-i-test.true)

pub loop-i-preserved : goal.loop-i-preserved
loop-i-preserved g c =
    let count = ok_is _ _ c.phnum-i-end.ensures in
    segment_listed c.args.elf.now.o.phdrs c.loop-i.phdrs _ c.loop-i.i c.phdr_at.result
    (omega (arith, count, c.loop-i-test.true)) c.phdr_at.ensures c.loop-i.invariant
    c.in_ok-push.ensures.ok

pub returns-clause-ok : goal.returns-clause-ok
returns-clause-ok g c =
    let count = ok_is _ _ c.phnum-i-end.ensures in
    segments_listed c.args.elf.now.o.phdrs c.loop-i.phdrs c.loop-i.i
    (omega (arith, count, c.loop-i-test.false)) c.loop-i.invariant
