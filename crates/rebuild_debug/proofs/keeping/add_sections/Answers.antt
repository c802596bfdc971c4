use Rattle.std.proofs.Common.{arith}
use Rattle.rebuild_object.proofs.elf_update_plan.RowLaws.{ok_is}
use Rattle.rebuild_debug.proofs.KeepLaws.{halves_none, halves_more, halves_stop, halves_all}
use Rattle.rebuild_debug.proofs.keeping.add_sections.Goals as goal

pub loop-s-init : goal.loop-s-init
loop-s-init g c = halves_none c.args.elf.now c.args.contents.now c.requires.first
    c.requires.read

pub add_section-requires-clause-there : goal.add_section-requires-clause-there
add_section-requires-clause-there g c =
    let count = ok_is _ _ c.shnum-s-end.ensures in
    omega (arith, count, c.loop-s-test.true)

pub loop-s-preserved : goal.loop-s-preserved
loop-s-preserved g c =
    let first = c.loop-s.auto.s in
    let count = ok_is _ _ c.shnum-s-end.ensures in
    halves_more c.args.elf.now c.loop-s.contents c.loop-s.s c.loop-s.invariant
    (omega (arith, first)) (omega (arith, count, c.loop-s-test.true))
    c.add_section.new.contents c.in-Ok.ensures

pub returns-in-Err : goal.returns-in-Err
returns-in-Err g c =
    let first = c.loop-s.auto.s in
    let count = ok_is _ _ c.shnum-s-end.ensures in
    halves_stop c.args.elf.now c.loop-s.contents c.loop-s.s c.loop-s.invariant
    (omega (arith, first)) (omega (arith, count, c.loop-s-test.true)) c.in-Err.e
    c.add_section.new.contents _ c.in-Err.ensures

pub returns : goal.returns
returns g c =
    let count = ok_is _ _ c.shnum-s-end.ensures in
    halves_all c.args.elf.now c.loop-s.contents c.loop-s.s c.loop-s.invariant
    (omega (arith, count, c.loop-s-test.false))
