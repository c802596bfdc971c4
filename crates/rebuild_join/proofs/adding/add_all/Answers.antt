use Rattle.std.proofs.Common.{◌≡◌, length, arith}
use Rattle.rebuild_keep.proofs.elf_update_plan.RowLaws.{ok_is}
use Rattle.rebuild_join.proofs.AddLaws.{none_below, more_below, stop_below, all_below}
use Rattle.rebuild_join.proofs.adding.add_all.Goals as goal

pub loop-s-init : goal.loop-s-init
loop-s-init g c =
    none_below c.args.stripped.now c.args.debug.now c.args.contents.now c.requires.first

pub add_next-requires-clause-taken : goal.add_next-requires-clause-taken
add_next-requires-clause-taken g c = c.loop-s.invariant.count

pub add_next-requires-clause-first : goal.add_next-requires-clause-first
add_next-requires-clause-first g c = let first = c.loop-s.auto.s in omega (arith, first)

pub add_next-requires-clause-there : goal.add_next-requires-clause-there
add_next-requires-clause-there g c =
    let count = ok_is _ _ c.shnum-s-end.ensures in omega (arith, count, c.loop-s-test.true)

pub loop-s-preserved : goal.loop-s-preserved
loop-s-preserved g c =
    let first = c.loop-s.auto.s in
    more_below c.args.stripped.now c.args.debug.now c.loop-s.contents c.add_next.new.contents
    c.loop-s.taken c.loop-s.s (omega (arith, first)) c.loop-s.invariant c.in-Ok.next
    c.in-Ok.ensures

pub returns-in-Err : goal.returns-in-Err
returns-in-Err g c =
    let count = ok_is _ _ c.shnum-s-end.ensures in
    let first = c.loop-s.auto.s in
    stop_below c.args.stripped.now c.args.debug.now c.loop-s.contents c.add_next.new.contents
    c.loop-s.taken c.loop-s.s (omega (arith, first)) c.loop-s.invariant
    (omega (arith, count, c.loop-s-test.true)) c.in-Err.fault c.in-Err.ensures

pub returns : goal.returns
returns g c =
    let count = ok_is _ _ c.shnum-s-end.ensures in
    let all : c.loop-s.s ≡ length c.args.debug.now.o.sections =
    omega (arith, count, c.loop-s-test.false, c.loop-s.auto.s-end, c.requires.some) in
    all_below c.args.stripped.now c.args.debug.now c.loop-s.contents c.loop-s.taken c.loop-s.s all
    c.loop-s.invariant
