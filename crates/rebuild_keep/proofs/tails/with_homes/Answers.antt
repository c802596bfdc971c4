use Rattle.std.proofs.Common.{◌≡◌, length, arith}
use Rattle.elf_update_plan.proofs.RowLaws.{ok_is}
use Rattle.rebuild_keep.proofs.EndLaws.{homes_begin, homes_more, homes_all}
use Rattle.rebuild_keep.proofs.tails.with_homes.Goals as goal

pub loop-s-init : goal.loop-s-init
loop-s-init g c =
    homes_begin c.args.end c.args.elf.now.o c.args.removed.now (omega (arith, c.ranges.end))

pub kept_end-requires : goal.kept_end-requires
kept_end-requires g c =
    let count = ok_is _ _ c.shnum-s-end.ensures in omega (arith, count, c.loop-s-test.true)

pub loop-s-preserved : goal.loop-s-preserved
loop-s-preserved g c =
    homes_more c.args.end c.loop-s.s c.loop-s.reached c.kept_end.result c.max-reached.result
    c.args.elf.now.o c.args.removed.now c.kept_end.ensures c.max-reached.ensures
    c.loop-s.invariant

pub returns : goal.returns
returns g c =
    let count = ok_is _ _ c.shnum-s-end.ensures in
    let all : c.loop-s.s ≡ length c.args.elf.now.o.sections =
    omega (arith, count, c.loop-s-test.false, c.loop-s.auto.s-end) in
    homes_all c.args.end c.loop-s.s c.loop-s.reached c.args.elf.now.o c.args.removed.now all
    c.loop-s.invariant
