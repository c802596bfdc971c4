use Rattle.std.proofs.Common.{arith}
use Rattle.hash_order.proofs.CheckLaws.{count_is}
use Rattle.hash_order.proofs.StoringLaws.{none_stored, some_left, last_ready, more_stored, all_stored}
use Rattle.hash_order.proofs.storing.store_sections.Goals as goal

pub loop-n-init : goal.loop-n-init
loop-n-init g c = (
  c.requires.long,
  none_stored g.S.Source c.args.elf.now c.args.plan.now.items c.requires.long c.requires.ready,
)

pub store_last-requires-clause-some : goal.store_last-requires-clause-some
store_last-requires-clause-some g c =
    let count = count_is c.shnum-shnum.result _ c.shnum-shnum.ensures in
    some_left g.S.Source c.args.elf.now c.args.plan.now.items c.loop-n.invariant.0 c.loop-n.n
    c.loop-n.plan.items c.loop-n.elf (omega (arith, count, c.loop-n-test.true))
    c.loop-n.invariant.1

pub store_last-requires-clause-ready : goal.store_last-requires-clause-ready
store_last-requires-clause-ready g c =
    let count = count_is c.shnum-shnum.result _ c.shnum-shnum.ensures in
    last_ready g.S.Source c.args.elf.now c.args.plan.now.items c.loop-n.invariant.0 c.loop-n.n
    c.loop-n.plan.items c.loop-n.elf (omega (arith, count, c.loop-n-test.true))
    c.loop-n.invariant.1

pub loop-n-preserved : goal.loop-n-preserved
loop-n-preserved g c =
    let count = count_is c.shnum-shnum.result _ c.shnum-shnum.ensures in (
      c.loop-n.invariant.0,
      more_stored g.S.Source c.args.elf.now c.args.plan.now.items c.loop-n.invariant.0 c.loop-n.n
          c.loop-n.plan.items c.loop-n.elf (omega (arith, count, c.loop-n-test.true))
          c.loop-n.invariant.1 c.store_last.new.plan.items c.store_last.new.elf
          c.store_last.ensures.plan c.store_last.ensures.stores,
    )

pub returns : goal.returns
returns g c =
    let count = count_is c.shnum-shnum.result _ c.shnum-shnum.ensures in
    all_stored g.S.Source c.args.elf.now c.args.plan.now.items c.loop-n.invariant.0 c.loop-n.n
    c.loop-n.plan.items c.loop-n.elf (omega (arith, count, c.loop-n-test.false))
    c.loop-n.invariant.1
