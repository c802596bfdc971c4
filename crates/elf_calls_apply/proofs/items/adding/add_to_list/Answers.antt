use Rattle.std.proofs.Common.{◌<◌, arith, length, get_or, ap}
use Rattle.elf_calls_apply.proofs.AddLaws.{one_more}
use Rattle.elf_calls_apply.proofs.items.adding.add_to_list.Goals as goal

pub loop-item-preserved : goal.loop-item-preserved
loop-item-preserved g c =
    let i = c.loop-item.item-index in
    let items = c.as_mut_slice-item-items.result.now in
    let within : i < length items = omega (arith, c.loop-item-test.true, c.loop-item.auto.item-items) in
    let there = c.loop-item.item-items in
    one_more (g.T.Adds.plus c.args.n) items there i _ _ within c.loop-item.invariant (ap (λ x. get_or there i x) c.item-item.is) c.add.ensures
