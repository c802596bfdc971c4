use Rattle.std.proofs.Common.{◌-◌, ◌+◌, ℕ, length, get_or, set, ap, ◌∙◌, arith}
use Rattle.hash_order.proofs.IndexLaws.{begun_new, more_new, all_new, stored_below}
use Rattle.hash_order.proofs.indexes.fill_indexes.Goals as goal

pub loop-done-init : goal.loop-done-init
loop-done-init c =
    begun_new c.args.order.now _ c.args.indexes.now (omega arith) c.requires.old

pub loop-done-preserved : goal.loop-done-preserved
loop-done-preserved c =
    more_new c.args.order.now (length c.args.order.now - c.loop-done.done)
    (length c.args.order.now - (c.loop-done.done + 1)) c.number_at-old.result c.loop-done.indexes
    c.set_number.new.words (omega (arith, c.loop-done-test.true, c.len-count.ensures))
    (omega (arith, c.loop-done-test.true, c.len-count.ensures))
    (c.number_at-old.ensures ∙ ap (λ (k : ℕ). get_or c.args.order.now k 0)
    (omega (arith, c.loop-done-test.true, c.len-count.ensures)))
    (stored_below c.args.order.now _ c.number_at-old.result c.number_at-old.ensures
    (omega (arith, c.loop-done-test.true, c.len-count.ensures)) c.requires.below)
    (c.set_number.ensures ∙ ap (λ (n : ℕ). set c.loop-done.indexes c.number_at-old.result n)
    (omega (arith, c.loop-done-test.true, c.len-count.ensures)))
    c.loop-done.invariant

pub set_number-requires-clause-there : goal.set_number-requires-clause-there
set_number-requires-clause-there c =
    let below = stored_below c.args.order.now _ c.number_at-old.result c.number_at-old.ensures
    (omega (arith, c.loop-done-test.true, c.len-count.ensures)) c.requires.below in
    omega (arith, below, c.loop-done.invariant.long)

pub returns : goal.returns
returns c =
    all_new c.args.order.now _ c.loop-done.indexes
    (omega (arith, c.loop-done-test.false, c.len-count.ensures)) c.loop-done.invariant
