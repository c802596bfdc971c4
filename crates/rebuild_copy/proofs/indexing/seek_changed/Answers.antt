use Rattle.std.proofs.Common.{sym, arith}
use Rattle.rebuild_select.proofs.sought.NameLaws.{all_sought}
use Rattle.rebuild_copy.proofs.indexing.seek_changed.Goals as goal

pub loop-change-init : goal.loop-change-init
loop-change-init c = λ k d below. absurd (omega (arith, below))

pub loop-change-preserved : goal.loop-change-preserved
loop-change-preserved c =
    all_sought c.loop-change.sought c.add.new.self c.as_slice.result.now c.in-Ok.ensures.ok
    (λ n. n.name) c.args.changes.now c.loop-change.change-index c.change-item.result
    c.loop-change-test.true c.change-item.is (sym c.as_slice.ensures) c.loop-change.invariant

pub returns-clause-sought : goal.returns-clause-sought
returns-clause-sought c = λ k d below.
    c.loop-change.invariant k d (omega (arith, below, c.loop-change-test.false))
