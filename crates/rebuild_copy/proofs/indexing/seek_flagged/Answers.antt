use Rattle.std.proofs.Common.{sym, arith}
use Rattle.rebuild_select.proofs.sought.NameLaws.{all_sought, sought_stays}
use Rattle.rebuild_copy.proofs.indexing.seek_flagged.Goals as goal

pub loop-change-init : goal.loop-change-init
loop-change-init c = ((λ k d below. absurd (omega (arith, below))), (λ q had. had))

pub loop-change-preserved : goal.loop-change-preserved
loop-change-preserved c = (
  all_sought c.loop-change.sought c.add.new.self c.as_slice.result.now c.in-Ok.ensures.ok
      (λ n. n.name) c.args.changes.now c.loop-change.change-index c.change-item.result
      c.loop-change-test.true c.change-item.is (sym c.as_slice.ensures)
      c.loop-change.invariant.0,
  (λ q had. sought_stays c.loop-change.sought c.add.new.self c.as_slice.result.now
      c.in-Ok.ensures.ok q (c.loop-change.invariant.1 q had)),
)

pub returns-clause-sought : goal.returns-clause-sought
returns-clause-sought c = λ k d below.
    c.loop-change.invariant.0 k d (omega (arith, below, c.loop-change-test.false))

pub returns-clause-kept : goal.returns-clause-kept
returns-clause-kept c = c.loop-change.invariant.1
