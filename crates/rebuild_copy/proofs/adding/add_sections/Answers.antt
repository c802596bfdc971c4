use Rattle.std.proofs.Common.{arith}
use Rattle.rebuild_model.specs.Copied.{with_added}
use Rattle.rebuild_changes.specs.Stated.{bytes_pair}
use Rattle.rebuild_copy.proofs.TurnLaws.{turn_none, turn_more, turn_stops, turn_all}
use Rattle.rebuild_copy.proofs.adding.add_sections.Goals as goal

pub loop-change-init : goal.loop-change-init
loop-change-init c = (
  (λ o p is. turn_none bytes_pair with_added c.args.changes.now o p c.args.x.now is),
  omega arith,
)

pub loop-change-preserved : goal.loop-change-preserved
loop-change-preserved c = (
  (λ o p is.
      turn_more bytes_pair with_added c.args.changes.now o p c.loop-change.change-index
      c.loop-change.x (c.loop-change.invariant.0 o p is) c.change-item.result
      c.add_section.new.x c.loop-change-test.true c.change-item.is c.in-Ok.ensures),
  let first = c.loop-change.invariant.1 in
      let second = c.in-Ok.ensures.less in omega (arith, first, second),
)

pub returns-in-Err : goal.returns-in-Err
returns-in-Err c = record {
  unread = c.in-Err.ensures.unread;
  less = tt;
  turns = λ o p is holds.
      turn_stops bytes_pair with_added c.args.changes.now o p c.loop-change.change-index
      c.loop-change.x (c.loop-change.invariant.0 o p is) c.change-item.result c.in-Err.fault
      c.add_section.new.x c.loop-change-test.true c.change-item.is c.in-Err.ensures;
}

pub returns : goal.returns
returns c = record {
  unread = tt;
  less = c.loop-change.invariant.1;
  turns = λ o p is holds.
      turn_all bytes_pair with_added c.args.changes.now o p c.loop-change.change-index
      c.loop-change.x
      (c.loop-change.invariant.0 o p is) c.loop-change-test.false;
}
