use Rattle.std.proofs.Common.{List, ℕ, refl, sym, ◌∙◌, subst, arith}
use Rattle.rebuild_model.specs.Copied.{with_bytes}
use Rattle.rebuild_select.specs.Sought.Names.{AreUpTo}
use Rattle.rebuild_changes.specs.Stated.{bytes_pair}
use Rattle.rebuild_copy.proofs.RenameLaws.{sought_at}
use Rattle.rebuild_copy.proofs.TurnLaws.{turn_none, turn_by, stop_by, turn_all}
use Rattle.rebuild_copy.proofs.updating.update_all.Goals as goal

pub loop-change-init : goal.loop-change-init
loop-change-init c = (
  refl,
  (λ o p is index. record {
    turned = turn_none bytes_pair with_bytes c.args.changes.now o p c.args.x.now is;
    indexed = index;
  }),
  omega arith,
)

pub update_section-requires-clause-sought : goal.update_section-requires-clause-sought
update_section-requires-clause-sought c =
    sought_at c.loop-change.index.sought c.args.index.now.sought c.args.changes.now
    c.loop-change.change-index c.change-item.result c.loop-change.invariant.0
    c.loop-change-test.true c.change-item.is c.requires.sought

pub update_section-requires-clause-up_to : goal.update_section-requires-clause-up_to
update_section-requires-clause-up_to c =
    subst (λ (l : List (List ℕ)). AreUpTo c.args.longest l) (sym c.loop-change.invariant.0)
    c.requires.up_to

pub loop-change-preserved : goal.loop-change-preserved
loop-change-preserved c = (
  c.update_section.ensures.sought ∙ c.loop-change.invariant.0,
  (λ o p is index.
      let so_far = c.loop-change.invariant.1 o p is index in
      let step = c.in-Ok.ensures.updates o so_far.turned.left so_far.turned.contents
      so_far.indexed in
      record {
        turned = turn_by bytes_pair with_bytes c.args.changes.now o p c.loop-change.change-index
            c.loop-change.x so_far.turned c.change-item.result c.update_section.new.x
            c.loop-change-test.true c.change-item.is step.turns;
        indexed = step.indexed;
      }),
  let first = c.loop-change.invariant.2 in
      let second = c.in-Ok.ensures.less in omega (arith, first, second),
)

pub returns-in-Err : goal.returns-in-Err
returns-in-Err c = record {
  unread = c.in-Err.ensures.unread;
  less = tt;
  turns = λ o p is index.
      let so_far = c.loop-change.invariant.1 o p is index in
      let step = c.in-Err.ensures.updates o so_far.turned.left so_far.turned.contents
      so_far.indexed in
      stop_by bytes_pair with_bytes c.args.changes.now o p c.loop-change.change-index
      c.loop-change.x so_far.turned c.change-item.result c.in-Err.fault c.update_section.new.x
      c.loop-change-test.true c.change-item.is step.turns;
}

pub returns : goal.returns
returns c = record {
  unread = tt;
  less = c.loop-change.invariant.2;
  turns = λ o p is index.
      turn_all bytes_pair with_bytes c.args.changes.now o p c.loop-change.change-index
      c.loop-change.x (c.loop-change.invariant.1 o p is index).turned c.loop-change-test.false;
}
