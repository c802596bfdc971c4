use Rattle.std.proofs.Common.{refl, ap, ◌∙◌}
use Rattle.rebuild_plan.specs.declared.arranged.Arranged.{Arranged}
use Rattle.rebuild_copy.proofs.StoreLaws.{named_none, below_now, named_more, past_now, named_all}
use Rattle.rebuild_copy.proofs.storing.put_names.Goals as goal

pub loop-s-init : goal.loop-s-init
loop-s-init c = ((λ o p is. named_none c.args.places.now o p c.args.x.now is), refl)

pub loop-s-preserved : goal.loop-s-preserved
loop-s-preserved c = (
  (λ o p is.
      let so_far = c.loop-s.invariant.0 o p is in
      named_more c.args.places.now o p c.loop-s.s c.loop-s.x so_far
      c.place_at.result c.put_name.new.x c.loop-s.auto.s
      (below_now c.args.places.now o p c.args.x.now c.loop-s.s c.loop-s.x is so_far
      c.loop-s-test.true) c.place_at.type_inv c.place_at.ensures c.put_name.ensures),
  ap (λ (z : Arranged). z.ranges) c.put_name.ensures ∙ c.loop-s.invariant.1,
)

pub returns-clause-places : goal.returns-clause-places
returns-clause-places c = λ o p is.
    let so_far = c.loop-s.invariant.0 o p is in
    named_all c.args.places.now o p c.loop-s.s c.loop-s.x so_far
    (past_now c.args.places.now o p c.args.x.now c.loop-s.s c.loop-s.x is so_far
    c.loop-s-test.false)

pub returns-clause-ranges : goal.returns-clause-ranges
returns-clause-ranges c = c.loop-s.invariant.1
