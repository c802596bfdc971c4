use Rattle.std.proofs.Common.{arith}
use Rattle.std.proofs.lemmas.Bool.{leb-true, le-leb}
use Rattle.rebuild_image.specs.Ranges.Images.{ArePlanned}
use Rattle.rebuild_image.specs.Ranges.Ranges.{kept_of_parts}
use Rattle.elf_update_to.specs.elf_update_plan.Plans.{no_part}
use Rattle.rebuild_image.proofs.ranges.CheckLaws.{no_by, plan_begins, plan_goes_on, plan_stops, plan_ends, plan_within}
use Rattle.rebuild_image.proofs.ranges.checks.are_planned.Goals as goal

pub loop-part-init : goal.loop-part-init
loop-part-init g c = plan_begins (kept_of_parts g.S.Source c.args.parts.now) c.args.plan.now
    c.args.end

pub loop-part-preserved : goal.loop-part-preserved
loop-part-preserved g c =
    plan_goes_on (kept_of_parts g.S.Source c.args.parts.now) c.args.plan.now c.args.end
    c.loop-part.part-index c.loop-part.from no_part c.loop-part-test.true c.in-Some.after
    c.loop-part.invariant c.in-Some.ensures

pub returns-in-None : goal.returns-in-None
returns-in-None g c =
    let k = kept_of_parts g.S.Source c.args.parts.now in
    no_by (ArePlanned k c.args.plan.now c.args.end)
    (plan_stops k c.args.plan.now c.args.end c.loop-part.part-index c.loop-part.from no_part
    c.loop-part-test.true c.loop-part.invariant (omega (arith, c.ranges.end))
    c.in-None.ensures)

pub returns : goal.returns
returns g c =
    let k = kept_of_parts g.S.Source c.args.parts.now in (
      (λ is.
          plan_ends k c.args.plan.now c.args.end c.loop-part.part-index c.loop-part.from
          (omega (arith, c.loop-part-test.false)) c.loop-part.invariant
          (leb-true c.loop-part.from c.args.end is)),
      λ planned.
          le-leb c.loop-part.from c.args.end
          (plan_within k c.args.plan.now c.args.end c.loop-part.part-index c.loop-part.from
          (omega (arith, c.loop-part-test.false)) c.loop-part.invariant planned),
    )
