use Rattle.std.proofs.Common.{◌∙◌}
use Rattle.rebuild_select.specs.Steps.{goes}
use Rattle.rebuild_select.proofs.StepLaws.{marks_more}
use Rattle.rebuild_select.proofs.walks.fill_marks.Goals as goal

pub loop-s-preserved : goal.loop-s-preserved
loop-s-preserved g c =
    c.in_ok-push.ensures.ok
    ∙ marks_more (goes c.args.elf.now.o (g.T.SectionTest.passes c.args.step.now c.args.elf.now.o)
    c.args.removed.now) c.loop-s.marks c.loop-s.s c.goes.result c.loop-s.invariant c.goes.ensures
