use Rattle.std.proofs.Common.{◌∙◌}
use Rattle.rebuild_select.proofs.StepLaws.{marks_found}
use Rattle.rebuild_select.proofs.walks.with_found.Goals as goal

pub returns-in-Ok-clause-ok : goal.returns-in-Ok-clause-ok
returns-in-Ok-clause-ok g c =
    c.from_marks.ensures
    ∙ marks_found c.args.elf.now.o
    (g.T.SectionTest.passes c.args.step.now c.args.elf.now.o) c.args.removed.now _
    c.in-Ok.ensures.ok
