use Rattle.std.proofs.Common.{◌∙◌}
use Rattle.rebuild_select.proofs.LinkLaws.{linked_all}
use Rattle.rebuild_select.proofs.links.linked_by.Goals as goal

pub returns-in-Ok-clause-ok : goal.returns-in-Ok-clause-ok
returns-in-Ok-clause-ok g c =
    c.from_marks.ensures
    ∙ linked_all c.args.elf.now.o (g.T.SectionTest.passes c.args.test.now c.args.elf.now.o) _
    c.mark_linked.ensures
