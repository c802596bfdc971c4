use Rattle.rebuild_select.specs.Marking.{AreLinked}
use Rattle.rebuild_select.proofs.links.mark_linked.Given as goal

abbrev pub invariant-loop-s : goal.invariant-loop-s
invariant-loop-s g l = AreLinked l.elf.o (g.T.SectionTest.passes l.test l.elf.o) l.marks l.s
