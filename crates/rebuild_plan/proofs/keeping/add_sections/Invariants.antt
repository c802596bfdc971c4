use Rattle.rebuild_plan.proofs.KeepingLaws.{Keeping}
use Rattle.rebuild_plan.proofs.keeping.add_sections.Given as goal

abbrev pub invariant-loop-s : goal.invariant-loop-s
invariant-loop-s g l =
    Keeping g.S.Source l.keeper l.numbers l.initial.elf l.elf l.contents l.s-index
