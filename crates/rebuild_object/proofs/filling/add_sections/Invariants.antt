use Rattle.rebuild_object.proofs.AddLaws.{AddsBelow}
use Rattle.rebuild_object.proofs.filling.add_sections.Given as goal

abbrev pub invariant-loop-s : goal.invariant-loop-s
invariant-loop-s g l =
    AddsBelow g.S.Source l.x l.initial.elf l.elf l.initial.made l.made l.s
