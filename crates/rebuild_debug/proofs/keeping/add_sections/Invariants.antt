use Rattle.rebuild_debug.proofs.KeepLaws.{HalfKept}
use Rattle.rebuild_debug.proofs.keeping.add_sections.Given as goal

abbrev pub invariant-loop-s : goal.invariant-loop-s
invariant-loop-s g l = HalfKept l.elf l.contents l.s
