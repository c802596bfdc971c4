use Rattle.tool_objects.proofs.LetGo.{LeftOf}
use Rattle.tool_objects.proofs.crowded.is_crowded.Given as goal

abbrev pub invariant-loop-s : goal.invariant-loop-s
invariant-loop-s g l = LeftOf l.elf.o l.s l.left
