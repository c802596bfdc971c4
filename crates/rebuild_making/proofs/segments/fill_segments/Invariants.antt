use Rattle.elf_update_plan.proofs.elf_descriptor.Settling.{IsCopying}
use Rattle.rebuild_making.proofs.segments.fill_segments.Given as goal

abbrev pub invariant-loop-i : goal.invariant-loop-i
invariant-loop-i g l = IsCopying l.i l.from.o.phdrs l.to
