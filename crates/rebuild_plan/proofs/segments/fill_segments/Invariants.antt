use Rattle.std.proofs.Common.{◌≡◌, take}
use Rattle.rebuild_plan.proofs.segments.fill_segments.Given as goal

abbrev pub invariant-loop-i : goal.invariant-loop-i
invariant-loop-i g l = l.phdrs ≡ take l.i l.elf.o.phdrs
