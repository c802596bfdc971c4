use Rattle.elf_descriptor.specs.elf_xlate.Headers.{phdr_fits}
use Rattle.elf_descriptor.specs.elf_object.Object.{no_phdr}
use Rattle.elf_update_plan.proofs.SegmentLaws.{PassBefore}
use Rattle.elf_update_plan.proofs.contents.check_segments.Given as goal

abbrev pub invariant-loop-i : goal.invariant-loop-i
invariant-loop-i g l = PassBefore (λ p. phdr_fits l.elf.o.header.class p) no_phdr l.elf.o.phdrs l.i
