use Rattle.elf_descriptor.specs.elf_object.Object.{absent_section}
use Rattle.elf_descriptor.specs.elf_object.Refusal.{missing_in_section}
use Rattle.elf_update_plan.proofs.RowLaws.{NoneBefore}
use Rattle.elf_update_plan.proofs.contents.check_homes.Given as goal

abbrev pub invariant-loop-s : goal.invariant-loop-s
invariant-loop-s g l = NoneBefore missing_in_section absent_section l.elf.o.sections l.s
