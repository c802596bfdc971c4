-- The program headers so far are the same.
use Rattle.section_table.specs.elf_object.Object.{no_phdr}
use Rattle.elf_descriptor.proofs.FrontTables.{SameBelow}
use Rattle.elf_descriptor.proofs.body.fronts.same_phdrs.Given as goal

abbrev pub invariant-loop-i : goal.invariant-loop-i
invariant-loop-i l = SameBelow no_phdr l.ones l.others l.i
