-- The section headers so far are the same.
use Rattle.section_table.specs.elf_ident.Front.{zero_shdr}
use Rattle.elf_descriptor.specs.Fronts.{stored_shdrs}
use Rattle.elf_descriptor.proofs.FrontTables.{SameBelow}
use Rattle.elf_descriptor.proofs.body.Body.same_shdrs.Given as goal

abbrev pub invariant-loop-s : goal.invariant-loop-s
invariant-loop-s l = SameBelow zero_shdr (stored_shdrs l.places l.h l.self) l.table l.s
