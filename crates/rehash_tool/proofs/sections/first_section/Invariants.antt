use Rattle.elf_object.specs.Object.{absent_section}
use Rattle.rehash_tool.specs.Sections.{is_matching_section}
use Rattle.rehash_tool.proofs.SectionLemmas.{NoneBefore}
use Rattle.rehash_tool.proofs.sections.first_section.Given as goal

abbrev pub invariant-loop-n : goal.invariant-loop-n
invariant-loop-n g l =
    NoneBefore (λ s. is_matching_section l.sought s.header) l.elf.o.sections absent_section l.n
