use Rattle.elf_descriptor.specs.elf_object.Object.{home_piece, section_at}
use Rattle.elf_descriptor.specs.elf_object.Refusal.{unfit_in_piece}
use Rattle.elf_update_plan.proofs.RowLaws.{NoneBefore}
use Rattle.elf_update_plan.proofs.contents.check_pieces.Given as goal

abbrev pub invariant-loop-p : goal.invariant-loop-p
invariant-loop-p g l =
    NoneBefore (unfit_in_piece l.elf.o.header.class l.s) home_piece (section_at l.elf.o l.s).pieces l.p
