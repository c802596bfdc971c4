use Rattle.std.proofs.Common.{◌≡◌}
use Rattle.elf_update_to.specs.law_object.Writing.Marks.{marked_all}
use Rattle.elf_update_in_place.proofs.MarkSteps.{pieces_before}
use Rattle.elf_update_in_place.proofs.marks.mark_pieces.Given as goal

abbrev pub invariant-loop-p : goal.invariant-loop-p
invariant-loop-p g l =
    l.elf ≡ record l.initial.elf { o = marked_all l.initial.elf.o (pieces_before l.s l.p) }
