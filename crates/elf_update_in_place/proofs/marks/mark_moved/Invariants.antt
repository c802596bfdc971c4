use Rattle.std.proofs.Common.{◌≡◌}
use Rattle.elf_update_to.specs.law_object.Writing.Marks.{marked_all}
use Rattle.elf_update_in_place.proofs.MarkSteps.{parts_before}
use Rattle.elf_update_in_place.proofs.marks.mark_moved.Given as goal

abbrev pub invariant-loop-s : goal.invariant-loop-s
invariant-loop-s g l =
    l.elf ≡ record l.fn.elf { o = marked_all l.fn.elf.o (parts_before l.fn.elf.o l.moves l.s) }
