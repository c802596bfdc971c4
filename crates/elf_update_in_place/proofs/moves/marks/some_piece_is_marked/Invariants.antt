use Rattle.std.proofs.Common.{◌≡◌, false, take}
use Rattle.std.specs.List.{list_any}
use Rattle.elf_update_to.specs.elf_object.Object.{section_at}
use Rattle.elf_update_in_place.proofs.moves.marks.some_piece_is_marked.Given as goal

abbrev pub invariant-loop-p : goal.invariant-loop-p
invariant-loop-p g l =
    list_any (λ p. p.marked) (take l.p (section_at l.elf.o l.s).pieces) ≡ false
