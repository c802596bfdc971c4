use Rattle.std.proofs.Common.{◌≡◌, false, take}
use Rattle.std.specs.List.{list_any}
use Rattle.elf_update_in_place.proofs.moves.marks.some_section_is_marked.Given as goal

abbrev pub invariant-loop-s : goal.invariant-loop-s
invariant-loop-s g l = list_any (λ s. s.marked) (take l.s l.elf.o.sections) ≡ false
