use Rattle.std.proofs.Common.{◌≡◌, map, take}
use Rattle.elf_update_in_place.specs.Moves.Written.{part_changed}
use Rattle.elf_update_in_place.proofs.moves.changes.list_changes.Given as goal

abbrev pub invariant-loop-part : goal.invariant-loop-part
invariant-loop-part g l =
    l.changed ≡ map (λ p. part_changed l.elf.o p.part) (take l.part-index l.parts)
