use Rattle.std.proofs.Common.{◌≡◌, ◌≤◌, map}
use Rattle.std.specs.List.{range_with_len}
use Rattle.elf_update_to.specs.elf_object.Changed.{is_moved}
use Rattle.elf_update_in_place.proofs.moves.moves.list_moves.Given as goal

abbrev pub invariant-loop-s : goal.invariant-loop-s
invariant-loop-s g l = record {
  moves : l.moves ≡ map (is_moved l.elf.o) (range_with_len 0 l.s);
  within : l.s ≤ l.count;
}
