use Rattle.std.proofs.Common.{◌≡◌, ◌++◌}
use Rattle.elf_update_in_place.specs.Moves.Written.{written_line}
use Rattle.elf_update_in_place.specs.Moves.Extents.{block_extents}
use Rattle.elf_update_in_place.proofs.moves.ExtentLaws.{left_from}
use Rattle.elf_update_in_place.proofs.moves.extents.written_extents.Given as goal

abbrev pub invariant-loop-i : goal.invariant-loop-i
invariant-loop-i g l =
    l.extents ++ left_from l.elf.o l.from l.i ≡ block_extents (written_line l.elf.o)
