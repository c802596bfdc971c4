use Rattle.std.proofs.Common.{◌≡◌, ◌-◌, ◌≤◌, Ok, length, take}
use Rattle.std.specs.Prelude.{slice_index_or}
use Rattle.elf_update_to.specs.Origins.{absent_piece}
use Rattle.elf_update_to.specs.Descriptors.{stored_pieces}
use Rattle.elf_update_in_place.specs.Writes.Overwrites.{Overwrites}
use Rattle.elf_update_in_place.proofs.writes.pieces.write_range.Given as goal

abbrev pub invariant-loop-done : goal.invariant-loop-done
invariant-loop-done g l = record {
  over : Overwrites g.D.Source g.D.Device (Ok (tt {0})) l.initial.elf l.elf l.at
      (take l.done (slice_index_or (stored_pieces l.initial.elf.o l.part) l.p absent_piece).1);
  within : l.done ≤ l.len;
  page : length l.page ≡ length l.initial.page;
}

abbrev pub decreases-loop-done : goal.decreases-loop-done
decreases-loop-done g l = l.len - l.done
