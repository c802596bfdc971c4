use Rattle.std.proofs.Common.{◌≡◌, length}
use Rattle.elf_update_to.specs.Descriptors.{stored_pieces}
use Rattle.elf_update_in_place.proofs.writes.WalkLaws.{AreSoFar}
use Rattle.elf_update_in_place.proofs.writes.walks.write_parts.Given as goal

abbrev pub invariant-loop-i : goal.invariant-loop-i
invariant-loop-i g l = record {
  put : AreSoFar g.D.Source g.D.Device l.old_end l.initial.elf l.elf l.ground.kept l.ground.fill l.end
      (stored_pieces l.initial.elf.o) l.plan l.changed l.i l.from;
  page : length l.page ≡ length l.initial.page;
}
