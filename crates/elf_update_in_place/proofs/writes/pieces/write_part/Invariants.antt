use Rattle.std.proofs.Common.{◌≡◌, length}
use Rattle.elf_update_to.specs.Descriptors.{stored_pieces}
use Rattle.elf_update_in_place.proofs.writes.OverPieces.{IsPartOver}
use Rattle.elf_update_in_place.proofs.writes.pieces.write_part.Given as goal

abbrev pub invariant-loop-p : goal.invariant-loop-p
invariant-loop-p g l = record {
  put : IsPartOver g.D.Source g.D.Device l.initial.elf l.elf l.part.at l.fill
      (stored_pieces l.initial.elf.o l.part.part) l.p l.end;
  page : length l.page ≡ length l.initial.page;
}
