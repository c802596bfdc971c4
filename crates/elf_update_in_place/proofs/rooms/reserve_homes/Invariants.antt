use Rattle.elf_update_in_place.proofs.RoomLaws.{AreReserved}
use Rattle.elf_update_in_place.proofs.rooms.reserve_homes.Given as goal

abbrev pub invariant-loop-s : goal.invariant-loop-s
invariant-loop-s g l = AreReserved l.moves l.initial.elf l.elf l.s
