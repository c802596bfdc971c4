use Rattle.std.proofs.Common.{length}
use Rattle.elf_update_in_place.proofs.LoadLaws.{AreLoaded}
use Rattle.elf_update_in_place.proofs.loads.load_homes.Given as goal

abbrev pub invariant-loop-s : goal.invariant-loop-s
invariant-loop-s g l =
    AreLoaded g.S.Source l.moves (length l.initial.elf.o.sections) l.initial.elf l.elf l.s
