use Rattle.std.proofs.Common.{◌≤◌}
use Rattle.gelf_view.proofs.StackLemmas.{IsLeft}
use Rattle.gelf_view.proofs.string_places.find_start.Given as goal

abbrev pub invariant-loop-piece : goal.invariant-loop-piece
invariant-loop-piece g l = (l.end ≤ l.offset) × IsLeft l.elf.o l.s.0 l.offset l.end l.piece
