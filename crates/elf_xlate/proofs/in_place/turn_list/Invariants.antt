-- The bytes of the items so far.
use Rattle.elf_xlate.proofs.InPlace.{AreTurned}
use Rattle.elf_xlate.proofs.in_place.turn_list.Given as goal

abbrev pub invariant-loop-i : goal.invariant-loop-i
invariant-loop-i g l =
    AreTurned g.C.Codec.item_of g.D.Codec.bytes_of l.size l.i l.initial.bytes l.bytes
