-- The items so far.
use Rattle.elf_xlate.proofs.Pieces.{AreRead}
use Rattle.elf_xlate.proofs.decode.decode_list.Given as goal

abbrev pub invariant-loop-i : goal.invariant-loop-i
invariant-loop-i g l = AreRead g.C.Codec.item_of g.C.Codec.in_range g.C.Codec.fitting l.size l.i l.bytes l.items
