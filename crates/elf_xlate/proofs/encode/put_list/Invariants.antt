-- The bytes of the items so far.
use Rattle.elf_xlate.proofs.PutItems.{ArePut}
use Rattle.elf_xlate.proofs.encode.put_list.Given as goal

abbrev pub invariant-loop-i : goal.invariant-loop-i
invariant-loop-i g l = ArePut g.C.Codec.bytes_of l.size l.i l.items l.initial.out l.out
