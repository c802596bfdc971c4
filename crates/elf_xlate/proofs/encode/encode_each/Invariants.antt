-- The bytes of the items before those that are left.
use Rattle.std.proofs.Common.{length}
use Rattle.elf_xlate.proofs.Appended.{AreAppended}
use Rattle.elf_xlate.proofs.encode.encode_each.Given as goal

abbrev pub invariant-loop-rest : goal.invariant-loop-rest
invariant-loop-rest g l =
    AreAppended g.C.Codec.bytes_of g.C.Codec.fitting l.items l.rest l.initial.out l.out

abbrev pub decreases-loop-rest : goal.decreases-loop-rest
decreases-loop-rest g l = length l.rest
