-- The items so far fit, and their bytes are written.
use Rattle.std.proofs.Common.{◌≡◌, take, true}
use Rattle.std.specs.List.{All}
use Rattle.elf_xlate.proofs.PutItems.{ArePut}
use Rattle.elf_xlate.proofs.encode.put_fitting.Given as goal

abbrev pub invariant-loop-i : goal.invariant-loop-i
invariant-loop-i g l = record {
  put : ArePut g.C.Codec.bytes_of l.size l.i l.items l.initial.out l.out;
  fit : All (λ x. g.C.Codec.fitting x ≡ true) (take l.i l.items);
}
