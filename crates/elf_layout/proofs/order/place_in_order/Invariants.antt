use Rattle.std.proofs.Common.{drop}
use Rattle.elf_layout.proofs.Successive.{IsPlacedSoFar}
use Rattle.elf_layout.proofs.order.place_in_order.Given as goal

abbrev pub invariant-loop-part : goal.invariant-loop-part
invariant-loop-part l = IsPlacedSoFar l.limit l.parts (drop l.part-index l.parts) l.at l.end l.length
