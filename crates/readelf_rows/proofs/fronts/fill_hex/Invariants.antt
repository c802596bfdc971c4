use Rattle.elf_types.proofs.Hex.{Filling}
use Rattle.readelf_rows.proofs.fronts.fill_hex.Given as goal

abbrev pub invariant-loop-left : goal.invariant-loop-left
invariant-loop-left l = Filling l.fn.n l.left l.at l.window

abbrev pub decreases-loop-left : goal.decreases-loop-left
decreases-loop-left l = l.left
