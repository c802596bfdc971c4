use Rattle.elf_update_to.proofs.RowLaws.{AreRowsPut}
use Rattle.elf_update_to.proofs.rows.put_rows.Given as goal

abbrev pub invariant-loop-i : goal.invariant-loop-i
invariant-loop-i g l = AreRowsPut (g.R.WritableRows.size l.rows) l.from l.some l.i (g.R.WritableRows.bytes l.rows) l.out
