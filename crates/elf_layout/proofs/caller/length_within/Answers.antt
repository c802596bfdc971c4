use Rattle.elf_layout.proofs.Lengths.{length_from_above}
use Rattle.elf_layout.proofs.caller.length_within.Goals as goal

pub returns-in_err-length : goal.returns-in_err-length
returns-in_err-length c =
    rw c.from_residual.ensures (length_from_above _ _ _ _ _ _ c.loop-part-test.true c.loop-part.invariant.1 c.in_err-length.ensures)
