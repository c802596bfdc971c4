use Rattle.std.proofs.Common.{arith}
use Rattle.elf_outside.proofs.RangeLemmas.{range_reads}
use Rattle.elf_outside.proofs.window.WindowSource.read_at.Goals as goal

pub returns-clause-bytes : goal.returns-clause-bytes
returns-clause-bytes g c =
    range_reads _ _ _ _ _ _ _ (omega arith) c.read_at.ensures.bytes
