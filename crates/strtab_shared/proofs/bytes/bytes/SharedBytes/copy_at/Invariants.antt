use Rattle.std.proofs.Common.{◌-◌, length}
use Rattle.strtab_shared.specs.Bytes.Pieces.{IsCopiedToBuffer}
use Rattle.strtab_shared.proofs.bytes.bytes.SharedBytes.copy_at.Given as goal

abbrev pub invariant-loop-done : goal.invariant-loop-done
invariant-loop-done l = IsCopiedToBuffer l.self l.at l.initial.buf l.buf l.done

abbrev pub decreases-loop-done : goal.decreases-loop-done
decreases-loop-done l = length l.buf - l.done
