use Rattle.unstrip_tool.proofs.refusing.refuse_fault.Goals as goal

pub returns-in-Elf : goal.returns-in-Elf
returns-in-Elf g c = rw c.in-Elf.is c.refuse_half.ensures

pub returns-in-Debug : goal.returns-in-Debug
returns-in-Debug g c = rw c.in-Debug.is c.refuse_half-in-Debug.ensures

pub returns-in-Mismatch : goal.returns-in-Mismatch
returns-in-Mismatch g c = rw c.in-Mismatch.is c.refuse_with.ensures
