-- A set of files in memory none of whose calls is to fail: its total of failed reads never changes.
use Rattle.std.proofs.Common.{◌≡◌, ℕ, [], List, Result, Ok, Err, Contains, refl, subst, arith}
use Rattle.elf_outside.specs.MemFiles.{HandsOut, TakesBack}
use Rattle.elf_outside.specs.declared.file_sets.OpenFault.{OpenFault}
use Rattle.elf_outside.specs.declared.file_sets.OpenFault.TheVariants.{NotThere, Failed, Memory}
use Rattle.elf_outside.specs.declared.memory.device.MemDevice.{MemDevice}
use Rattle.elf_outside.specs.declared.memory.files.MemFiles.{MemFiles}

-- `open` and `edit` leave it
pub quiet_open : (old new : MemFiles) (name : List ℕ) (result : Result MemDevice OpenFault) → old.opens.bad ≡ []
    → HandsOut old new name result → new.read_faults ≡ old.read_faults
quiet_open old new name (Ok file) none hands = hands.read_faults
quiet_open old new name (Err NotThere) none hands = hands.read_faults
quiet_open old new name (Err Memory) none hands = hands.read_faults
quiet_open old new name (Err Failed) none hands =
    let named : Contains [] new.opens.made = subst (λ (bad : List ℕ). Contains bad new.opens.made) none (hands.failed.0 refl).1 in
    omega (arith, named.1)

-- `close` leaves it, where no read of the file was to fail
pub quiet_close : (old new : MemFiles) (name : List ℕ) (file : MemDevice) → file.reads.bad ≡ []
    → TakesBack old new name file → new.read_faults ≡ old.read_faults
quiet_close old new name file none takes = omega (arith, takes.read_faults.later, takes.read_faults.exact, file.quiet none)
