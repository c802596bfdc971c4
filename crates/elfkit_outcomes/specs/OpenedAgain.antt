-- The self test over files in memory: OUT is made, and is then opened again. Where that fails the
-- run has shown nothing, and OUT holds its image.
use Rattle.std.specs.Prelude.{◌≡◌, ℕ, List, [], ◌∷◌, Option, Some, Result, Ok, IsErrOf}
use Rattle.tool_objects.specs.elf_outside.Counts.{Rose}
use Rattle.tool_objects.specs.elf_outside.Kept.{bytes_kept}
use Rattle.tool_objects.specs.elf_outside.MemFiles.{Creates, TakesBack, HandsOut}
use Rattle.tool_objects.specs.elf_outside.declared.file_sets.OpenFault.{OpenFault}
use Rattle.tool_objects.specs.elf_outside.declared.file_sets.OpenFault.TheVariants.{Failed}
use Rattle.tool_objects.specs.elf_outside.declared.memory.device.MemDevice.{MemDevice}
use Rattle.tool_objects.specs.elf_outside.declared.memory.files.MemFiles.{MemFiles}
use Rattle.tool_objects.specs.tool_output.Outcomes.{Outcome, Delivers}
use Rattle.tool_objects.specs.tool_output.Made.{made_file}

-- no file was opened or made yet, and the second opening is to fail
pub record SecondOpenFails (files : MemFiles) : Type 0 where
  pub made : files.opens.made ≡ 0
  pub bad : files.opens.bad ≡ 2 ∷ []

-- OUT is created, gets its bytes, is closed, and is opened again
pub record OpensAgain (old new : MemFiles) (out bytes : List ℕ)
    (answer : Result MemDevice OpenFault) : Type 0 where
  pub made : MemFiles
  pub empty : MemDevice
  pub creates : Creates old made out (Ok empty)
  pub full : MemDevice
  pub filled : full.bytes.items ≡ bytes
  pub closed : MemFiles
  pub closes : TakesBack made closed out full
  pub opens : HandsOut closed new out answer

-- A run that stops there: the failed opening is a fault of reading, OUT holds its bytes, and with
-- status 3 and no output the run has delivered what it may.
pub record StopsUnread (stated : Outcome) (old new : MemFiles) (out bytes : List ℕ)
    (answer : Result MemDevice OpenFault) : Type 0 where
  pub failed : IsErrOf answer Failed
  pub cause : Rose old.read_faults new.read_faults
  pub image : bytes_kept new.names out ≡ Some bytes
  pub delivers : (shown said : Option (List ℕ))
      → Delivers stated 3 shown shown said said (bytes_kept old.names) (bytes_kept new.names)

-- so it is of each command that makes OUT alone
abbrev pub StopsWhereUnread : Type 0
StopsWhereUnread =
    (stated : Outcome) (out bytes : List ℕ) (old new : MemFiles)
    (answer : Result MemDevice OpenFault)
    → stated.writes ≡ made_file out bytes ∷ [] → SecondOpenFails old
    → OpensAgain old new out bytes answer → StopsUnread stated old new out bytes answer
