-- When an update has something to write (elf_update).
use Rattle.std.specs.Prelude.{◌≡◌, true, None}
use Rattle.elf_object.specs.Object.{Object, is_dirty}
use Rattle.elf_object.specs.Refusal.{refusal}
use Rattle.elf_object.specs.Valid.{IsObject}

-- an object that an update writes: something is dirty, and the update is not refused
pub record IsReady (o : Object) : Type 0 where
  pub object : IsObject o
  pub dirty : is_dirty o ≡ true
  pub passed : refusal o ≡ None
