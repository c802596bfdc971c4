-- What a call that hands out a file does, over any set of files.
use Rattle.std.specs.Prelude.{◌≡◌, ◌↔◌, ◌≤◌, ℕ, Bool, List, None, Result, IfOk, OnOk, OnErr, IsTrue, IsErrOf}
use Rattle.elf_outside.specs.Counts.{Rose, next_count}
use Rattle.elf_outside.specs.Names.{Map, SameNames}
use Rattle.elf_outside.specs.declared.file_sets.OpenFault.{OpenFault}
use Rattle.elf_outside.specs.declared.file_sets.OpenFault.TheVariants.{NotThere, Failed}
use Rattle.elf_outside.specs.declared.devices.Device.{Ghosts as DeviceGhosts}
use Rattle.elf_outside.specs.declared.sources.Source.{Ghosts as SourceGhosts}

-- the meanings of a set of files, each under its name in the trait
pub record Meanings (F : Type 0) : Type 0 where
  pub tells : F → Bool
  pub named : F → Map
  pub read_faults : F → ℕ
  pub write_faults : F → ℕ
  pub taken : F → ℕ
  pub given : F → ℕ
  pub live : F → ℕ

abbrev pub meanings : {F : Type 0} → (F → Bool) → (F → Map)
    → (F → ℕ) → (F → ℕ) → (F → ℕ) → (F → ℕ) → (F → ℕ) → Meanings F
meanings tells named read_faults write_faults taken given live = record {
  tells = tells;
  named = named;
  read_faults = read_faults;
  write_faults = write_faults;
  taken = taken;
  given = given;
  live = live;
}

-- all counts of a file are 0
pub record IsFresh {D : Type 0} (s : SourceGhosts D) (d : DeviceGhosts D) (file : D) : Type 0 where
  pub faults : s.faults file ≡ 0
  pub taken : s.taken file ≡ 0
  pub write_faults : d.write_faults file ≡ 0
  pub given : d.given file ≡ 0

-- a call that hands out a file or refuses: no total falls, those of bytes stay, and an Ok is one
-- more open file
pub record HandsOver {F D : Type 0} (f : Meanings F) (s : SourceGhosts D) (d : DeviceGhosts D)
    (old new : F) (result : Result D OpenFault) : Type 0 where
  pub fresh : IfOk result (IsFresh s d)
  pub read_faults : f.read_faults old ≤ f.read_faults new
  pub write_faults : f.write_faults old ≤ f.write_faults new
  pub taken : f.taken new ≡ f.taken old
  pub given : f.given new ≡ f.given old
  pub live : OnOk result (f.live new ≡ next_count (f.live old))
  pub not_live : OnErr result (f.live new ≡ f.live old)

-- a call of `open` or `edit`: what it answers, and what it leaves
pub record Opens {F D : Type 0} (f : Meanings F) (s : SourceGhosts D) (d : DeviceGhosts D)
    (old new : F) (name : List ℕ) (result : Result D OpenFault) : Type 0 where
  pub names : SameNames (f.tells old) (f.named old) (f.tells new) (f.named new)
  pub bytes : IfOk result (λ file. IsTrue (f.tells old) → s.holds file ≡ f.named old name)
  pub not_there : IsTrue (f.tells old) → IsErrOf result NotThere ↔ (f.named old name ≡ None)
  pub failed : IsErrOf result Failed → Rose (f.read_faults old) (f.read_faults new)
  pub hands : HandsOver f s d old new result
