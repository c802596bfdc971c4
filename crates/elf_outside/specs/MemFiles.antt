-- What the calls of a set of files in memory do.
use Rattle.std.specs.Prelude.{◌≡◌, ◌↔◌, ◌≤◌, ◌-◌, ℕ, [], List, Option, Some, None, Result, Ok, Err, Contains, IsErrOf, IsSome, IfOk, IfSome, OnOk, OnErr, max, vec_len}
use Rattle.elf_outside.specs.Counts.{RaisedExactly, next_count}
use Rattle.elf_outside.specs.Kept.{kept, closed, SameKept, SetsKept}
use Rattle.elf_outside.specs.declared.file_sets.OpenFault.{OpenFault}
use Rattle.elf_outside.specs.declared.file_sets.OpenFault.TheVariants.{NotThere, Failed}
use Rattle.elf_outside.specs.declared.memory.device.MemDevice.{MemDevice}
use Rattle.elf_outside.specs.declared.memory.files.Kept.{Kept}
use Rattle.elf_outside.specs.declared.memory.files.MemFiles.{MemFiles}

-- the room and the lists of failing calls are as before
pub record SameSettings (old new : MemFiles) : Type 0 where
  pub room : new.room ≡ old.room
  pub bad_opens : new.opens.bad ≡ old.opens.bad
  pub bad_writes : new.bad_writes ≡ old.bad_writes

-- no read and no write of a file was made
pub record IsUntouched (file : MemDevice) : Type 0 where
  pub reads : file.reads.made ≡ 0
  pub writes : file.writes.made ≡ 0
  pub faults : file.faults ≡ 0
  pub write_faults : file.write_faults ≡ 0
  pub taken : file.taken ≡ 0
  pub given : file.given ≡ 0

-- a file holds what is kept of its name, and fails as is kept of it
pub record IsFileOf (room : ℕ) (k : Kept) (file : MemDevice) : Type 0 where
  pub bytes : file.bytes.items ≡ k.bytes
  pub room_is : file.room ≡ max room (vec_len file.bytes)
  pub bad_reads : file.reads.bad ≡ k.bad_reads
  pub bad_writes : file.writes.bad ≡ k.bad_writes
  pub untouched : IsUntouched file

-- a count after a call that hands out a file: one more where the call answers Failed
abbrev pub faults_after_open : Result MemDevice OpenFault → ℕ → ℕ
faults_after_open (Err Failed) n = next_count n
faults_after_open _ n = n

-- the number of open files after such a call: one more where it is Ok
abbrev pub live_after : Result MemDevice OpenFault → ℕ → ℕ
live_after (Ok _) n = next_count n
live_after (Err _) n = n

-- a call of `open` or `edit`: what it answers, and what it leaves
pub record HandsOut (old new : MemFiles) (name : List ℕ)
    (result : Result MemDevice OpenFault) : Type 0 where
  pub number : new.opens.made ≡ next_count old.opens.made
  pub not_there : IsErrOf result NotThere ↔ (kept old.names name ≡ None)
  pub failed : IsErrOf result Failed
      ↔ (IsSome (kept old.names name) × Contains old.opens.bad new.opens.made)
  pub file : IfOk result (λ f. IfSome (kept old.names name) (λ k. IsFileOf old.room k f))
  pub names : new.names ≡ old.names
  pub settings : SameSettings old new
  pub read_faults : new.read_faults ≡ faults_after_open result old.read_faults
  pub never_falls : old.read_faults ≤ new.read_faults
  pub write_faults : new.write_faults ≡ old.write_faults
  pub taken : new.taken ≡ old.taken
  pub given : new.given ≡ old.given
  pub live : new.live ≡ live_after result old.live

-- what is kept of a name once `create` has made an empty file of it: the failing calls that were
-- set of the name stay, and a new name has none
abbrev pub emptied : Option Kept → Kept
emptied None = record { bytes = []; bad_reads = []; bad_writes = [] }
emptied (Some k) = record k { bytes = [] }

-- the file that `create` makes
pub record IsNewFile (old : MemFiles) (file : MemDevice) : Type 0 where
  pub bytes : file.bytes.items ≡ []
  pub room : file.room ≡ old.room
  pub bad_reads : file.reads.bad ≡ []
  pub bad_writes : file.writes.bad ≡ old.bad_writes
  pub untouched : IsUntouched file

-- a call of `create`: what it answers, and what it leaves
pub record Creates (old new : MemFiles) (name : List ℕ)
    (result : Result MemDevice OpenFault) : Type 0 where
  pub number : new.opens.made ≡ next_count old.opens.made
  pub there : ¬ IsErrOf result NotThere
  pub failed : IsErrOf result Failed ↔ Contains old.opens.bad new.opens.made
  pub file : IfOk result (IsNewFile old)
  pub ok : OnOk result (SetsKept old.names new.names name (Some (emptied (kept old.names name))))
  pub unchanged : OnErr result (SameKept old.names new.names)
  pub settings : SameSettings old new
  pub read_faults : new.read_faults ≡ old.read_faults
  pub write_faults : new.write_faults ≡ faults_after_open result old.write_faults
  pub never_falls : old.write_faults ≤ new.write_faults
  pub taken : new.taken ≡ old.taken
  pub given : new.given ≡ old.given
  pub live : new.live ≡ live_after result old.live

-- a call of `close`: a name that is there gets the file's bytes, and each total rises by the file's
-- own count, so by nothing where that is 0
pub record TakesBack (old new : MemFiles) (name : List ℕ) (file : MemDevice) : Type 0 where
  pub set : SetsKept old.names new.names name (closed file.bytes.items (kept old.names name))
  pub settings : SameSettings old new
  pub number : new.opens.made ≡ old.opens.made
  pub read_faults : RaisedExactly old.read_faults new.read_faults file.faults
  pub write_faults : RaisedExactly old.write_faults new.write_faults file.write_faults
  pub taken : RaisedExactly old.taken new.taken file.taken
  pub given : RaisedExactly old.given new.given file.given
  pub live : new.live ≡ old.live - 1
