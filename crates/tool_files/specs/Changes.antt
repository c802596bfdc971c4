-- A file that is changed in place.
use Rattle.std.specs.Prelude.{◌≡◌, ◌≤◌, ◌⊎◌, ◌-◌, ℕ, Bool, List, Some, Result, OnOk, IfOk, IfErr, IfSome}
use Rattle.tool_output.specs.elf_outside.Counts.{Rose, RaisedBy, RisesWith}
use Rattle.tool_output.specs.elf_outside.Names.{Closes}
use Rattle.tool_output.specs.elf_outside.declared.sources.Source.{Ghosts as SourceGhosts}
use Rattle.tool_output.specs.elf_outside.declared.devices.Device.{Ghosts as DeviceGhosts}
use Rattle.tool_output.specs.elf_outside.declared.file_sets.Files.{Ghosts as FilesGhosts}
use Rattle.tool_output.specs.elf_outside.declared.sinks.Sink.{Ghosts as SinkGhosts}
use Rattle.tool_output.specs.declared.stops.Stop.{Stop}
use Rattle.tool_output.specs.declared.outputs.Outputs.{Outputs}
use Rattle.tool_output.specs.Statuses.{refused_status, stop_status}
use Rattle.tool_output.specs.Steps.{Writes, KeepsSinks, OnRead, OnWrite, SinkRose}
use Rattle.tool_output.specs.Files.{IsWithin}
use Rattle.tool_output.specs.Outcomes.{Outcome, write_of, held_after, MayHold}

-- A step does what is stated with the open file of a name, which held some bytes, or stops on the
-- way. It is Does for one file, of which it is told what it holds.
pub record DoesInPlace {D O E : Type 0} (s : SourceGhosts D) (d : DeviceGhosts D)
    (o : SinkGhosts O) (e : SinkGhosts E) (stated : Outcome) (name was : List ℕ)
    (result : Result Bool Stop) (device_old device_new : D) (old new : Outputs O E)
    : Type 0 where
  pub writes : Writes o e result old new stated.marks
  pub status : IfOk result (λ refused. refused_status refused ≡ stated.status)
  pub bytes : OnOk result
      (s.holds device_new ≡ held_after (write_of stated.writes name) (Some was))
  pub left : IfErr result (λ stop. MayHold (stop_status stop)
      (write_of stated.writes name) (Some was) (s.holds device_new))
  pub asks : OnOk result (IsWithin stated.asks (s.taken device_old) (s.taken device_new))
  pub gives : IsWithin stated.gives (d.given device_old) (d.given device_new)

-- What such a step leaves, whatever it states, and the causes of its stops: of Read a failed read
-- of the device, of Write a failed write of it or a failed put.
pub record LeavesDevice {D O E : Type 0} (s : SourceGhosts D) (d : DeviceGhosts D)
    (o : SinkGhosts O) (e : SinkGhosts E) (result : Result Bool Stop) (device_old device_new : D)
    (old new : Outputs O E) : Type 0 where
  pub rest_after : d.rest_after device_new ≡ d.rest_after device_old
  pub later : s.faults device_old ≤ s.faults device_new
  pub write_later : d.write_faults device_old ≤ d.write_faults device_new
  pub keeps : KeepsSinks o e old new
  pub read : OnRead result (Rose (s.faults device_old) (s.faults device_new))
  pub write : OnWrite result (Rose (d.write_faults device_old) (d.write_faults device_new)
      ⊎ SinkRose o e old.out.now new.out.now old.err.now new.err.now)

-- What a step does with a file that is open: all that is stated for its bytes, where they are told.
pub record ChangesFile {D O E : Type 0} (s : SourceGhosts D) (d : DeviceGhosts D)
    (o : SinkGhosts O) (e : SinkGhosts E) (outcome : List ℕ → Outcome) (name : List ℕ)
    (result : Result Bool Stop) (device_old device_new : D) (old new : Outputs O E)
    : Type 0 where
  pub does : IfSome (s.holds device_old) (λ bytes.
      DoesInPlace s d o e (outcome bytes) name bytes result device_old device_new old new)
  pub leaves : LeavesDevice s d o e result device_old device_new old new

-- a step does what `ChangesFile` says with an open file, which is then closed under its name
pub record ChangesAndCloses {F D O E : Type 0} (s : SourceGhosts D) (d : DeviceGhosts D)
    (f : FilesGhosts F D) (o : SinkGhosts O) (e : SinkGhosts E) (outcome : List ℕ → Outcome)
    (name : List ℕ) (result : Result Bool Stop) (file : D) (files_old files_new : F)
    (old new : Outputs O E) : Type 0 where
  pub left : D
  pub changes : ChangesFile s d o e outcome name result file left old new
  pub closed : Closes (f.tells files_old) (f.named files_old) (f.tells files_new)
      (f.named files_new) name (s.holds left)
  pub read_faults : RisesWith (f.read_faults files_old) (f.read_faults files_new) (s.faults left)
  pub write_faults : RisesWith (f.write_faults files_old) (f.write_faults files_new)
      (d.write_faults left)
  pub taken : RaisedBy (f.taken files_old) (f.taken files_new) (s.taken left)
  pub given : RaisedBy (f.given files_old) (f.given files_new) (d.given left)
  pub live : f.live files_new ≡ f.live files_old - 1
