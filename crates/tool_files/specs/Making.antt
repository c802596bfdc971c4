-- A file that is made of an image.
use Rattle.std.specs.Prelude.{◌≡◌, ◌≤◌, ◌⊎◌, ℕ, List, Option, Some, None, Result, Ok, Err, OnOk, OnErr, IfSome, IsTrue}
use Rattle.elf_types.specs.declared.errors.ElfError.{ElfError}
use Rattle.tool_output.specs.elf_outside.Asks.{Leaves}
use Rattle.tool_output.specs.elf_outside.Counts.{Rose, RaisedAtMost}
use Rattle.tool_output.specs.elf_outside.Writes.{Appends, AppendsFront}
use Rattle.tool_output.specs.elf_outside.declared.sources.Source.{Ghosts as SourceGhosts}
use Rattle.tool_output.specs.elf_outside.declared.devices.Device.{Ghosts as DeviceGhosts}
use Rattle.tool_output.specs.elf_outside.declared.file_sets.Files.{Ghosts as FilesGhosts}
use Rattle.tool_output.specs.declared.stops.Stop.{Stop}
use Rattle.tool_output.specs.Steps.{OnRead, OnWrite}
use Rattle.tool_output.specs.Stops.{stop_of}
use Rattle.tool_output.specs.Statuses.{refused_status}
use Rattle.tool_output.specs.Reports.{Report}
use Rattle.tool_output.specs.Outcomes.{FileWrite, Outcome}
use Rattle.tool_output.specs.Made.{MakesFile}

-- a call that is never refused, as a step of a tool: its value, or the stop of its error
abbrev pub IsStepOf : {T : Type 0} → Result T ElfError → Result T Stop → Type 0
IsStepOf (Ok x) result = result ≡ Ok x
IsStepOf (Err e) result = IfSome (stop_of e) (λ stop. result ≡ Err stop)

-- what files that are made of an image leave of the source that it is read from, and that at most
-- so many bytes were asked for
pub record ReadsFrom {S : Type 0} (s : SourceGhosts S) (old new : S) (n : ℕ) : Type 0 where
  pub leaves : Leaves s old new
  pub later : s.faults old ≤ s.faults new
  pub taken : RaisedAtMost (s.taken old) (s.taken new) n

-- A step puts an image behind what a file holds, and reads nothing of that file. Where it stops, a
-- front of the image stands there. It stops by Read only where a read of what the image is read
-- from failed, and by Write only where a write of the file failed.
pub record FillsFile {D S T : Type 0} (w : SourceGhosts D) (d : DeviceGhosts D) (s : SourceGhosts S)
    (image : Option (List ℕ)) (due : ℕ) (result : Result T Stop) (source_old source_new : S)
    (old new : D) : Type 0 where
  pub whole : IfSome image (λ bytes. OnOk result (Appends (w.holds old) (w.holds new) bytes))
  pub front : IfSome image (λ bytes.
      OnErr result (AppendsFront (w.holds old) (w.holds new) bytes))
  pub taken : w.taken new ≡ w.taken old
  pub write : OnWrite result (Rose (d.write_faults old) (d.write_faults new))
  pub source : ReadsFrom s source_old source_new due
  pub read : OnRead result (Rose (s.faults source_old) (s.faults source_new))

-- A step makes two files, one after another: where the first is not made, it stops as that does.
pub record MakesFiles {F D T : Type 0} (f : FilesGhosts F D) (first second : List ℕ)
    (one other : Option (List ℕ)) (result : Result T Stop) (one_old one_new other_old other_new : ℕ)
    (old new : F) : Type 0 where
  pub middle : F
  pub made : Result T Stop
  pub makes : MakesFile f first one made one_old one_new old middle
  pub stopped : OnErr made ((result ≡ made) × (new ≡ middle))
  pub next : OnOk made (MakesFile f second other result other_old other_new middle new)

-- Where a step that makes two files stops, the second holds what it held, or the first is whole.
pub record InOrder {F D T : Type 0} (f : FilesGhosts F D) (first second : List ℕ)
    (image : Option (List ℕ)) (result : Result T Stop) (old new : F) : Type 0 where
  pub order : IsTrue (f.tells old) → IfSome image (λ bytes. OnErr result
      ((f.named new second ≡ f.named old second) ⊎ (f.named new first ≡ Some bytes)))

-- a report, the files that are written, and how many bytes are handed to writes at most; no bound
-- on what is asked for is promised
abbrev pub outcome_giving : Report → List FileWrite → Option ℕ → Outcome
outcome_giving report writes gives = record {
  marks = report.marks;
  status = refused_status report.refused;
  writes = writes;
  asks = None;
  gives = gives;
}
