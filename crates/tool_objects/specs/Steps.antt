-- What a step of a tool over a descriptor and the two outputs does.
use Rattle.std.specs.Prelude.{◌≡◌, ◌≤◌, ◌+◌, ◌*◌, ℕ, Bool, IsTrue, [], ltb, length, if◌then◌else◌, Result, Ok, Err, IfOk, IfErr}
use Rattle.elf_types.specs.declared.errors.ElfError.{ElfError}
use Rattle.elf_types.specs.Answers.{IsRefusal}
use Rattle.tool_output.specs.elf_outside.Asks.{Leaves, ReadRose}
use Rattle.tool_output.specs.elf_outside.Counts.{Rose}
use Rattle.tool_output.specs.elf_outside.declared.sources.Source.{Ghosts as SourceGhosts}
use Rattle.tool_output.specs.elf_outside.declared.sinks.Sink.{Ghosts as SinkGhosts}
use Rattle.gelf_view.specs.elf_object.Object.{Object}
use Rattle.gelf_view.specs.elf_object.Due.{homes_due, all_sections}
use Rattle.gelf_view.specs.elf_descriptor.State.{State}
use Rattle.tool_output.specs.declared.stops.Stop.{Stop}
use Rattle.tool_output.specs.declared.outputs.Outputs.{Outputs}
use Rattle.tool_output.specs.Reports.{Report, Reports, UnderWay}
use Rattle.tool_output.specs.Steps.{OnRead, OnWrite, KeepsSinks, LeavesOutputs}

-- how many bytes may still be asked for: those of the homes that lie in the file and are not loaded
abbrev pub homes_left : {S : Type 0} → State S → ℕ
homes_left e = homes_due e.o e.loaded (all_sections e.o)

-- the bytes of all homes that lie in the file
abbrev pub homes_total : Object → ℕ
homes_total o = homes_due o [] (all_sections o)

-- whether the homes are longer together than the image, so that some of them overlap
unfoldable pub is_crowded : Object → Bool
is_crowded o = ltb (length o.base) (homes_total o)

-- how many bytes each pass over the sections may ask for once more: what lets go of the sections
-- that it went over, where homes overlap, reads their homes again when they are wanted again
unfoldable pub asked_again : Object → ℕ
asked_again o = if is_crowded o then homes_total o else 0

-- The object stays, and so does what the source holds. Of the descriptor more may be loaded, and of
-- one whose homes overlap less. A step that went well asked for no more than the homes that became
-- loaded, so that each home is asked for once by however many steps; where homes overlap, once more
-- for each pass over the sections.
pub record LeavesElfOver {S : Type 0} (s : SourceGhosts S) (passes : ℕ) (well : Type 0)
    (old new : State S) : Type 0 where
  pub object : new.o ≡ old.o
  pub told : new.told ≡ old.told
  pub source : Leaves s old.source new.source
  pub later : s.faults old.source ≤ s.faults new.source
  pub asked : well → s.taken new.source + homes_left new
      ≤ s.taken old.source + homes_left old + passes * asked_again old.o

-- of a step that lets go of nothing
abbrev pub LeavesElfBy : {S : Type 0} → SourceGhosts S → Type 0 → State S → State S → Type 0
LeavesElfBy s well old new = LeavesElfOver s 0 well old new

-- of one that went well
abbrev pub LeavesElf : {S : Type 0} → SourceGhosts S → State S → State S → Type 0
LeavesElf s old new = LeavesElfBy s (Unit {0}) old new

-- a step did not stop
abbrev pub WentOn : {T : Type 0} → Result T Stop → Type 0
WentOn (Ok x) = Unit {0}
WentOn (Err stop) = ⊥

-- a read of the source failed
abbrev pub SourceRose : {S : Type 0} → SourceGhosts S → State S → State S → Type 0
SourceRose s old new = Rose (s.faults old.source) (s.faults new.source)

-- It gives the report on the object, where the source tells its bytes, and leaves the object, by so
-- many passes over its sections. It stops by Read only where a read of the source failed.
pub record ReportsOver {S O E : Type 0} (s : SourceGhosts S) (o : SinkGhosts O) (e : SinkGhosts E)
    (passes : ℕ) (report : Object → Report) (result : Result Bool Stop) (old new : State S)
    (outputs_old outputs_new : Outputs O E) : Type 0 where
  pub reports : IsTrue old.told → Reports o e result outputs_old outputs_new (report old.o)
  pub elf : LeavesElfOver s passes (WentOn result) old new
  pub leaves : LeavesOutputs o e (SourceRose s old new) result outputs_old outputs_new

-- the same by a step that lets go of nothing
abbrev pub ReportsElf : {S O E : Type 0} → SourceGhosts S → SinkGhosts O → SinkGhosts E
    → (Object → Report) → Result Bool Stop → State S → State S → Outputs O E → Outputs O E
    → Type 0
ReportsElf s o e report result old new outputs_old outputs_new =
    ReportsOver s o e 0 report result old new outputs_old outputs_new

-- A call of the library is asked: it leaves the object, and answers Read only where a read of the
-- source failed.
pub record Looked {S T : Type 0} (s : SourceGhosts S) (result : Result T ElfError)
    (old new : State S) : Type 0 where
  pub elf : LeavesElfBy s (IfErr result IsRefusal) old new
  pub read : ReadRose result (s.faults old.source) (s.faults new.source)

-- It writes nothing and leaves the object. It stops by Read only where a read of the source failed,
-- and never by Write.
pub record ReadsElf {S T : Type 0} (s : SourceGhosts S) (result : Result T Stop)
    (old new : State S) : Type 0 where
  pub elf : LeavesElfBy s (WentOn result) old new
  pub read : OnRead result (SourceRose s old new)
  pub write : OnWrite result ⊥

-- besides, it gives a value that is stated of the object, where the source tells its bytes
pub record Learns {S T : Type 0} (s : SourceGhosts S) (stated : Object → T)
    (result : Result T Stop) (old new : State S) : Type 0 where
  pub value : IsTrue old.told → IfOk result (λ v. v ≡ stated old.o)
  pub reads : ReadsElf s result old new

-- Of a report on the object all but the rest was given, with `refused` as the answer so far, by so
-- many passes over its sections.
pub record ElfOver {S O E : Type 0} (s : SourceGhosts S) (o : SinkGhosts O) (e : SinkGhosts E)
    (passes : ℕ) (refused : Bool) (old new : State S) (outputs_old outputs_new : Outputs O E)
    (whole rest : Object → Report) : Type 0 where
  pub report : IsTrue old.told
      → UnderWay o e refused outputs_old outputs_new (whole old.o) (rest old.o)
  pub elf : LeavesElfOver s passes (Unit {0}) old new
  pub keeps : KeepsSinks o e outputs_old outputs_new

-- the same by what lets go of nothing: what is true of whatever goes over symbols or notes
abbrev pub ElfUnderWay : {S O E : Type 0} → SourceGhosts S → SinkGhosts O → SinkGhosts E → Bool
    → State S → State S → Outputs O E → Outputs O E → (Object → Report) → (Object → Report)
    → Type 0
ElfUnderWay s o e refused old new outputs_old outputs_new whole rest =
    ElfOver s o e 0 refused old new outputs_old outputs_new whole rest
