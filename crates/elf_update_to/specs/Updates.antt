-- What an update to a sink does (elf_update with ELF_C_WRITE, to a file that is written from its
-- beginning).
use Rattle.std.specs.Prelude.{◌≡◌, ℕ, List, Result, Ok, Err, OnOk, OnErr}
use Rattle.elf_types.specs.declared.errors.ElfError.{ElfError}
use Rattle.elf_types.specs.declared.errors.ElfError.TheVariants.{Read, Write}
use Rattle.elf_update_plan.specs.elf_outside.Asks.{UsesSource}
use Rattle.elf_update_plan.specs.elf_outside.Puts.{UsesSink}
use Rattle.elf_update_plan.specs.elf_outside.Writes.{Appends, AppendsFront}
use Rattle.elf_update_plan.specs.elf_outside.declared.sources.Source.{Ghosts}
use Rattle.elf_update_plan.specs.elf_outside.declared.sinks.Sink.{Ghosts as SinkGhosts}
use Rattle.elf_update_plan.specs.elf_object.Object.{Object}
use Rattle.elf_update_plan.specs.elf_object.Layout.{placed, places_of}
use Rattle.elf_update_plan.specs.elf_object.Image.{image}
use Rattle.elf_update_plan.specs.elf_object.Due.{update_to_due}
use Rattle.elf_update_plan.specs.elf_object.Words.{UpdateAnswers}
use Rattle.elf_update_plan.specs.elf_object.Calls.{update_null}
use Rattle.elf_update_plan.specs.law_object.Writing.Ready.{IsReady}
use Rattle.elf_update_plan.specs.elf_descriptor.State.{State}
use Rattle.elf_update_to.specs.declared.updates.PlannedParts.{PlannedParts}
use Rattle.elf_update_to.specs.Texts.{IsText}
use Rattle.elf_update_to.specs.Descriptors.{planned}

-- the plan and the places of an object that an update writes
pub record IsPlanned (o : Object) (p : PlannedParts) : Type 0 where
  pub ready : IsReady o
  pub parts : p.parts ≡ planned o
  pub places : p.places ≡ places_of o

-- one fact of an update that has begun to write, and another of one that was refused before
abbrev pub OnBegun : {A : Type 0} → Result A ElfError → Type 0 → Type 0 → Type 0
OnBegun (Ok x) begun refused = begun
OnBegun (Err Read) begun refused = begun
OnBegun (Err Write) begun refused = begun
OnBegun (Err e) begun refused = refused

-- The answer is that of an update that stores places and writes nothing, but for Read and Write.
-- The sink gained the image, or a front of it where a read or a put failed. Over a source that does
-- not tell its bytes it gained as many bytes. The object is as after places are stored, marks
-- included, and nothing else of the descriptor changed but what the source counts. It asks for at
-- most the bytes that it is due, and each cause is a count. A refusal leaves descriptor and sink.
pub record UpdatesTo {S K : Type 0} (g : Ghosts S) (k : SinkGhosts K) (result : Result ℕ ElfError)
    (old new : State S) (sink next : K) : Type 0 where
  pub answer : UpdateAnswers result (update_null.answer old.o)
  pub state : OnBegun result (new ≡ record old { o = placed old.o; source = new.source })
      (new ≡ old)
  pub source : UsesSource g result old.source new.source (update_to_due old.o old.loaded)
  pub text : List ℕ
  pub is : IsText old.told (image old.o) text
  pub wrote : OnOk result (Appends (k.wrote sink) (k.wrote next) text)
  pub front : OnErr result (AppendsFront (k.wrote sink) (k.wrote next) text)
  pub uses : UsesSink k result sink next
  pub unput : OnBegun result (Unit {0}) (next ≡ sink)
