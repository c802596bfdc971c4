-- What an object that was created for two halves is filled with, and the two halves joined.
use Rattle.std.specs.Prelude.{◌≡◌, ℕ, ◌&&◌, map, None, Result, IsTrue, IfErr, OnOk}
use Rattle.elf_types.specs.Answers.{first_refusal}
use Rattle.elf_outside.specs.declared.sources.Source.{Ghosts}
use Rattle.rebuild_keep.specs.elf_object.Layout.{section_numbers}
use Rattle.rebuild_keep.specs.elf_descriptor.State.{State}
use Rattle.rebuild_keep.specs.rebuild_model.Arranged.{Rebuilt}
use Rattle.rebuild_keep.specs.rebuild_model.Split.{UnstripFault, combined_sections, combined_raw_refusal, combine_fault, unstripped}
use Rattle.rebuild_keep.specs.Answers.{HasSections, IsFilled}
use Rattle.rebuild_keep.specs.Makes.{AsksFor}
use Rattle.rebuild_join.specs.declared.joined.faults.UnstripFault.{UnstripFault as Fault}
use Rattle.rebuild_join.specs.Joined.Answers.{stated_fault, UnstripAnswers, FaultBy, EarlyFault, on_stripped, on_debug, homes_of_stripped, debug_due}

-- section 0 and the sections that are made of those of the debug half, or the first refusal
pub record FillsSections {S T M : Type 0} (g : Ghosts S) (h : Ghosts T)
    (result : Result (Unit {0}) Fault) (old new : State S) (debug after : State T)
    (made grown : State M) : Type 0 where
  pub sections : OnOk result (HasSections (old.told && debug.told)
      (combined_sections old.o debug.o) made grown)
  pub passed : OnOk result
      (first_refusal (map (combined_raw_refusal old.o debug.o) (section_numbers debug.o)) ≡ None)
  pub fault : IfErr result (λ f. FaultBy
      (first_refusal (map (combined_raw_refusal old.o debug.o) (section_numbers debug.o)))
      (stated_fault f))
  pub asks_stripped : AsksFor g (on_stripped result) old new (homes_of_stripped old.o)
  pub asks_debug : AsksFor h (on_debug result) debug after (debug_due debug.o)

-- the program headers and the header besides, or the first refusal but that of a place
pub record FillsJoined {S T M : Type 0} (g : Ghosts S) (h : Ghosts T)
    (result : Result (Unit {0}) Fault) (old new : State S) (debug after : State T)
    (made filled : State M) : Type 0 where
  pub filled_is : OnOk result (IsFilled (old.told && debug.told) old.o debug.o.header.shstrndx
      (combined_sections old.o debug.o) made filled)
  pub passed : OnOk result (combine_fault old.o debug.o ≡ None)
  pub fault : IfErr result (λ f. FaultBy (combine_fault old.o debug.o) (stated_fault f))
  pub asks_stripped : AsksFor g (on_stripped result) old new (homes_of_stripped old.o)
  pub asks_debug : AsksFor h (on_debug result) debug after (debug_due debug.o)

-- It answers as is stated of the two halves, and leaves both; so much is asked of the stripped one.
pub record Joins {S T A : Type 0} (g : Ghosts S) (h : Ghosts T) (seen : Result Rebuilt UnstripFault)
    (result : Result A Fault) (due : ℕ) (old new : State S) (debug after : State T) : Type 0 where
  pub answer : IsTrue old.told → IsTrue debug.told
      → UnstripAnswers seen (unstripped old.o debug.o)
  pub passed : OnOk result (combine_fault old.o debug.o ≡ None)
  pub early : IfErr result (λ f. EarlyFault (combine_fault old.o debug.o) (stated_fault f))
  pub asks_stripped : AsksFor g (on_stripped result) old new due
  pub asks_debug : AsksFor h (on_debug result) debug after (debug_due debug.o)
