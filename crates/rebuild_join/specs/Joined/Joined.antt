-- What is made of the sections of the debug half, one after another.
use Rattle.std.specs.Prelude.{◌≡◌, ℕ, ◌+◌, ◌-◌, ◌==◌, ◌&&◌, not, Bool, List, [], ◌∷◌, filter, length, map, if◌then◌else◌, Some, None, Result, IsTrue, IfOk, IfErr, OnOk}
use Rattle.std.specs.List.{range_with_len}
use Rattle.elf_types.specs.Answers.{first_refusal}
use Rattle.elf_outside.specs.declared.sources.Source.{Ghosts}
use Rattle.rebuild_keep.specs.elf_object.Object.{Object, Section}
use Rattle.rebuild_keep.specs.elf_object.Due.{homes_due}
use Rattle.rebuild_keep.specs.elf_object.Layout.{section_numbers}
use Rattle.rebuild_keep.specs.elf_descriptor.State.{State}
use Rattle.rebuild_keep.specs.elf_object.Sections.{is_allocated, header_at}
use Rattle.rebuild_keep.specs.rebuild_model.Split.{counterpart, combined_section, combined_raw_refusal}
use Rattle.rebuild_keep.specs.rebuild_making.Made.{with_more}
use Rattle.rebuild_keep.specs.Makes.{AsksFor}
use Rattle.rebuild_join.specs.declared.joined.faults.UnstripFault.{UnstripFault as Fault}
use Rattle.rebuild_join.specs.Joined.Answers.{stated_fault, FaultBy, on_stripped, on_debug, homes_of_stripped, debug_due}

-- ---- The numbers of the allocated sections

-- an allocated section from 1 on
abbrev pub stands_in_memory : Object → ℕ → Bool
stands_in_memory o s = not (s == 0) && is_allocated (header_at o s)

-- its number alone
abbrev pub allocated_alone : Object → ℕ → List ℕ
allocated_alone o s = if stands_in_memory o s then s ∷ [] else []

-- those from 1 on and below a number
unfoldable pub allocated_below : Object → ℕ → List ℕ
allocated_below o s = filter (λ t. is_allocated (header_at o t)) (range_with_len 1 (s - 1))

-- ---- The home that is looked at for a section of the debug half, in the one half or the other

unfoldable pub stripped_reads : Object → Object → ℕ → List ℕ
stripped_reads stripped debug s = elim (counterpart stripped debug s) [
  | None ↦ []
  | Some t ↦ t ∷ []
]

unfoldable pub debug_reads : Object → Object → ℕ → List ℕ
debug_reads stripped debug s = elim (counterpart stripped debug s) [
  | None ↦ s ∷ []
  | Some t ↦ []
]

-- ---- What is left

-- an object got more sections, as many as are stated, and these where told
pub record HasMoreSections {S
    : Type 0} (told : Bool) (stated : List Section) (old new : State S) : Type 0
  where
    pub sections : List Section
    pub object : new.o ≡ with_more old.o sections
    pub long : length sections ≡ length stated
    pub exact : IsTrue told → sections ≡ stated
    pub told_is : new.told ≡ old.told

-- the section that is made of one of the debug half was added, or refused as is stated
pub record AddsNext {S T M : Type 0} (g : Ghosts S) (h : Ghosts T) (s : ℕ)
    (result : Result ℕ Fault) (old new : State S) (debug after : State T) (made grown : State M)
    : Type 0 where
  pub next : IfOk result (λ n. n ≡ length (allocated_below debug.o (s + 1)))
  pub adds : OnOk result (HasMoreSections (old.told && debug.told)
      (combined_section old.o debug.o s ∷ [])
      made grown)
  pub passed : OnOk result (combined_raw_refusal old.o debug.o s ≡ None)
  pub fault : IfErr result (λ f. FaultBy (combined_raw_refusal old.o debug.o s) (stated_fault f))
  pub asks_stripped : AsksFor g (on_stripped result) old new
      (homes_due old.o [] (stripped_reads old.o debug.o s))
  pub asks_debug : AsksFor h (on_debug result) debug after
      (homes_due debug.o [] (debug_reads old.o debug.o s))

-- all of them from 1 on were, or the first that is refused
pub record AddsAll {S T M : Type 0} (g : Ghosts S) (h : Ghosts T) (result : Result (Unit {0}) Fault)
    (old new : State S) (debug after : State T) (made grown : State M) : Type 0 where
  pub adds : OnOk result (HasMoreSections (old.told && debug.told)
      (map (combined_section old.o debug.o) (section_numbers debug.o)) made grown)
  pub passed : OnOk result
      (first_refusal (map (combined_raw_refusal old.o debug.o) (section_numbers debug.o)) ≡ None)
  pub fault : IfErr result (λ f. FaultBy
      (first_refusal (map (combined_raw_refusal old.o debug.o) (section_numbers debug.o)))
      (stated_fault f))
  pub asks_stripped : AsksFor g (on_stripped result) old new (homes_of_stripped old.o)
  pub asks_debug : AsksFor h (on_debug result) debug after (debug_due debug.o)
