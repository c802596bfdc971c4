-- What is kept of two halves, for what they are halves of: the headers, how many bytes each section
-- has in the file, and where these are (eu-unstrip(1); gABI chapter 4, "Sections").
use Rattle.std.specs.Prelude.{◌≡◌, ℕ, ◌+◌, ◌&&◌, Bool, List, ◌++◌, length, map, Option, Some, None, Result, IfOk, IfErr, OnOk}
use Rattle.elf_types.specs.Answers.{first_refusal}
use Rattle.elf_types.specs.declared.records.Shdr.{Shdr}
use Rattle.elf_types.specs.declared.errors.ElfError.{ElfError}
use Rattle.elf_types.specs.declared.errors.ElfError.TheVariants.{Read, Write}
use Rattle.elf_xlate.specs.declared.content.Items.{Items}
use Rattle.elf_xlate.specs.declared.content.Items.TheVariants as items
use Rattle.elf_object.specs.Answers.{raw_refusal}
use Rattle.elf_object.specs.Layout.{section_numbers}
use Rattle.elf_object.specs.Object.{Object, section_at}
use Rattle.rebuild_keep.specs.elf_descriptor.State.{State}
use Rattle.elf_object.specs.Sections.{header_at}
use Rattle.rebuild_model.specs.Split.{UnstripFault, counterpart, loaded_header, combined_raw_refusal, combine_fault}
use Rattle.rebuild_keep.specs.rebuild_making.Refused.{RefusedBy}
use Rattle.rebuild_plan.specs.declared.contents.Contents.{Contents}
use Rattle.rebuild_plan.specs.Contents.{HasOneMore, AreKeptSections, HasKept}
use Rattle.rebuild_join.specs.declared.joined.faults.UnstripFault.{UnstripFault as Fault}
use Rattle.rebuild_join.specs.declared.joined.faults.UnstripFault.TheVariants as faults
use Rattle.rebuild_join.specs.Joined.Answers.{stated_fault, FaultBy}
use Rattle.rebuild_join.specs.Joined.Joined.{allocated_below}

-- ---- What is made of a section of the debug half

-- its header, with the type and the place of its counterpart, where it has one
unfoldable pub joined_header : Object → Object → ℕ → Shdr
joined_header stripped debug s = elim (counterpart stripped debug s) [
  | None ↦ header_at debug s
  | Some t ↦ loaded_header (header_at debug s) (header_at stripped t)
]

-- its own bytes, or those of its counterpart
unfoldable pub joined_bytes : Object → Object → ℕ → List ℕ
joined_bytes stripped debug s = elim (counterpart stripped debug s) [
  | None ↦ (section_at debug s).raw
  | Some t ↦ (section_at stripped t).raw
]

abbrev pub joined_items : Object → Object → ℕ → Items
joined_items stripped debug s = items.Bytes (joined_bytes stripped debug s)

-- ---- One section

-- no read and no write causes it
abbrev pub IsUnreadFault : Fault → Type 0
IsUnreadFault (faults.Elf Read) = ⊥
IsUnreadFault (faults.Elf Write) = ⊥
IsUnreadFault (faults.Debug Read) = ⊥
IsUnreadFault (faults.Debug Write) = ⊥
IsUnreadFault f = Unit {0}

-- a step adds a section with a header and the bytes of one of an object, or refuses that
pub record AddsHome (told : Bool) (base : List ℕ) (h : Shdr) (o : Object) (n : ℕ)
    (result : Result (Unit {0}) ElfError) (contents next : Contents) : Type 0 where
  pub ok : OnOk result (HasOneMore told base h (section_at o n).raw contents next)
  pub passed : OnOk result (raw_refusal o n ≡ None)
  pub err : IfErr result (RefusedBy (raw_refusal o n))

-- one of the stripped half, with the rest of a header, whatever stands behind its bytes
abbrev pub AddsLoaded : {S : Type 0} → State S → ℕ → Shdr → Result (Unit {0}) ElfError → Contents
    → Contents → Type 0
AddsLoaded s t h result contents next =
    (more : List ℕ) → AddsHome s.told (s.o.base ++ more) (loaded_header h (header_at s.o t)) s.o t
    result contents next

-- what is made of a section of the debug half, by so many allocated ones
pub record AddsJoined {S T : Type 0} (s : State S) (d : State T) (n : ℕ) (result : Result ℕ Fault)
    (contents next : Contents) : Type 0 where
  pub count : IfOk result (λ k. k ≡ length (allocated_below d.o (n + 1)))
  pub ok : OnOk result (HasOneMore (s.told && d.told) (s.o.base ++ d.o.base)
      (joined_header s.o d.o n) (joined_bytes s.o d.o n) contents next)
  pub passed : OnOk result (combined_raw_refusal s.o d.o n ≡ None)
  pub fault : IfErr result (λ f. FaultBy (combined_raw_refusal s.o d.o n) (stated_fault f))
  pub unread : IfErr result IsUnreadFault

-- ---- All of them

-- the refusals of the sections from 1 on, one after another
abbrev pub sections_refusal : Object → Object → Option UnstripFault
sections_refusal stripped debug =
    first_refusal (map (combined_raw_refusal stripped debug) (section_numbers debug))

-- section 0 and these were kept
abbrev pub AreJoined : {S T : Type 0} → State S → State T → List ℕ → Contents → Type 0
AreJoined s d numbers x =
    AreKeptSections (s.told && d.told) (s.o.base ++ d.o.base) (joined_header s.o d.o)
    (joined_bytes s.o d.o) numbers x

-- a step adds those from 1 on behind section 0, or refuses the first that is refused
pub record AddsAllJoined {S T : Type 0} (s : State S) (d : State T)
    (result : Result (Unit {0}) Fault) (next : Contents) : Type 0 where
  pub ok : OnOk result (AreJoined s d (section_numbers d.o) next)
  pub passed : OnOk result (sections_refusal s.o d.o ≡ None)
  pub fault : IfErr result (λ f. FaultBy (sections_refusal s.o d.o) (stated_fault f))
  pub unread : IfErr result IsUnreadFault

-- what is made of all, section 0 among them: nothing where there are none
abbrev pub HasJoined : {S T : Type 0} → State S → State T → Contents → Type 0
HasJoined s d x =
    HasKept (s.told && d.told) (s.o.base ++ d.o.base) (joined_header s.o d.o)
    (joined_bytes s.o d.o) (section_numbers d.o) (length d.o.sections) x

-- a step lists it, or refuses the first section that is refused
pub record ListsJoined {S T : Type 0} (s : State S) (d : State T) (result : Result Contents Fault)
    : Type 0 where
  pub ok : IfOk result (HasJoined s d)
  pub passed : OnOk result (sections_refusal s.o d.o ≡ None)
  pub fault : IfErr result (λ f. FaultBy (sections_refusal s.o d.o) (stated_fault f))
  pub unread : IfErr result IsUnreadFault

-- and whatever else is refused of two halves, exactly where that is stated
pub record KeepsJoined {S T : Type 0} (s : State S) (d : State T) (result : Result Contents Fault)
    : Type 0 where
  pub ok : IfOk result (HasJoined s d)
  pub passed : OnOk result (combine_fault s.o d.o ≡ None)
  pub fault : IfErr result (λ f. FaultBy (combine_fault s.o d.o) (stated_fault f))
  pub unread : IfErr result IsUnreadFault
