-- What the debug half has of the sections of an object: their headers, how many bytes they have in
-- the file, and where these are (eu-strip(1) with -f; gABI chapter 4, "Sections").
use Rattle.std.specs.Prelude.{◌≡◌, ℕ, length, map, None, Result, IfOk, IfErr, OnOk}
use Rattle.elf_types.specs.Answers.{first_refusal}
use Rattle.elf_types.specs.declared.records.Kind.TheVariants as kinds
use Rattle.elf_types.specs.declared.errors.ElfError.{ElfError}
use Rattle.elf_object.specs.Object.{Object}
use Rattle.elf_object.specs.Layout.{section_numbers}
use Rattle.rebuild_object.specs.elf_descriptor.State.{State}
use Rattle.rebuild_model.specs.Split.{debug_raw_refusal, debug_refusal}
use Rattle.rebuild_object.specs.rebuild_making.Refused.{RefusedBy}
use Rattle.rebuild_object.specs.rebuild_plan.declared.contents.Contents.{Contents}
use Rattle.rebuild_object.specs.rebuild_plan.Contents.{HasOneMore, AreKeptSections, HasKept}
use Rattle.rebuild_object.specs.rebuild_plan.Reading.{IsReadAs, AreReadAs, IsReadOf}
use Rattle.rebuild_debug.specs.Half.{half_header, debug_half_bytes, half_range_due}

-- a step adds what it has of a section, or refuses that
pub record AddsHalf {S : Type 0} (s : State S) (n : ℕ) (result : Result (Unit {0}) ElfError)
    (contents next : Contents) : Type 0 where
  pub ok : OnOk result
      (HasOneMore s.told s.o.base (half_header s.o n) (debug_half_bytes s.o n) contents next)
  pub read : OnOk result (IsReadAs kinds.Bytes (half_range_due s.o n) contents next)
  pub passed : OnOk result (debug_raw_refusal s.o n ≡ None)
  pub err : IfErr result (RefusedBy (debug_raw_refusal s.o n))

-- of all sections from 1 on, behind section 0
pub record AddsHalves {S : Type 0} (s : State S) (result : Result (Unit {0}) ElfError)
    (next : Contents) : Type 0 where
  pub ok : OnOk result
      (AreKeptSections s.told s.o.base (half_header s.o) (debug_half_bytes s.o)
      (section_numbers s.o) next)
  pub read : OnOk result
      (AreReadAs (λ n. kinds.Bytes) (half_range_due s.o) (section_numbers s.o) next)
  pub passed : OnOk result
      (first_refusal (map (debug_raw_refusal s.o) (section_numbers s.o)) ≡ None)
  pub err : IfErr result
      (RefusedBy (first_refusal (map (debug_raw_refusal s.o) (section_numbers s.o))))

-- what it has of all of them
abbrev pub HasHalf : {S : Type 0} → State S → Contents → Type 0
HasHalf s x =
    HasKept s.told s.o.base (half_header s.o) (debug_half_bytes s.o) (section_numbers s.o)
    (length s.o.sections) x

-- as what it is read
abbrev pub IsHalfRead : Object → Contents → Type 0
IsHalfRead o x =
    IsReadOf (λ n. kinds.Bytes) (half_range_due o) (section_numbers o) (length o.sections) x

-- a step lists it, or refuses the first section that is refused
pub record ListsHalf {S : Type 0} (s : State S) (result : Result Contents ElfError) : Type 0 where
  pub ok : IfOk result (HasHalf s)
  pub read : IfOk result (IsHalfRead s.o)
  pub passed : OnOk result
      (first_refusal (map (debug_raw_refusal s.o) (section_numbers s.o)) ≡ None)
  pub err : IfErr result
      (RefusedBy (first_refusal (map (debug_raw_refusal s.o) (section_numbers s.o))))

-- and whatever else is refused of the debug half, exactly where that is stated
pub record KeepsHalf {S : Type 0} (s : State S) (result : Result Contents ElfError) : Type 0 where
  pub ok : IfOk result (HasHalf s)
  pub read : IfOk result (IsHalfRead s.o)
  pub passed : OnOk result (debug_refusal s.o ≡ None)
  pub err : IfErr result (RefusedBy (debug_refusal s.o))
