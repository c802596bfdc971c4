-- The changes of copy and its faults, as they are stated.
use Rattle.std.specs.Prelude.{◌≡◌, ℕ, true, List, map, Option, Some, None, Result, Ok, Err}
use Rattle.std.specs.List.{list_all}
use Rattle.elf_types.specs.declared.errors.ElfError.{ElfError}
use Rattle.elf_types.specs.declared.errors.ElfError.TheVariants.{Memory, Read, Write}
use Rattle.elf_types.specs.Answers.{stated_refusal}
use Rattle.rebuild_changes.specs.Names.{is_section_name}
use Rattle.rebuild_model.specs.Copied.{Changes as StatedChanges, CopyFault as StatedFault}
use Rattle.rebuild_changes.specs.declared.changes.NameBytes.{NameBytes}
use Rattle.rebuild_changes.specs.declared.changes.NameBits.{NameBits}
use Rattle.rebuild_changes.specs.declared.changes.ChangeLists.{ChangeLists}
use Rattle.rebuild_changes.specs.declared.faults.CopyFault.{CopyFault}
use Rattle.rebuild_changes.specs.declared.faults.CopyFault.TheVariants as faults

-- ---- Changes

abbrev pub bytes_pair : NameBytes → List ℕ × List ℕ
bytes_pair n = (n.name, n.bytes)

abbrev pub bits_pair : NameBits → List ℕ × ℕ
bits_pair n = (n.name, n.bits)

abbrev pub stated_changes : ChangeLists → StatedChanges
stated_changes c = record {
  remove = c.remove;
  update = map bytes_pair c.update;
  rename = map bytes_pair c.rename;
  flags = map bits_pair c.flags;
  add = map bytes_pair c.add;
}

-- no name that a section gets holds a NUL byte, so that a string table can hold it
pub record HasPlainNames (c : ChangeLists) : Type 0 where
  pub rename : list_all (λ n. is_section_name n.bytes) c.rename ≡ true
  pub add : list_all (λ n. is_section_name n.name) c.add ≡ true

-- ---- Faults

abbrev pub strip_fault : Option ElfError → Option StatedFault
strip_fault None = None
strip_fault (Some e) = Some (StatedFault.Strip e)

-- the fault that is stated for one that came; none for want of memory and for a failed read
abbrev pub stated_copy_fault : CopyFault → Option StatedFault
stated_copy_fault (faults.NoSection name) = Some (StatedFault.NoSection name)
stated_copy_fault (faults.NoBytes name) = Some (StatedFault.NoBytes name)
stated_copy_fault (faults.Allocated name) = Some (StatedFault.Allocated name)
stated_copy_fault (faults.Fixed name) = Some (StatedFault.Fixed name)
stated_copy_fault faults.NoTable = Some StatedFault.NoTable
stated_copy_fault (faults.Strip e) = strip_fault (stated_refusal e)

-- a fault with a name is the stated one, or there was no memory for the name
abbrev pub IsFault : StatedFault → CopyFault → Type 0
IsFault fault (faults.Strip e) = e ≡ Memory
IsFault fault came = stated_copy_fault came ≡ Some fault

-- no read failed, and nothing was written
abbrev pub IsWithoutDeviceFault : {T : Type 0} → Result T CopyFault → Type 0
IsWithoutDeviceFault (Ok x) = Unit {0}
IsWithoutDeviceFault (Err (faults.Strip Read)) = ⊥
IsWithoutDeviceFault (Err (faults.Strip Write)) = ⊥
IsWithoutDeviceFault (Err fault) = Unit {0}

-- an answer without its value: of the faults those of a descriptor alone, since no other one has
-- its cause in memory or in a source
abbrev pub outer_result : {T : Type 0} → Result T CopyFault → Result (Unit {0}) ElfError
outer_result (Ok x) = Ok tt
outer_result (Err (faults.Strip e)) = Err e
outer_result (Err fault) = Ok tt
