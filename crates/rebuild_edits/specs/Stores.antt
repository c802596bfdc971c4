-- What becomes of the names of an object, and how a new table is stored (gABI chapter 4, "Section
-- Header", sh_name).
use Rattle.std.specs.Prelude.{◌≡◌, ℕ, ◌==◌, Bool, true, false, List, map, slice_get, unwrap_or, if◌then◌else◌, Some, Result, Ok, Err}
use Rattle.std.specs.List.{enumerate_from}
use Rattle.elf_types.specs.declared.errors.ElfError.TheVariants as errors
use Rattle.rebuild_names.specs.elf_xlate.declared.content.Items.TheVariants as items
use Rattle.rebuild_changes.specs.elf_object.Object.{Object, Section}
use Rattle.rebuild_changes.specs.elf_object.Steps.{with_own}
use Rattle.rebuild_changes.specs.rebuild_model.Copied.{CopyFault as StatedFault}
use Rattle.rebuild_changes.specs.rebuild_model.Rebuilt.{table_refusal}
use Rattle.rebuild_edits.specs.declared.naming.NewNameTable.{NewNameTable}
use Rattle.rebuild_edits.specs.Edits.Steps.{IsPresentSection}
use Rattle.rebuild_edits.specs.declared.naming.Naming.{Naming}
use Rattle.rebuild_edits.specs.declared.naming.Naming.TheVariants.{Stay, NoTable, TooLarge, Anew}
use Rattle.rebuild_edits.specs.Texts.{IsTableOf}

-- ---- What becomes of the names

-- whether names change at all, whether there is a table of their own for them, and the names
abbrev pub IsNaming : Bool → Bool → List (List ℕ) → Naming → Type 0
IsNaming change renewed texts Stay = change ≡ false
IsNaming change renewed texts NoTable = (change ≡ true) × (renewed ≡ false)
IsNaming change renewed texts TooLarge =
    (change ≡ true) × (renewed ≡ true) × (table_refusal texts ≡ Some errors.TooLarge)
IsNaming change renewed texts (Anew names) =
    (change ≡ true) × (renewed ≡ true) × IsTableOf texts names

-- the table of these names, or that it would be too large
abbrev pub IsBuilt : List (List ℕ) → Naming → Type 0
IsBuilt texts Stay = ⊥
IsBuilt texts NoTable = ⊥
IsBuilt texts TooLarge = table_refusal texts ≡ Some errors.TooLarge
IsBuilt texts (Anew names) = IsTableOf texts names

-- ---- A new table, stored

-- a section with the place of its name, marked as gelf_update_shdr marks it
abbrev pub with_name_place : List ℕ → ℕ → Section → Section
with_name_place places s c =
    if s == 0 then c
    else (record c {
      header = record c.header { name = unwrap_or (slice_get places s) 0 };
      marked = true;
    })

unfoldable pub with_places : Object → List ℕ → Object
with_places o places = record o {
  sections = map (λ row. with_name_place places row.0 row.1) (enumerate_from 0 o.sections);
}

-- and with the table in the section of the names
unfoldable pub with_table : Object → NewNameTable → Object
with_table o names =
    with_own (with_places o names.places) o.header.shstrndx 0 (items.Bytes names.table)

-- what is made of an object
abbrev pub named_by : Naming → Object → Result Object StatedFault
named_by Stay o = Ok o
named_by NoTable o = Err StatedFault.NoTable
named_by TooLarge o = Err (StatedFault.Strip errors.TooLarge)
named_by (Anew names) o = Ok (with_table o names)

-- the section of the names is there, where a new table goes into it
abbrev pub HasNameTable : Naming → Object → Type 0
HasNameTable Stay o = Unit {0}
HasNameTable NoTable o = Unit {0}
HasNameTable TooLarge o = Unit {0}
HasNameTable (Anew names) o = IsPresentSection o o.header.shstrndx
