-- The changes of an object that was made anew, from the last one back, and the index of the names.
use Rattle.std.specs.Prelude.{◌≡◌, ◌⊎◌, ℕ, ◌++◌, ◌==◌, nat_lt, not, Bool, false, List, map, Option, Some, Result, Ok, Err, if◌then◌else◌}
use Rattle.elf_types.specs.Answers.{◌>>=◌}
use Rattle.elf_types.specs.declared.errors.ElfError.{ElfError}
use Rattle.elf_types.specs.declared.errors.ElfError.TheVariants as errors
use Rattle.elf_object.specs.Object.{Object}
use Rattle.elf_object.specs.Sections.{in_turn}
use Rattle.rebuild_model.specs.Arranged.{Rebuilt, arranged}
use Rattle.rebuild_model.specs.Copied.{Changes, CopyFault as StatedFault, or_strip, names_in, with_name, with_section_flags, with_added, named, changes_names, with_changes}
use Rattle.rebuild_object.specs.rebuild_keep.Answers.{EarlyBy, early_refusal}
use Rattle.rebuild_changes.specs.declared.faults.CopyFault.{CopyFault}
use Rattle.rebuild_changes.specs.declared.faults.CopyFault.TheVariants as faults
use Rattle.rebuild_edits.specs.rebuild_making.Placing.{made_of}
use Rattle.rebuild_edits.specs.Edits.Steps.{IsPresentSection}
use Rattle.rebuild_edits.specs.declared.naming.Naming.{Naming}
use Rattle.rebuild_edits.specs.Stores.{named_by}

-- ---- The changes, from the last one back

-- new sections, and then what becomes of the names
abbrev pub added_named : Changes → Naming → Object → Result Object StatedFault
added_named c naming o = in_turn with_added o c.add >>= named_by naming

-- other flags before that
abbrev pub flagged_named : Changes → List (Option (List ℕ)) → Naming → Object
    → Result Object StatedFault
flagged_named c names naming o =
    in_turn (with_section_flags names) o c.flags >>= added_named c naming

-- what is stated of the names in the end
abbrev pub changed_names_stored : Changes → Bool → List (Option (List ℕ)) → Object
    → Result Object StatedFault
changed_names_stored c renewed names o =
    if changes_names c
    then named renewed o (names ++ map (λ change. Some change.0) c.add)
    else Ok o

-- what follows the names
abbrev pub after_names : Changes → Bool → Object → List (Option (List ℕ))
    → Result Object StatedFault
after_names c renewed o names =
    in_turn (with_section_flags names) o c.flags >>= λ flagged.
    in_turn with_added flagged c.add >>= changed_names_stored c renewed names

-- what follows the bytes
abbrev pub after_updates : Changes → Bool → Object → Result Object StatedFault
after_updates c renewed o = in_turn with_name (names_in o) c.rename >>= after_names c renewed o

-- an object with its places, as a step of copy
abbrev pub placed_copy : Option ℕ → Object → Result Rebuilt StatedFault
placed_copy tail o = or_strip (arranged (made_of o tail))

-- what the changes and the places make of an object that was made anew
abbrev pub changed_placed : Changes → Bool → Option ℕ → Object → Result Rebuilt StatedFault
changed_placed c renewed tail o = with_changes c renewed o >>= placed_copy tail

abbrev pub changed_anew : Changes → Bool → Rebuilt → Result Rebuilt StatedFault
changed_anew c renewed r = changed_placed c renewed r.tail r.object

-- ---- The index of the names

-- the string index is the number of a section from 1 on, or 0 where no table of names is renewed
abbrev pub IsUsable : Object → Bool → Type 0
IsUsable o renewed =
    ((o.header.shstrndx ≡ 0) × (renewed ≡ false)) ⊎ IsPresentSection o o.header.shstrndx

-- by a test of the numbers
abbrev pub usable_at : ℕ → ℕ → Bool → Bool
usable_at index count renewed = if index == 0 then not renewed else nat_lt index count

-- it says that a number is that of no section
abbrev pub IsNoSection : ElfError → Type 0
IsNoSection (errors.NoSection i n) = Unit {0}
IsNoSection e = ⊥

-- refused before it is made anew, or while it is, by counts, kinds, extents and sizes as stated; or
-- what was made of bytes that are not told has a string index that is the number of no section
abbrev pub EndsEarly : {T : Type 0} → Object → List ℕ → Result T CopyFault → Type 0
EndsEarly o removed (Err (faults.Strip e)) = EarlyBy (early_refusal o removed) e ⊎ IsNoSection e
EndsEarly o removed _ = ⊥
