-- The names of all sections, as they are added to a new table one after another (gABI chapter 4,
-- "String Table").
use Rattle.std.specs.Prelude.{◌≡◌, ◌≤◌, ℕ, ◌-◌, ◌^◌, Bool, true, false, List, ◌∷◌, ◌++◌, length, drop, map, take, Some, None}
use Rattle.elf_types.specs.declared.errors.ElfError.TheVariants as errors
use Rattle.strtab_build.specs.Table.{distinct, table, place_of}
use Rattle.rebuild_changes.specs.elf_object.Object.{Object}
use Rattle.rebuild_changes.specs.elf_object.Strings.{or_empty_name}
use Rattle.rebuild_changes.specs.rebuild_model.Rebuilt.{table_refusal}
use Rattle.rebuild_edits.specs.declared.naming.NewNameTable.{NewNameTable}
use Rattle.rebuild_changes.specs.declared.changes.ChangeLists.{ChangeLists}
use Rattle.rebuild_changes.specs.Stated.{stated_changes}
use Rattle.rebuild_edits.specs.Edits.Names.{names_now}

-- the names of the sections from 1 on as they are by now, and behind them those that are added; one
-- that is none is empty
unfoldable pub all_texts : Object → List ℕ → ChangeLists → List (List ℕ)
all_texts o marks c =
    map or_empty_name
    (drop 1
    (names_now o marks c.rename ++ map (λ change. Some change.0) (stated_changes c).add))

-- the first ones were added, and have the places that they have in the whole table; section 0 has
-- no name
pub record AreTextsAdded (texts strings : List (List ℕ)) (places : List ℕ) (n : ℕ) : Type 0 where
  pub strings_are : strings ≡ distinct (take n texts)
  pub places_are : places ≡ 0 ∷ map (λ text. place_of text texts) (take n texts)
  pub fits : length (table (take n texts)) ≤ 2 ^ 32 - 1

-- so many were added, or the table is too large
abbrev pub AddsTo : List (List ℕ) → List (List ℕ) → List ℕ → ℕ → Bool → Type 0
AddsTo texts strings places n true = AreTextsAdded texts strings places n
AddsTo texts strings places n false = table_refusal texts ≡ Some errors.TooLarge

-- the table of these names, and the place of each of them
pub record IsTableOf (texts : List (List ℕ)) (names : NewNameTable) : Type 0 where
  pub passed : table_refusal texts ≡ None
  pub table_is : names.table ≡ table texts
  pub places_are : names.places ≡ 0 ∷ map (λ text. place_of text texts) texts
