-- The names of the kept sections as they are added to a table, section by section (gABI chapter 4,
-- "String Table").
use Rattle.std.specs.Prelude.{◌≡◌, ℕ, ◌-◌, ◌^◌, ◌<◌, ◌≤◌, ◌==◌, Bool, true, false, not, List, [], ◌∷◌, ◌++◌, length, map, filter, Option, Some, None, if◌then◌else◌}
use Rattle.std.specs.List.{range_with_len, list_any}
use Rattle.elf_types.specs.declared.errors.ElfError.{ElfError}
use Rattle.elf_types.specs.declared.errors.ElfError.TheVariants.{TooLarge}
use Rattle.strtab_shared.specs.strtab_build.Table.{distinct, table, place_of}
use Rattle.rebuild_numbers.specs.elf_object.Object.{Object}
use Rattle.rebuild_numbers.specs.elf_object.Due.{all_sections}
use Rattle.rebuild_numbers.specs.elf_object.Strings.{section_name, or_empty_name, readable, string_answer}
use Rattle.rebuild_numbers.specs.elf_object.Sections.{is_among}
use Rattle.rebuild_numbers.specs.rebuild_model.Followed.{kept_from_1}
use Rattle.rebuild_numbers.specs.rebuild_model.Rebuilt.{kept_names}
use Rattle.rebuild_names.specs.Known.{AreHeld}
use Rattle.rebuild_names.specs.declared.building.Making.{Making}
use Rattle.rebuild_names.specs.declared.building.NewNames.{NewNames}

-- ---- What is stated

-- the place of a section's name, and 0 for section 0 and a removed one
unfoldable pub name_place : Object → List ℕ → ℕ → ℕ
name_place o removed s =
    if is_among (kept_from_1 o removed) s
    then place_of (or_empty_name (section_name o s)) (kept_names o removed)
    else 0

unfoldable pub new_names : Object → List ℕ → NewNames
new_names o removed = record {
  table = table (kept_names o removed);
  places = map (name_place o removed) (all_sections o);
}

-- ---- One name

-- a name that has no NUL
abbrev pub without_nul : List ℕ → List ℕ
without_nul name = if list_any (λ b. b == 0) name then [] else name

-- the same of one that was found
abbrev pub found_name : Option (List ℕ) → List ℕ
found_name None = []
found_name (Some name) = without_nul name

abbrev pub is_too_large_error : ElfError → Bool
is_too_large_error TooLarge = true
is_too_large_error e = false

-- a table with a name that has a place, or that is too large
abbrev pub IsAdded : List (List ℕ) → List (List ℕ) → List ℕ → Option ℕ → Type 0
IsAdded old new name None = 2 ^ 32 - 1 < length (table (old ++ name ∷ []))
IsAdded old new name (Some place) =
    (new ≡ distinct (old ++ name ∷ [])) × (place ≡ place_of name new)
    × (length (table (old ++ name ∷ [])) ≤ 2 ^ 32 - 1)

-- a place that was appended, if there is one
abbrev pub IsPlaceAppended : List ℕ → List ℕ → Option ℕ → Bool → Type 0
IsPlaceAppended old new None fits = fits ≡ false
IsPlaceAppended old new (Some place) fits = (fits ≡ true) × (new ≡ old ++ place ∷ [])

-- a name that was added, and its place
abbrev pub IsAddedAt : List (List ℕ) → List (List ℕ) → List ℕ → List ℕ → List ℕ → Bool → Type 0
IsAddedAt old new places more name false = 2 ^ 32 - 1 < length (table (old ++ name ∷ []))
IsAddedAt old new places more name true =
    (new ≡ distinct (old ++ name ∷ []))
    × (more ≡ places ++ place_of name new ∷ [])
    × (length (table (old ++ name ∷ [])) ≤ 2 ^ 32 - 1)

-- ---- Section by section

-- the name of a section that is kept was added
abbrev pub HasNameAdded : Object → ℕ → Making → Making → Bool → Type 0
HasNameAdded o s old new fits =
    IsAddedAt old.strings new.strings old.places new.places (or_empty_name (section_name o s)) fits

-- the name at a place of the old table, and the empty one where none can be read there
unfoldable pub old_name : Object → ℕ → List ℕ
old_name o at =
    or_empty_name (if o.header.shstrndx == 0 then None
    else readable (string_answer o o.header.shstrndx at))

-- the places that are known are those of the old table's names
abbrev pub KnowsNames : Object → Making → Type 0
KnowsNames o making = AreHeld (old_name o) making.known making.strings

-- of any section, which is kept or not
abbrev pub AddsBy : Bool → Object → ℕ → Making → Making → Bool → Type 0
AddsBy true o s old new fits = HasNameAdded o s old new fits
AddsBy false o s old new fits =
    (fits ≡ true) × (new.strings ≡ old.strings) × (new.places ≡ old.places ++ 0 ∷ [])

abbrev pub AddsSection : Object → List ℕ → ℕ → Making → Making → Bool → Type 0
AddsSection o removed s old new fits =
    AddsBy (is_among (kept_from_1 o removed) s) o s old new fits

-- the names of the kept sections from 1 on and below a number
unfoldable pub names_below : Object → List ℕ → ℕ → List (List ℕ)
names_below o removed below =
    map (λ s. or_empty_name (section_name o s))
    (filter (λ s. not (is_among removed s)) (range_with_len 1 (below - 1)))

-- the names of all sections below a number were added, and their places are those that they have in
-- the whole table
pub record AreNamesAdded (o : Object) (removed : List ℕ) (making : Making) (below : ℕ)
    : Type 0 where
  pub strings : making.strings ≡ distinct (names_below o removed below)
  pub places : making.places ≡ map (name_place o removed) (range_with_len 0 below)
  pub fits : length (table (names_below o removed below)) ≤ 2 ^ 32 - 1

-- all were added, or the table is too large
abbrev pub AreNamed : Object → List ℕ → Making → Bool → Type 0
AreNamed o removed making true = AreNamesAdded o removed making (length o.sections)
AreNamed o removed making false = 2 ^ 32 - 1 < length (table (kept_names o removed))

pub record IsFinished (making : Making) (names : NewNames) : Type 0 where
  pub table_is : names.table ≡ table making.strings
  pub places_are : names.places ≡ making.places
