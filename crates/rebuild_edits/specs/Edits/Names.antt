-- The names of sections while some get new ones (gABI chapter 4, "Section Header", sh_name). Each
-- section has a mark: 0, or one more than the index of the change that names it last.
use Rattle.std.specs.Prelude.{ℕ, ◌-◌, ◌==◌, List, ◌∷◌, map, slice_get, unwrap_or, Option, Some, None, if◌then◌else◌}
use Rattle.std.specs.Option.{option_map}
use Rattle.law_rebuild.specs.elf_object.Object.{Object}
use Rattle.law_rebuild.specs.elf_object.Layout.{section_numbers}
use Rattle.law_rebuild.specs.elf_object.Strings.{section_name}
use Rattle.rebuild_changes.specs.declared.changes.NameBytes.{NameBytes}

-- the mark of a section; where there is none it is 0
abbrev pub mark_of : List ℕ → ℕ → ℕ
mark_of marks s = unwrap_or (slice_get marks s) 0

-- the new name that a mark stands for
abbrev pub new_name : List NameBytes → ℕ → Option (List ℕ)
new_name renames mark =
    if mark == 0 then None else option_map (λ n. n.bytes) (slice_get renames (mark - 1))

-- a new name stands in the place of the old one
abbrev pub name_over : Option (List ℕ) → Option (List ℕ) → Option (List ℕ)
name_over (Some name) old = Some name
name_over None old = old

-- the name of a section from 1 on
unfoldable pub name_now : Object → List ℕ → List NameBytes → ℕ → Option (List ℕ)
name_now o marks renames s = name_over (new_name renames (mark_of marks s)) (section_name o s)

-- the name of each section; section 0 has none
unfoldable pub names_now : Object → List ℕ → List NameBytes → List (Option (List ℕ))
names_now o marks renames = None ∷ map (name_now o marks renames) (section_numbers o)
