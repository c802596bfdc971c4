-- Sections by their names.
use Rattle.std.specs.Prelude.{◌≡◌, ◌<◌, ◌==◌, ◌&&◌, ℕ, Bool, true, false, List, Option, Some, None}
use Rattle.std.specs.List.{list_any}
use Rattle.std.specs.Str.{bytes_eq}
use Rattle.rebuild_select.specs.declared.sought.sections.NamedSection.{NamedSection}
use Rattle.rebuild_select.specs.declared.sought.sections.NameIndex.{NameIndex}

-- whether a section stands under a name
abbrev pub stands_in : List NamedSection → List ℕ → ℕ → Bool
stands_in rows name s = list_any (λ r. bytes_eq name r.name.now && s == r.section) rows

abbrev pub stands_under : NameIndex → List ℕ → ℕ → Bool
stands_under x name s = stands_in x.rows.keys name s

-- the first section under a name, if there is one
abbrev pub IsFirstUnderName : NameIndex → List ℕ → Option ℕ → Type 0
IsFirstUnderName x name (Some s) =
    (stands_under x name s ≡ true) × ((t : ℕ) → t < s → stands_under x name t ≡ false)
IsFirstUnderName x name None = (t : ℕ) → stands_under x name t ≡ false
