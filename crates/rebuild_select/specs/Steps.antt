-- The steps of strip as they are walked: what may be removed, what a walk finds, and which sections
-- are linked to.
use Rattle.std.specs.Prelude.{◌≡◌, ℕ, Bool, true, not, ◌==◌, ◌&&◌, ◌||◌, List, filter, length}
use Rattle.std.specs.List.{list_any}
use Rattle.rebuild_model.specs.elf_object.Object.{Object}
use Rattle.rebuild_model.specs.elf_object.Layout.{section_numbers}
use Rattle.rebuild_model.specs.elf_object.Due.{all_sections}
use Rattle.rebuild_model.specs.elf_object.Sections.{header_at, is_among}
use Rattle.rebuild_model.specs.Removed.{removable, is_named, is_debug_data}
use Rattle.rebuild_select.specs.Sets.{is_marked}

-- neither section 0 nor the section of the names
unfoldable pub may_go : Object → ℕ → Bool
may_go o s = not (s == 0) && not (s == o.header.shstrndx)

-- what a step removes: what was removed, and what it finds besides
unfoldable pub goes : Object → (ℕ → Bool) → List ℕ → ℕ → Bool
goes o finds removed s = may_go o s && (is_among removed s || finds s)

-- a list of sections that may be removed, ascending
abbrev pub IsRemovable : Object → List ℕ → Type 0
IsRemovable o removed = filter (is_among removed) (removable o) ≡ removed

-- a mark for each section, and none of one that stays
pub record AreMarksRemovable (o : Object) (marks : List Bool) (count : ℕ) : Type 0 where
  pub long : length marks ≡ count
  pub apart : (s : ℕ) → is_marked marks s ≡ true → may_go o s ≡ true

-- found by its name: by one of these names, and of debug data where that goes too
unfoldable pub goes_by_name : Bool → List (List ℕ) → Object → ℕ → Bool
goes_by_name debug_too names o s = is_named names o s || (debug_too && is_debug_data o s)

-- a section that passes a test links to another
unfoldable pub links_to : Object → (ℕ → Bool) → ℕ → ℕ → Bool
links_to o passes target s = passes s && (header_at o s).link == target

-- the sections to which one links that passes the test; section 0 links to nothing
unfoldable pub linked_by : Object → (ℕ → Bool) → List ℕ
linked_by o passes =
    filter (λ t. list_any (links_to o passes t) (section_numbers o)) (all_sections o)
