-- Sections by those of their names that changes look for.
use Rattle.std.specs.Prelude.{◌≡◌, ℕ, true, List, slice_index_or, Option, None, Result, IfOk, OnOk}
use Rattle.elf_object.specs.Object.{Object}
use Rattle.elf_object.specs.Strings.{is_name}
use Rattle.rebuild_model.specs.Copied.{names_in, section_named, CopyFault as StatedFault}
use Rattle.rebuild_select.specs.declared.sought.sections.NameIndex.{NameIndex}
use Rattle.rebuild_select.specs.Sought.Names.{is_sought}
use Rattle.rebuild_select.specs.Sought.Rows.{stands_under}
use Rattle.rebuild_changes.specs.declared.faults.CopyFault.{CopyFault}
use Rattle.rebuild_changes.specs.declared.changes.NameBytes.{NameBytes}
use Rattle.rebuild_edits.specs.Edits.Names.{names_now}
use Rattle.rebuild_edits.specs.Edits.Steps.{Finds}
use Rattle.rebuild_plan.specs.declared.arranged.Arranged.{Arranged}
use Rattle.rebuild_copy.specs.Rows.{Origin}
use Rattle.rebuild_copy.specs.Steps.{known, Turns}

-- the name of a section, of the names of all
abbrev pub section_name_at : List (Option (List ℕ)) → ℕ → Option (List ℕ)
section_name_at names s = slice_index_or names s None

-- each section stands under its name, where that is one that is looked for
pub record IsIndexOf (index : NameIndex) (names : List (Option (List ℕ))) : Type 0 where
  pub under : (q : List ℕ) (t : ℕ) → is_sought index.sought q ≡ true
      → stands_under index q t ≡ is_name q (section_name_at names t)

-- the first section of a name is found, or it is stated that there is none
pub record FindsNamed (names : List (Option (List ℕ))) (name : List ℕ)
    (result : Result ℕ CopyFault) : Type 0 where
  pub finds : (p : Object)
      → Finds (λ s. s) (section_named names name) result (known p) (known p)
  pub here : IfOk result (λ s. is_name name (section_name_at names s) ≡ true)

-- the names that are stated are those by the marks, and each section stands under its name by them
pub record RenamesTo (p : Object) (renames : List NameBytes)
    (answer : Result (List (Option (List ℕ))) StatedFault) (result : Result (Unit {0}) CopyFault)
    (marks : List ℕ) (index : NameIndex) : Type 0 where
  pub finds : Finds (λ _. names_now p marks renames) answer result (known p) (known p)
  pub indexed : OnOk result (IsIndexOf index (names_now p marks renames))

-- the object that is stated is left, or the stated fault came, and each section stands under its
-- name as it is then
pub record UpdatesNameIndex (o : Origin) (p : Object) (answer : Result Object StatedFault)
    (result : Result (Unit {0}) CopyFault) (new : Arranged) (index : NameIndex) : Type 0 where
  pub turns : Turns o p answer result new
  pub indexed : OnOk result (IsIndexOf index (names_in turns.left))
