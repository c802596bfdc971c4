-- The lines of a dynamic section.
use Rattle.std.proofs.Common.{◌≡◌, ℕ, Bool, true, false, ap}
use Rattle.std.specs.Prelude.{if◌then◌else◌}
use Rattle.elf_types.specs.declared.records.Dyn.{Dyn}
use Rattle.elf_object.specs.Object.{Object}
use Rattle.readelf_rows.specs.Links.{linked_string}
use Rattle.readelf_tables.specs.Dynamic.{names_string, dyn_name_line, dyn_value_line, dyn_row}

module _ (o : Object) (s : ℕ) (x : Dyn) (i : ℕ) where
  pub row_named : names_string x.tag ≡ true → dyn_row o s i x ≡ dyn_name_line i x (linked_string o s x.val)
  unfolding dyn_row
  row_named is = ap (λ (t : Bool). if t then dyn_name_line i x (linked_string o s x.val) else dyn_value_line i x) is

  pub row_valued : names_string x.tag ≡ false → dyn_row o s i x ≡ dyn_value_line i x
  unfolding dyn_row
  row_valued is = ap (λ (t : Bool). if t then dyn_name_line i x (linked_string o s x.val) else dyn_value_line i x) is
