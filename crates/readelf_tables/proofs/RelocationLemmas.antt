-- The rows of relocations, and which a section has.
use Rattle.std.proofs.Common.{◌≡◌, ℕ, ◌==◌, Bool, true, false, refl, ap}
use Rattle.std.specs.Prelude.{if◌then◌else◌}
use Rattle.elf_types.specs.declared.records.Rel.{Rel}
use Rattle.elf_types.specs.declared.records.Rela.{Rela}
use Rattle.elf_types.specs.declared.constants.TheConstants.{SHT_RELA}
use Rattle.elf_object.specs.Object.{Object, section_at}
use Rattle.tool_output.specs.Names.{Name}
use Rattle.tool_output.specs.Reports.{Report}
use Rattle.readelf_tables.specs.Relocations.{rel_row, rela_row, rels_of_section, relas_of_section, relocations_of_section}
use Rattle.readelf_tables.specs.Blocks.Blocks.{entry_row, rel_entry, rela_entry}

-- ---- Rows by their entries

pub rel_rows_are : (o : Object) (s i : ℕ) (x : Rel) → rel_row o s i x ≡ entry_row o s (rel_entry i x)
unfolding rel_row
rel_rows_are o s i x = refl

pub rela_rows_are : (o : Object) (s i : ℕ) (x : Rela) → rela_row o s i x ≡ entry_row o s (rela_entry i x)
unfolding rela_row
rela_rows_are o s i x = refl

-- ---- Which relocations a section has

module _ (name : Name) (o : Object) (s : ℕ) where
  abbrev by : Bool → Report
  by rela = if rela then relas_of_section name o s else rels_of_section name o s

  pub relas_shown : ((section_at o s).header.stype == SHT_RELA) ≡ true → relocations_of_section name o s ≡ relas_of_section name o s
  unfolding relocations_of_section
  relas_shown is = ap by is

  pub rels_shown : ((section_at o s).header.stype == SHT_RELA) ≡ false → relocations_of_section name o s ≡ rels_of_section name o s
  unfolding relocations_of_section
  rels_shown is = ap by is
