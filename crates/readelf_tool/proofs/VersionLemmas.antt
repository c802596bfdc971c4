-- Which version section is shown.
use Rattle.std.proofs.Common.{◌≡◌, ◌==◌, ℕ, Bool, true, false, ap, ◌∙◌}
use Rattle.std.specs.Prelude.{if◌then◌else◌}
use Rattle.elf_types.specs.declared.constants.TheConstants.{SHT_GNU_VERSYM, SHT_GNU_VERDEF}
use Rattle.elf_object.specs.Object.{Object, section_at}
use Rattle.tool_output.specs.Names.{Name}
use Rattle.tool_output.specs.Reports.{Report}
use Rattle.readelf_chains.specs.Definitions.{definitions_of_section}
use Rattle.readelf_chains.specs.Needs.{needs_of_section}
use Rattle.readelf_tables.specs.Indexes.{indexes_of_section}
use Rattle.readelf_tool.specs.Versions.{versions_of_section}

module _ (name : Name) (o : Object) (s : ℕ) where
  abbrev by : Bool → Bool → Report
  by indexes definitions =
      if indexes then indexes_of_section name o s
      else (if definitions then definitions_of_section name o s else needs_of_section name o s)

  abbrev has : ℕ → Bool
  has stype = (section_at o s).header.stype == stype

  pub indexes_shown : has SHT_GNU_VERSYM ≡ true → versions_of_section name o s ≡ indexes_of_section name o s
  unfolding versions_of_section
  indexes_shown is = ap (λ (t : Bool). by t (has SHT_GNU_VERDEF)) is

  pub definitions_shown : has SHT_GNU_VERSYM ≡ false → has SHT_GNU_VERDEF ≡ true → versions_of_section name o s ≡ definitions_of_section name o s
  unfolding versions_of_section
  definitions_shown not is = ap (λ (t : Bool). by t (has SHT_GNU_VERDEF)) not ∙ ap (by false) is

  pub needs_shown : has SHT_GNU_VERSYM ≡ false → has SHT_GNU_VERDEF ≡ false → versions_of_section name o s ≡ needs_of_section name o s
  unfolding versions_of_section
  needs_shown not neither = ap (λ (t : Bool). by t (has SHT_GNU_VERDEF)) not ∙ ap (by false) neither
