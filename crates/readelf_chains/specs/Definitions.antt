-- The lines of the version definitions (the part `V`), a format of GNU.
use Rattle.std.specs.Prelude.{◌++◌, ℕ, List, Option, codes}
use Rattle.elf_object.specs.Object.{Object}
use Rattle.tool_objects.specs.gelf_view.declared.versions.Verdef.{Verdef}
use Rattle.tool_objects.specs.gelf_view.declared.versions.Verdaux.{Verdaux}
use Rattle.tool_objects.specs.gelf_view.Chains.{verdefs, verdauxs, first_aux}
use Rattle.tool_output.specs.Names.{Name}
use Rattle.tool_output.specs.Reports.{Report}
use Rattle.tool_objects.specs.Sections.{bracketed}
use Rattle.readelf_rows.specs.Fields.{hex_column, decimal_column}
use Rattle.readelf_rows.specs.Links.{linked_string}
use Rattle.readelf_chains.specs.Chains.{bytes_report}
use Rattle.readelf_chains.specs.Entries.{entries_report, entries_of, entry_report}

-- `  def ndx N flags 0xF hash 0xH`
unfoldable pub verdef_line : Verdef → List ℕ
verdef_line x =
    codes "  def" ++ decimal_column (codes "ndx") x.ndx ++ hex_column (codes "flags") x.flags
    ++ hex_column (codes "hash") x.hash ++ codes "\n"

-- `    name NAME`
unfoldable pub verdaux_line : Verdaux → Option (List ℕ) → List ℕ
verdaux_line x name = codes "    name " ++ bracketed name ++ codes "\n"

-- the definition at a place, with its names
unfoldable pub verdef_report : Name → Object → ℕ → (ℕ × Verdef) → Report
verdef_report name o s entry =
    entry_report name s (verdef_line entry.1)
    (λ x. verdaux_line x (linked_string o s x.name))
    (verdauxs o s 0 (first_aux entry.0 entry.1.aux entry.1.cnt))

unfoldable pub definitions_title : List ℕ
definitions_title = codes "Version definitions of section "

unfoldable pub definitions_records : Name → Object → ℕ → Report
definitions_records name o s =
    entries_report name s (verdef_report name o s) (entries_of o s (verdefs o s 0))

-- of a section that is in the file, and whose data is not compressed
unfoldable pub definitions_of_section : Name → Object → ℕ → Report
definitions_of_section name o s =
    bytes_report definitions_title name o s (definitions_records name o s)
