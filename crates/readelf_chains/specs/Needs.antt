-- The lines of the version needs (the part `V`), a format of GNU.
use Rattle.std.specs.Prelude.{◌++◌, ℕ, List, Option, codes}
use Rattle.elf_object.specs.Object.{Object}
use Rattle.tool_objects.specs.gelf_view.declared.versions.Verneed.{Verneed}
use Rattle.tool_objects.specs.gelf_view.declared.versions.Vernaux.{Vernaux}
use Rattle.tool_objects.specs.gelf_view.Chains.{verneeds, vernauxs, first_aux}
use Rattle.tool_output.specs.Names.{Name}
use Rattle.tool_output.specs.Reports.{Report}
use Rattle.tool_objects.specs.Sections.{bracketed}
use Rattle.readelf_rows.specs.Fields.{hex_column, decimal_column}
use Rattle.readelf_rows.specs.Links.{linked_string}
use Rattle.readelf_chains.specs.Chains.{bytes_report}
use Rattle.readelf_chains.specs.Entries.{entries_report, entries_of, entry_report}

-- `  need NAME`, the file of which versions are needed
unfoldable pub verneed_line : Option (List ℕ) → List ℕ
verneed_line file = codes "  need " ++ bracketed file ++ codes "\n"

-- `    version NAME ndx N flags 0xF hash 0xH`
unfoldable pub vernaux_numbers : Vernaux → List ℕ
vernaux_numbers x =
    decimal_column (codes "ndx") x.other ++ hex_column (codes "flags") x.flags
    ++ hex_column (codes "hash") x.hash

unfoldable pub vernaux_line : Vernaux → Option (List ℕ) → List ℕ
vernaux_line x name =
    codes "    version " ++ bracketed name ++ vernaux_numbers x ++ codes "\n"

-- the needs at a place, with their versions
unfoldable pub verneed_report : Name → Object → ℕ → (ℕ × Verneed) → Report
verneed_report name o s entry =
    entry_report name s (verneed_line (linked_string o s entry.1.file))
    (λ x. vernaux_line x (linked_string o s x.name))
    (vernauxs o s 0 (first_aux entry.0 entry.1.aux entry.1.cnt))

unfoldable pub needs_title : List ℕ
needs_title = codes "Version needs of section "

unfoldable pub needs_records : Name → Object → ℕ → Report
needs_records name o s =
    entries_report name s (verneed_report name o s) (entries_of o s (verneeds o s 0))

-- of a section that is in the file, and whose data is not compressed
unfoldable pub needs_of_section : Name → Object → ℕ → Report
needs_of_section name o s = bytes_report needs_title name o s (needs_records name o s)
