-- The lines of the section headers (the part `S`).
use Rattle.std.specs.Prelude.{◌++◌, ℕ, List, length, Option, codes}
use Rattle.elf_types.specs.declared.records.Shdr.{Shdr}
use Rattle.elf_types.specs.Names.{section_type_name_of}
use Rattle.elf_object.specs.Object.{Object, section_at}
use Rattle.elf_object.specs.Due.{all_sections}
use Rattle.elf_object.specs.Strings.{section_name}
use Rattle.tool_output.specs.Reports.{Report, shown_report, joined_reports, reports_of}
use Rattle.tool_objects.specs.Sections.{bracketed}
use Rattle.readelf_rows.specs.Fields.{name_or_hex, hex_column, decimal_column, row_start, counted_line}

-- `  I NAME TYPE`
unfoldable pub section_start : ℕ → Option (List ℕ) → ℕ → List ℕ
section_start i name stype =
    row_start i ++ codes " " ++ bracketed name
    ++ codes " " ++ name_or_hex (section_type_name_of stype) stype

unfoldable pub section_places : Shdr → List ℕ
section_places h =
    hex_column (codes "flags") h.flags
    ++ hex_column (codes "addr") h.addr
    ++ hex_column (codes "offset") h.offset
    ++ hex_column (codes "size") h.size

unfoldable pub section_number_columns : Shdr → List ℕ
section_number_columns h =
    decimal_column (codes "link") h.link
    ++ decimal_column (codes "info") h.info
    ++ decimal_column (codes "align") h.addralign
    ++ decimal_column (codes "entsize") h.entsize

-- the line of one section, by its number
unfoldable pub section_line : ℕ → Option (List ℕ) → Shdr → List ℕ
section_line i name h =
    section_start i name h.stype ++ section_places h ++ section_number_columns h ++ codes "\n"

-- what stands before the name of a section, and the text with which that is opened
unfoldable pub section_front : ℕ → List ℕ → List ℕ
section_front i opening = row_start i ++ opening

-- what stands behind it, and before that the text with which it is closed
unfoldable pub section_end : List ℕ → Shdr → List ℕ
section_end closing h =
    closing ++ (name_or_hex (section_type_name_of h.stype) h.stype
    ++ (section_places h ++ (section_number_columns h ++ codes "\n")))

unfoldable pub sections_title : ℕ → List ℕ
sections_title count = counted_line (codes "Section headers: ") count

-- the line of a section of an object
unfoldable pub shown_section_line : Object → ℕ → Report
shown_section_line o s = shown_report (section_line s (section_name o s) (section_at o s).header)

-- their number, and a line for each
unfoldable pub sections_report : Object → Report
sections_report o =
    joined_reports (shown_report (sections_title (length o.sections)))
    (reports_of (shown_section_line o) (all_sections o))
