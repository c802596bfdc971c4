-- The lines of the version indexes, a format of GNU: the version of each symbol (of the part `V`).
use Rattle.std.specs.Prelude.{◌++◌, ◌%◌, nat_le, ℕ, List, [], codes, if◌then◌else◌}
use Rattle.elf_types.specs.declared.records.Kind.TheVariants as kinds
use Rattle.elf_object.specs.Object.{Object}
use Rattle.elf_object.specs.Answers.{items_at, halves_of, lend_refusal}
use Rattle.tool_output.specs.Names.{Name}
use Rattle.tool_output.specs.Reports.{Report}
use Rattle.readelf_tables.specs.declared.indexes.TheConstants.{VERSYM_HIDDEN}
use Rattle.readelf_rows.specs.Fields.{decimal_column, row_start}
use Rattle.readelf_rows.specs.Data.{if_told}
use Rattle.readelf_tables.specs.Tables.{item_table_report}

-- ` hidden`, where the top bit is set
unfoldable pub hidden_text : ℕ → List ℕ
hidden_text x = if nat_le VERSYM_HIDDEN x then codes " hidden" else []

-- `  I ndx V`; the index is the low 15 bits
unfoldable pub index_line : ℕ → ℕ → List ℕ
index_line i x =
    row_start i ++ decimal_column (codes "ndx") (x % VERSYM_HIDDEN) ++ hidden_text x ++ codes "\n"

unfoldable pub index_row : Object → ℕ → ℕ → ℕ → List ℕ
index_row o s i x = index_line i x

unfoldable pub indexes_title : List ℕ
indexes_title = codes "Version indexes of section "

unfoldable pub indexes_of_section : Name → Object → ℕ → Report
indexes_of_section name o s =
    if_told name (lend_refusal o kinds.Half s 0)
    (item_table_report indexes_title index_row o s (halves_of (items_at o s 0)))
