-- Sections whose data is a table: a title, and a row for each item. The parts `s`, `r` and `d` are
-- such, and the version indexes of `V`.
use Rattle.std.specs.Prelude.{◌≡◌, ◌++◌, ◌<◌, ℕ, List, [], length, slice_get, Option, Some, None, codes, decimal}
use Rattle.elf_types.specs.declared.records.Kind.{Kind}
use Rattle.elf_object.specs.Object.{Object}
use Rattle.elf_xlate.specs.declared.content.Items.{Items}
use Rattle.elf_object.specs.Answers.{items_at, lend_refusal}
use Rattle.elf_object.specs.Strings.{section_name}
use Rattle.tool_output.specs.Lines.{numbered_lines}
use Rattle.tool_output.specs.Reports.{Report, shown_report, joined_reports}
use Rattle.readelf_rows.specs.Data.{data_title}
use Rattle.readelf_rows.specs.declared.links.SectionLinks.{SectionLinks}
use Rattle.readelf_rows.specs.declared.links.ItemTable.{ItemTable}

-- ---- The lines

-- `TITLE S NAME: N`
unfoldable pub table_title : List ℕ → ℕ → Option (List ℕ) → ℕ → List ℕ
table_title title s name count =
    data_title title s name ++ codes ": " ++ decimal count ++ codes "\n"

-- the line of an item by its index
abbrev pub indexed_row : {A : Type 0} → (ℕ → A → List ℕ) → List A → ℕ → List ℕ
indexed_row line items i = elim (slice_get items i) [ None ↦ [] | Some x ↦ line i x ]

-- the title, and a line for each item
unfoldable pub item_table_report : {A : Type 0} → List ℕ → (Object → ℕ → ℕ → A → List ℕ)
    → Object → ℕ
    → List A → Report
item_table_report title line o s items =
    joined_reports (shown_report (table_title title s (section_name o s) (length items)))
    (shown_report (numbered_lines (line o s) 0 items))

-- ---- What the rows of a table need

-- the section is there, its items can be told and are so many, and the links are as they need them
pub record HasRows {A : Type 0} (kind : Kind) (list_of : Items → List A)
    (fits : Object → ℕ → SectionLinks → Type 0) (o : Object) (table : ItemTable) : Type 0 where
  pub section : table.section.0 < length o.sections
  pub passed : lend_refusal o kind table.section.0 0 ≡ None
  pub count : table.count ≡ length (list_of (items_at o table.section.0 0))
  pub fit : fits o table.section.0 table.links
