-- The lines of the dynamic sections (the part `d`).
use Rattle.std.specs.Prelude.{◌++◌, ◌==◌, ◌||◌, ℕ, ℤ, pos, negsuc, List, Bool, false, Option, codes, if◌then◌else◌}
use Rattle.std.specs.Int.{cast_unsigned, w64}
use Rattle.elf_types.specs.declared.records.Dyn.{Dyn}
use Rattle.elf_types.specs.declared.records.Kind.TheVariants as kinds
use Rattle.elf_types.specs.declared.constants.TheConstants.{SHT_DYNAMIC}
use Rattle.elf_types.specs.Names.{tag_name_of}
use Rattle.elf_types.specs.Text.{hex}
use Rattle.elf_object.specs.Object.{Object}
use Rattle.elf_object.specs.Answers.{items_at, dyns_of, lend_refusal}
use Rattle.tool_output.specs.Names.{Name}
use Rattle.tool_output.specs.Reports.{Report}
use Rattle.tool_objects.specs.Sections.{bracketed}
use Rattle.readelf_rows.specs.Fields.{name_or_hex, row_start}
use Rattle.readelf_rows.specs.Links.{linked_string}
use Rattle.readelf_rows.specs.Data.{if_told, each_plain}
use Rattle.readelf_tables.specs.Tables.{item_table_report}

-- the tags whose value is the offset of a string: DT_NEEDED, DT_SONAME, DT_RPATH, DT_RUNPATH (gABI
-- chapter 5, "Dynamic Section")
unfoldable pub names_string : ℤ → Bool
names_string (pos n) = n == 1 || n == 14 || n == 15 || n == 29
names_string (negsuc n) = false

-- `  I TAG`; a tag without a name is shown modulo 2^64
unfoldable pub dyn_start : ℕ → ℤ → List ℕ
dyn_start i tag =
    row_start i ++ codes " " ++ name_or_hex (tag_name_of tag) (cast_unsigned w64 tag)

-- with its string, or with its value
unfoldable pub dyn_name_line : ℕ → Dyn → Option (List ℕ) → List ℕ
dyn_name_line i x name = dyn_start i x.tag ++ codes " " ++ bracketed name ++ codes "\n"

unfoldable pub dyn_value_line : ℕ → Dyn → List ℕ
dyn_value_line i x = dyn_start i x.tag ++ codes " 0x" ++ hex x.val ++ codes "\n"

-- its string stands in the linked section
unfoldable pub dyn_row : Object → ℕ → ℕ → Dyn → List ℕ
dyn_row o s i x =
    if names_string x.tag then dyn_name_line i x (linked_string o s x.val) else dyn_value_line i x

unfoldable pub dynamic_title : List ℕ
dynamic_title = codes "Dynamic section "

-- the entries of a section that is in the file, and whose data is not compressed
unfoldable pub dynamic_of_section : Name → Object → ℕ → Report
dynamic_of_section name o s =
    if_told name (lend_refusal o kinds.Dyn s 0)
    (item_table_report dynamic_title dyn_row o s (dyns_of (items_at o s 0)))

abbrev pub holds_dynamic : ℕ → Bool
holds_dynamic stype = stype == SHT_DYNAMIC

-- those of each such section, by number
unfoldable pub dynamic_report : Name → Object → Report
dynamic_report name o = each_plain holds_dynamic name o (dynamic_of_section name o)
