-- The lines of the relocations (the part `r`).
use Rattle.std.specs.Prelude.{◌==◌, ◌||◌, ℕ, List, Bool, Some, None, codes, if◌then◌else◌}
use Rattle.elf_types.specs.declared.records.Rel.{Rel}
use Rattle.elf_types.specs.declared.records.Rela.{Rela}
use Rattle.elf_types.specs.declared.records.Kind.TheVariants as kinds
use Rattle.elf_types.specs.declared.constants.TheConstants.{SHT_REL, SHT_RELA}
use Rattle.elf_object.specs.Object.{Object, section_at}
use Rattle.elf_object.specs.Answers.{items_at, rels_of, relas_of, lend_refusal}
use Rattle.tool_output.specs.Names.{Name}
use Rattle.tool_output.specs.Reports.{Report}
use Rattle.readelf_rows.specs.Data.{if_told, each_plain}
use Rattle.readelf_tables.specs.Blocks.RelocationLines.{relocation_name, relocation_line, without_addend}
use Rattle.readelf_tables.specs.Tables.{item_table_report}

-- ---- The rows

unfoldable pub rel_row : Object → ℕ → ℕ → Rel → List ℕ
rel_row o s i x = relocation_line i x None (relocation_name o s x.sym)

unfoldable pub rela_row : Object → ℕ → ℕ → Rela → List ℕ
rela_row o s i x =
    relocation_line i (without_addend x) (Some x.addend) (relocation_name o s x.sym)

-- ---- The relocations of a section

unfoldable pub relocations_title : List ℕ
relocations_title = codes "Relocations of section "

unfoldable pub rels_of_section : Name → Object → ℕ → Report
rels_of_section name o s =
    if_told name (lend_refusal o kinds.Rel s 0)
    (item_table_report relocations_title rel_row o s (rels_of (items_at o s 0)))

unfoldable pub relas_of_section : Name → Object → ℕ → Report
relas_of_section name o s =
    if_told name (lend_refusal o kinds.Rela s 0)
    (item_table_report relocations_title rela_row o s (relas_of (items_at o s 0)))

-- of a section that is in the file, and whose data is not compressed
unfoldable pub relocations_of_section : Name → Object → ℕ → Report
relocations_of_section name o s =
    if (section_at o s).header.stype == SHT_RELA then relas_of_section name o s
    else rels_of_section name o s

abbrev pub holds_relocations : ℕ → Bool
holds_relocations stype = stype == SHT_REL || stype == SHT_RELA

-- those of each such section, by number
unfoldable pub relocations_report : Name → Object → Report
relocations_report name o = each_plain holds_relocations name o (relocations_of_section name o)
