-- The lines of the version sections (the part `V`), formats of GNU: of three types, the version
-- indexes, the definitions and the needs.
use Rattle.std.specs.Prelude.{◌==◌, ◌||◌, ℕ, Bool, if◌then◌else◌}
use Rattle.elf_types.specs.declared.constants.TheConstants.{SHT_GNU_VERSYM, SHT_GNU_VERDEF, SHT_GNU_VERNEED}
use Rattle.elf_object.specs.Object.{Object, section_at}
use Rattle.tool_output.specs.Names.{Name}
use Rattle.tool_output.specs.Reports.{Report}
use Rattle.readelf_rows.specs.Data.{each_plain}
use Rattle.readelf_tables.specs.Indexes.{indexes_of_section}
use Rattle.readelf_chains.specs.Definitions.{definitions_of_section}
use Rattle.readelf_chains.specs.Needs.{needs_of_section}

-- of a section that is in the file, and whose data is not compressed
unfoldable pub versions_of_section : Name → Object → ℕ → Report
versions_of_section name o s =
    if (section_at o s).header.stype == SHT_GNU_VERSYM then indexes_of_section name o s
    else (if (section_at o s).header.stype == SHT_GNU_VERDEF then definitions_of_section name o s
    else needs_of_section name o s)

abbrev pub holds_versions : ℕ → Bool
holds_versions stype =
    stype == SHT_GNU_VERSYM || stype == SHT_GNU_VERDEF || stype == SHT_GNU_VERNEED

-- those of each such section, by number
unfoldable pub versions_report : Name → Object → Report
versions_report name o = each_plain holds_versions name o (versions_of_section name o)
