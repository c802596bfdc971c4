-- The lines of an ELF header (the part `h`).
use Rattle.std.specs.Prelude.{◌++◌, ℕ, List, codes}
use Rattle.elf_types.specs.declared.records.Class.{Class}
use Rattle.elf_types.specs.declared.records.Class.TheVariants.{C32, C64}
use Rattle.elf_types.specs.declared.records.Order.{Order}
use Rattle.elf_types.specs.declared.records.Order.TheVariants.{Least, Greatest}
use Rattle.elf_types.specs.declared.records.Ehdr.{Ehdr}
use Rattle.elf_types.specs.Names.{object_type_name_of, machine_name_of}
use Rattle.tool_output.specs.Reports.{Report, shown_report}
use Rattle.readelf_rows.specs.Fields.{field_line, decimal_line, hex_line, name_line}

-- the bits of the class
unfoldable pub class_bits : Class → ℕ
class_bits C32 = 32
class_bits C64 = 64

-- which byte comes first
unfoldable pub order_text : Order → List ℕ
order_text Least = codes "least"
order_text Greatest = codes "greatest"

unfoldable pub header_title : List ℕ
header_title = codes "ELF header\n"

unfoldable pub ident_lines : Ehdr → List ℕ
ident_lines h =
    decimal_line (codes "class") (class_bits h.class)
    ++ field_line (codes "order") (order_text h.order)
    ++ decimal_line (codes "osabi") h.osabi
    ++ decimal_line (codes "abiversion") h.abiversion

unfoldable pub type_lines : Ehdr → List ℕ
type_lines h =
    name_line (codes "type") (object_type_name_of h.etype) h.etype
    ++ name_line (codes "machine") (machine_name_of h.machine) h.machine
    ++ decimal_line (codes "version") h.version

unfoldable pub place_lines : Ehdr → List ℕ
place_lines h =
    hex_line (codes "entry") h.entry
    ++ decimal_line (codes "phoff") h.phoff
    ++ decimal_line (codes "shoff") h.shoff
    ++ hex_line (codes "flags") h.flags

unfoldable pub table_lines : Ehdr → List ℕ
table_lines h =
    decimal_line (codes "ehsize") h.ehsize
    ++ decimal_line (codes "phentsize") h.phentsize
    ++ decimal_line (codes "phnum") h.phnum
    ++ decimal_line (codes "shentsize") h.shentsize
    ++ decimal_line (codes "shnum") h.shnum
    ++ decimal_line (codes "shstrndx") h.shstrndx

unfoldable pub header_lines : Ehdr → List ℕ
header_lines h = header_title ++ ident_lines h ++ type_lines h ++ place_lines h ++ table_lines h

unfoldable pub header_report : Ehdr → Report
header_report h = shown_report (header_lines h)
