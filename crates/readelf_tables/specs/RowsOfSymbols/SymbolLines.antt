-- The line of a symbol (gABI chapter 4, "Symbol Table").
use Rattle.std.specs.Prelude.{◌++◌, ◌/◌, ◌%◌, ◌==◌, ℕ, List, Option, Some, None, codes, decimal, if◌then◌else◌}
use Rattle.elf_types.specs.declared.records.Sym.{Sym}
use Rattle.elf_types.specs.declared.constants.TheConstants.{SHN_UNDEF, SHN_ABS, SHN_COMMON}
use Rattle.elf_types.specs.Names.{symbol_type_name_of, binding_name_of, visibility_name_of}
use Rattle.elf_types.specs.Text.{hex}
use Rattle.tool_objects.specs.gelf_view.declared.symbols.SymPlace.{SymPlace}
use Rattle.tool_objects.specs.gelf_view.declared.symbols.SymPlace.TheVariants.{Special, Section}
use Rattle.tool_objects.specs.Sections.{bracketed}
use Rattle.readelf_rows.specs.Fields.{hex_column, decimal_column, name_column, row_start}

-- ---- Where a symbol is defined

-- a reserved index, by its name or in hexadecimal
unfoldable pub special_text : ℕ → List ℕ
special_text n =
    if n == SHN_ABS then codes "ABS"
    else (if n == SHN_COMMON then codes "COM" else codes "0x" ++ hex n)

-- the section of a symbol; an extended index that can not be told is shown as such
unfoldable pub place_text : Sym → Option SymPlace → List ℕ
place_text x None = codes "XINDEX"
place_text x (Some (Special n)) = special_text n
place_text x (Some (Section n)) = if x.shndx == SHN_UNDEF then codes "UND" else decimal n

-- ---- The line of a symbol

-- `  I value 0xV size N`
unfoldable pub symbol_start : ℕ → Sym → List ℕ
symbol_start i x =
    row_start i ++ hex_column (codes "value") x.value ++ decimal_column (codes "size") x.size

-- ` type T bind B vis V` (ELF64_ST_TYPE, ELF64_ST_BIND, ELF64_ST_VISIBILITY)
unfoldable pub symbol_names : Sym → List ℕ
symbol_names x =
    name_column (codes "type") (symbol_type_name_of (x.info % 16)) (x.info % 16)
    ++ name_column (codes "bind") (binding_name_of (x.info / 16)) (x.info / 16)
    ++ name_column (codes "vis") (visibility_name_of (x.other % 4)) (x.other % 4)

-- ` shndx SHNDX NAME`
unfoldable pub symbol_end : Sym → Option SymPlace → Option (List ℕ) → List ℕ
symbol_end x place name =
    codes " shndx " ++ place_text x place ++ codes " " ++ bracketed name ++ codes "\n"

unfoldable pub symbol_line : ℕ → Sym → Option SymPlace → Option (List ℕ) → List ℕ
symbol_line i x place name = symbol_start i x ++ symbol_names x ++ symbol_end x place name
