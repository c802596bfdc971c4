-- The line of a relocation, with the name of its symbol.
use Rattle.std.specs.Prelude.{◌++◌, ℕ, ℤ, List, [], Option, Some, None, codes}
use Rattle.std.specs.Fmt.{signed_decimal}
use Rattle.elf_types.specs.declared.records.Sym.{Sym}
use Rattle.elf_types.specs.declared.records.Rel.{Rel}
use Rattle.elf_types.specs.declared.records.Rela.{Rela}
use Rattle.elf_object.specs.Object.{Object, section_at}
use Rattle.elf_object.specs.Calls.{sym_answer}
use Rattle.elf_object.specs.Strings.{string_answer, readable}
use Rattle.tool_objects.specs.Answers.{value_of}
use Rattle.tool_objects.specs.Sections.{bracketed}
use Rattle.readelf_rows.specs.Fields.{hex_column, decimal_column, row_start}

-- ---- The symbol

-- symbol y of a section, where that is one of symbols that can be told and has it
unfoldable pub section_symbol : Object → ℕ → ℕ → Option Sym
section_symbol o table y = value_of (sym_answer o table 0 y)

-- the name of a symbol, in a section of strings
unfoldable pub symbol_string : Object → ℕ → Option Sym → Option (List ℕ)
symbol_string o names None = None
symbol_string o names (Some x) = readable (string_answer o names x.name)

-- that of symbol y in the section to which a section links, by the strings to which that one links
unfoldable pub relocation_name : Object → ℕ → ℕ → Option (List ℕ)
relocation_name o s y =
    let table = (section_at o s).header.link in
    symbol_string o (section_at o table).header.link (section_symbol o table y)

-- ---- The line of a relocation

-- `  I offset 0xO type T sym Y NAME`
unfoldable pub relocation_start : ℕ → Rel → Option (List ℕ) → List ℕ
relocation_start i x name =
    row_start i ++ hex_column (codes "offset") x.offset
    ++ decimal_column (codes "type") x.rtype
    ++ decimal_column (codes "sym") x.sym
    ++ codes " " ++ bracketed name

-- ` addend A`, where there is one
unfoldable pub addend_text : Option ℤ → List ℕ
addend_text None = []
addend_text (Some addend) = codes " addend " ++ signed_decimal addend

unfoldable pub relocation_line : ℕ → Rel → Option ℤ → Option (List ℕ) → List ℕ
relocation_line i x addend name =
    relocation_start i x name ++ addend_text addend ++ codes "\n"

-- what stands before the name of a symbol, and then the text with which that is opened
unfoldable pub relocation_front : ℕ → Rel → List ℕ → List ℕ
relocation_front i x opening =
    row_start i ++ (hex_column (codes "offset") x.offset
    ++ (decimal_column (codes "type") x.rtype
    ++ (decimal_column (codes "sym") x.sym ++ opening)))

-- what stands behind it, and before that the text with which it is closed
unfoldable pub relocation_end : List ℕ → Option ℤ → List ℕ
relocation_end closing addend = closing ++ (addend_text addend ++ codes "\n")

-- a relocation without its addend
abbrev pub without_addend : Rela → Rel
without_addend x = record { offset = x.offset; sym = x.sym; rtype = x.rtype }
