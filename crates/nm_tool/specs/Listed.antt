-- The symbols that are listed.
use Rattle.std.specs.Prelude.{◌++◌, ◌+◌, ◌==◌, ◌&&◌, ◌||◌, not, ℕ, Bool, List, [], ◌∷◌, drop, length, Option, Some, None, codes, if◌then◌else◌}
use Rattle.std.specs.List.{position}
use Rattle.elf_types.specs.declared.records.Sym.{Sym}
use Rattle.elf_types.specs.declared.constants.TheConstants.{SHT_SYMTAB, STT_SECTION, STT_FILE}
use Rattle.elf_types.specs.Kinds.{is_compressed}
use Rattle.elf_object.specs.Object.{Object, Section}
use Rattle.elf_object.specs.Answers.{items_at, syms_of}
use Rattle.elf_object.specs.Strings.{symbol_name}
use Rattle.nm_tool.specs.declared.options.NmOptions.{NmOptions}
use Rattle.tool_objects.specs.Symbols.{told_symbol_place}
use Rattle.elf_types.specs.Symbols.{has_type, is_local}
use Rattle.nm_tool.specs.Letters.{is_undefined}
use Rattle.nm_tool.specs.Order.{SymbolEntry}

-- ---- The table

abbrev pub is_table : Section → Bool
is_table c = c.header.stype == SHT_SYMTAB && not (is_compressed c.header.flags)

-- the first section of type SHT_SYMTAB whose data is not compressed
unfoldable pub symbol_table : Object → Option ℕ
symbol_table o = position is_table o.sections

-- its symbols
abbrev pub symbols_in_table : Object → ℕ → List Sym
symbols_in_table o s = syms_of (items_at o s 0)

-- ---- One symbol

abbrev pub name_or_none : Option (List ℕ) → List ℕ
name_or_none None = codes "<none>"
name_or_none (Some name) = name

-- its name as it is shown
unfoldable pub shown_symbol_name : Object → ℕ → Sym → List ℕ
shown_symbol_name o s x = name_or_none (symbol_name o s x)

abbrev pub is_empty : List ℕ → Bool
is_empty name = length name == 0

-- neither a section nor a file, and with -g not local
unfoldable pub is_listable_symbol : NmOptions → Sym → Bool
is_listable_symbol options x =
    not (has_type STT_SECTION x || has_type STT_FILE x) && not (options.globals && is_local x)

-- with -u not defined
unfoldable pub is_wanted : NmOptions → Object → ℕ → ℕ → Sym → Bool
is_wanted options o s i x = not options.undefined || is_undefined (told_symbol_place o s i x)

-- symbol i of section s is listed: it has a name that is not empty besides
unfoldable pub is_listed : NmOptions → Object → ℕ → ℕ → Sym → Bool
is_listed options o s i x =
    is_listable_symbol options x && (is_wanted options o s i x && not
    (is_empty (shown_symbol_name o s x)))

unfoldable pub symbol_entry_of : NmOptions → Object → ℕ → ℕ → Sym → SymbolEntry
symbol_entry_of options o s i x = record {
  value = if options.by_value then x.value else 0;
  name = shown_symbol_name o s x;
  index = i;
}

-- ---- All of them

abbrev pub entry_if : NmOptions → Object → ℕ → ℕ → Sym → List SymbolEntry
entry_if options o s i x =
    if is_listed options o s i x then symbol_entry_of options o s i x ∷ [] else []

-- those of some symbols, of which the first is symbol i
unfoldable pub listed_from : NmOptions → Object → ℕ → ℕ → List Sym → List SymbolEntry
listed_from options o s i [] = []
listed_from options o s i (x ∷ xs) =
    entry_if options o s i x ++ listed_from options o s (i + 1) xs

-- those of the table, from symbol 1 on: symbol 0 is the undefined one
unfoldable pub listed_entries : NmOptions → Object → ℕ → List SymbolEntry
listed_entries options o s = listed_from options o s 1 (drop 1 (symbols_in_table o s))
