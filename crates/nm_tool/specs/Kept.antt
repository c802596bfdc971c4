-- The symbols that are wanted whatever their names, and the order of their rows by names that stand
-- in one list of strings.
use Rattle.std.specs.Prelude.{◌≡◌, ◌++◌, ◌+◌, ℕ, zero, suc, Bool, List, [], ◌∷◌, drop, map, slice_get, Option, Some, None, if◌then◌else◌}
use Rattle.std.specs.List.{flat_map}
use Rattle.elf_types.specs.declared.records.Class.{Class}
use Rattle.elf_types.specs.declared.records.Shdr.{Shdr}
use Rattle.elf_types.specs.declared.records.Sym.{Sym}
use Rattle.elf_object.specs.Object.{Object, section_at}
use Rattle.elf_object.specs.Strings.{string_answer, readable}
use Rattle.tool_objects.specs.gelf_view.Records.{string_front}
use Rattle.nm_tool.specs.declared.options.NmOptions.{NmOptions}
use Rattle.tool_output.specs.Names.{Name}
use Rattle.tool_output.specs.Reports.{Report, no_report, shown_report}
use Rattle.nm_tool.specs.declared.kept.Kept.{Kept}
use Rattle.nm_tool.specs.declared.symbols.SymbolTableBytes.{SymbolTableBytes}
use Rattle.nm_tool.specs.Letters.{HasHeaders}
use Rattle.nm_tool.specs.Order.{SymbolEntry, entries_in_order}
use Rattle.nm_tool.specs.Listed.{symbols_in_table, is_empty, shown_symbol_name, name_or_none}
use Rattle.nm_tool.specs.Pools.{wanted_at}
use Rattle.nm_tool.specs.Tables.{ArePlainSymbols}
use Rattle.nm_tool.specs.Tool.{listed_symbol_row, symbol_entry_report}

-- ---- Kept symbols

abbrev pub kept_symbol : Sym → ℕ → Kept
kept_symbol x i = record { key = x.value; index = i; name = x.name }

-- symbols with symbol i, where it is wanted
unfoldable pub with_kept : NmOptions → Object → ℕ → List Kept → ℕ → List Kept
with_kept options o s list i =
    elim (wanted_at options o s i) [ None ↦ list | Some x ↦ list ++ kept_symbol x i ∷ [] ]

-- those of the first n symbols after symbol 0
unfoldable pub kept_of : NmOptions → Object → ℕ → ℕ → List Kept
kept_of options o s zero = []
kept_of options o s (suc n) = with_kept options o s (kept_of options o s n) (n + 1)

-- ---- Their names as they are shown, and the order of their rows

-- of the strings to which a section links, and of those in bytes
abbrev pub linked_shown_name : Object → ℕ → ℕ → List ℕ
linked_shown_name o s at = name_or_none (readable (string_answer o (section_at o s).header.link at))

abbrev pub shown_name_in : List ℕ → ℕ → List ℕ
shown_name_in strings at = name_or_none (string_front (drop at strings))

-- the entry of a kept symbol, and none where its name is empty
abbrev pub ranked_entry : Bool → (ℕ → List ℕ) → Kept → SymbolEntry
ranked_entry by_value name_of k = record {
  value = if by_value then k.key else 0;
  name = name_of k.name;
  index = k.index;
}

abbrev pub kept_entry : Bool → (ℕ → List ℕ) → Kept → List SymbolEntry
kept_entry by_value name_of k =
    if is_empty (name_of k.name) then [] else ranked_entry by_value name_of k ∷ []

unfoldable pub kept_entries : Bool → (ℕ → List ℕ) → List Kept → List SymbolEntry
kept_entries by_value name_of list = flat_map (kept_entry by_value name_of) list

-- the indexes of those that have one, in their order
unfoldable pub order_of : Bool → (ℕ → List ℕ) → List Kept → List ℕ
order_of by_value name_of list =
    map (λ (e : SymbolEntry). e.index) (entries_in_order (kept_entries by_value name_of list))

-- ---- What is said of one

unfoldable pub shown_row : NmOptions → Name → Object → ℕ → ℕ → Sym → List ℕ
shown_row options file o s i x = listed_symbol_row options file o s i (shown_symbol_name o s x) x

abbrev pub row_if : NmOptions → Name → Object → ℕ → ℕ → Option Sym → Report
row_if options file o s i None = no_report
row_if options file o s i (Some x) = shown_report (shown_row options file o s i x)

unfoldable pub index_report : NmOptions → Name → Object → ℕ → ℕ → Report
index_report options file o s i = row_if options file o s i (slice_get (symbols_in_table o s) i)

unfoldable pub kept_report : NmOptions → Name → Object → ℕ → Kept → Report
kept_report options file o s k = index_report options file o s k.index

-- bytes hold the symbols of a section of an object and their names, and these are its class and its
-- headers: what its rows rest on
pub record TellsRows (o : Object) (s : ℕ) (c : Class) (listed : List Shdr) (b : SymbolTableBytes)
    : Type 0 where
  pub headers : HasHeaders o c listed
  pub symbols : ArePlainSymbols o s b.symbols
  pub names : (at : ℕ) → shown_name_in b.strings.now at ≡ linked_shown_name o s at

-- by its name in bytes
unfoldable pub held_report : NmOptions → Name → Object → ℕ → List ℕ → Kept → Report
held_report options file o s strings k =
    symbol_entry_report options file o s k.index (shown_name_in strings k.name)
