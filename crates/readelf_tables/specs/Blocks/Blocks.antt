-- The rows of a table of relocations whose bytes are at hand.
use Rattle.std.specs.Prelude.{ℕ, List, length, take, drop, Option, Some, None, IsTrue}
use Rattle.std.specs.Option.{option_copied}
use Rattle.elf_types.specs.declared.records.Kind.{Kind}
use Rattle.elf_types.specs.declared.records.Kind.TheVariants as kinds
use Rattle.elf_types.specs.declared.records.Rel.{Rel}
use Rattle.elf_types.specs.declared.records.Rela.{Rela}
use Rattle.elf_types.specs.declared.records.Sym.{Sym}
use Rattle.elf_xlate.specs.declared.content.Items.{Items}
use Rattle.elf_xlate.specs.Translation.{is_whole}
use Rattle.elf_object.specs.Object.{Object}
use Rattle.tool_objects.specs.section_data.Held.{items_of_bytes}
use Rattle.tool_objects.specs.gelf_view.Records.{string_front}
use Rattle.tool_output.specs.Lines.{numbered_lines}
use Rattle.readelf_tables.specs.Blocks.RelocationLines.{relocation_name, relocation_line, without_addend}
use Rattle.readelf_tables.specs.Blocks.AtHand.{symbol_of}
use Rattle.readelf_tables.specs.declared.blocks.at_hand.TableBytes.{TableBytes}
use Rattle.readelf_tables.specs.declared.blocks.blocks.Found.{Found}
use Rattle.readelf_tables.specs.declared.blocks.relocation_lines.RelocationEntry.{RelocationEntry}
use Rattle.readelf_tables.specs.declared.blocks.relocation_lines.RelocationLine.{RelocationLine}

-- ---- Entries

-- a relocation with its index, without an addend or with one
abbrev pub rel_entry : ℕ → Rel → RelocationEntry
rel_entry i x = record { index = i; rel = x; addend = None }

abbrev pub rela_entry : ℕ → Rela → RelocationEntry
rela_entry i x = record { index = i; rel = without_addend x; addend = Some x.addend }

-- the line of an entry, with the name of its symbol in an object
abbrev pub entry_row : Object → ℕ → RelocationEntry → List ℕ
entry_row o s e = relocation_line e.index e.rel e.addend (relocation_name o s e.rel.sym)

-- ---- What the bytes tell

-- the string that begins at a place, and the name of a symbol
abbrev pub string_at_offset : List ℕ → ℕ → Option (List ℕ)
string_at_offset strings place = string_front (drop place strings)

abbrev pub symbol_name_in_bytes : List ℕ → Option Sym → Option (List ℕ)
symbol_name_in_bytes strings None = None
symbol_name_in_bytes strings (Some x) = string_at_offset strings x.name

-- the line of an entry, with the name that the bytes hold
abbrev pub relocation_row : TableBytes → RelocationEntry → List ℕ
relocation_row t e =
    relocation_line e.index e.rel e.addend
    (symbol_name_in_bytes t.strings.now (symbol_of t e.rel.sym))

-- the row of an item by its entry
abbrev pub table_row : {A : Type 0} → (ℕ → A → RelocationEntry) → TableBytes → ℕ → A → List ℕ
table_row entry_of t i x = relocation_row t (entry_of i x)

-- the line once the symbol was looked up, and once the name was
abbrev pub found_row : List ℕ → ℕ → Found → List ℕ
found_row strings k f =
    relocation_line f.entry.index f.entry.rel f.entry.addend (symbol_name_in_bytes strings f.symbol)

abbrev pub line_row : ℕ → RelocationLine → List ℕ
line_row k l = relocation_line l.entry.index l.entry.rel l.entry.addend (option_copied l.name)

-- ---- Blocks

-- the bytes are whole relocations and whole symbols
pub record HasWholeItems (kind : Kind) (t : TableBytes) : Type 0 where
  pub whole : IsTrue (is_whole kind t.class (length t.relocations.now))
  pub symbols : IsTrue (is_whole kinds.Sym t.class (length t.symbols.now))

-- the relocations in them
abbrev pub relocations_in_bytes : {A : Type 0} → Kind → (Items → List A) → TableBytes → List A
relocations_in_bytes kind list_of t =
    list_of (items_of_bytes kind t.class t.order t.relocations.now)

-- the rows of a block of at most 64, from one on
abbrev pub block_rows : {A : Type 0} → (ℕ → A → RelocationEntry) → TableBytes → List A → ℕ → List ℕ
block_rows entry_of t items first =
    numbered_lines (table_row entry_of t) first (take 64 (drop first items))
