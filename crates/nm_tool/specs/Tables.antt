-- The tables of the symbols of a section, and the bytes of those of which each symbol can be told
-- from bytes alone.
use Rattle.std.specs.Prelude.{◌≡◌, ℕ, Some, None}
use Rattle.std.specs.List.{position}
use Rattle.elf_types.specs.declared.records.Kind.TheVariants as kinds
use Rattle.elf_ident.specs.declared.fronts.Front.{Front}
use Rattle.elf_object.specs.Object.{Object, section_at}
use Rattle.elf_object.specs.Answers.{lend_refusal, syms_of}
use Rattle.elf_object.specs.SymbolSections.{shndx_table}
use Rattle.tool_objects.specs.elf_descriptor.State.{State}
use Rattle.tool_objects.specs.gelf_view.Calls.{IsShndxTable}
use Rattle.tool_objects.specs.declared.at_hand.items.ItemBytes.{ItemBytes}
use Rattle.tool_objects.specs.AtHand.Items.{AreSectionItems, held_items}
use Rattle.tool_objects.specs.AtHand.Strings.{HoldsStrings}
use Rattle.nm_front.specs.declared.tables.PlainTable.{PlainTable}
use Rattle.nm_front.specs.Tables.{is_symbols}
use Rattle.nm_tool.specs.declared.symbols.Tables.{Tables}
use Rattle.nm_tool.specs.declared.symbols.SymbolTableBytes.{SymbolTableBytes}
use Rattle.nm_tool.specs.Listed.{symbols_in_table}

-- They are those of a section whose symbols can be told.
pub record AreTables (o : Object) (t : Tables) : Type 0 where
  pub passed : lend_refusal o kinds.Sym t.symbols.0 0 ≡ None
  pub names : t.names.0 ≡ (section_at o t.symbols.0).header.link
  pub indexes : IsShndxTable o t.symbols.0 t.indexes

-- ---- Bytes

-- a section has no table of extended indexes, and its symbols are those that bytes hold
pub record ArePlainSymbols (o : Object) (s : ℕ) (b : ItemBytes) : Type 0 where
  pub plain : None ≡ shndx_table o s
  pub held : symbols_in_table o s ≡ held_items kinds.Sym syms_of b

-- the bytes of the symbols of a table without extended indexes,
pub record HoldsSymbols {S : Type 0} (state : State S) (t : Tables) (b : ItemBytes) : Type 0 where
  pub plain : t.indexes ≡ None
  pub items : AreSectionItems kinds.Sym syms_of state t.symbols.0 b

-- and those of their names
pub record HoldsSymbolTable {S
    : Type 0} (state : State S) (t : Tables) (b : SymbolTableBytes) : Type 0 where
  pub table : HoldsSymbols state t b.symbols
  pub names : HoldsStrings state t.names.0 b.strings.now

-- ---- Without a descriptor

-- a table is the first one by the headers of a front
abbrev pub IsFirstSymbolTable : Front → PlainTable → Type 0
IsFirstSymbolTable f t = position is_symbols f.shdrs ≡ Some t.section

-- bytes have the class and the byte order of a front
pub record AreOfFront (f : Front) (b : ItemBytes) : Type 0 where
  pub class : b.class ≡ f.ehdr.class
  pub order : b.order ≡ f.ehdr.order
