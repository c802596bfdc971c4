-- A table of which the bytes are at hand: they were read and not edited. Its items, the symbols
-- that they name and the names of these are then those that the bytes hold.
use Rattle.std.specs.Prelude.{◌≡◌, ℕ, List, length, slice_get, Option, IsTrue}
use Rattle.elf_types.specs.declared.records.Kind.{Kind}
use Rattle.elf_types.specs.declared.records.Kind.TheVariants as kinds
use Rattle.elf_types.specs.declared.records.Sym.{Sym}
use Rattle.elf_xlate.specs.declared.content.Items.{Items}
use Rattle.elf_xlate.specs.Translation.{is_whole}
use Rattle.elf_object.specs.Answers.{items_at, syms_of}
use Rattle.tool_objects.specs.elf_descriptor.State.{State}
use Rattle.tool_objects.specs.section_data.Held.{items_of_bytes}
use Rattle.tool_objects.specs.AtHand.Strings.{HoldsStrings}
use Rattle.readelf_tables.specs.Blocks.RelocationLines.{section_symbol}
use Rattle.readelf_rows.specs.declared.links.ItemTable.{ItemTable}
use Rattle.readelf_tables.specs.declared.blocks.at_hand.TableBytes.{TableBytes}

-- symbol y of those at hand
abbrev pub symbol_of : TableBytes → ℕ → Option Sym
symbol_of t y = slice_get (syms_of (items_of_bytes kinds.Sym t.class t.order t.symbols.now)) y

-- the bytes of a table, of its symbols and of their names
pub record AreTableBytes {A S : Type 0} (kind : Kind) (list_of : Items → List A) (state : State S)
    (table : ItemTable) (t : TableBytes) : Type 0 where
  pub whole : IsTrue (is_whole kind t.class (length t.relocations.now))
  pub whole_symbols : IsTrue (is_whole kinds.Sym t.class (length t.symbols.now))
  pub items : IsTrue state.told → list_of (items_at state.o table.section.0 0)
      ≡ list_of (items_of_bytes kind t.class t.order t.relocations.now)
  pub symbols : IsTrue state.told → (y : ℕ)
      → section_symbol state.o table.links.linked.0 y ≡ symbol_of t y
  pub names : HoldsStrings state table.links.strings.0 t.strings.now
