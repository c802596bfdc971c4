-- Tables at hand: what the bytes of sections hold is what the object states.
use Rattle.std.proofs.Common.{◌≡◌, ℕ, List, length, Option, Some, None, Ok, Err, IsTrue, refl, sym, ap, ◌∙◌}
use Rattle.std.specs.Prelude.{slice_get}
use Rattle.elf_types.specs.declared.records.Class.{Class}
use Rattle.elf_types.specs.declared.records.Order.{Order}
use Rattle.elf_types.specs.declared.records.Kind.{Kind}
use Rattle.elf_types.specs.declared.records.Kind.TheVariants as kinds
use Rattle.elf_types.specs.declared.records.Sym.{Sym}
use Rattle.elf_types.specs.declared.errors.ElfError.{ElfError}
use Rattle.elf_types.specs.declared.errors.ElfError.TheVariants.{NoEntry}
use Rattle.elf_xlate.specs.declared.content.Items.{Items}
use Rattle.elf_xlate.specs.Translation.{is_whole}
use Rattle.elf_object.specs.Answers.{items_at, entry_answer, syms_of}
use Rattle.elf_object.specs.Calls.{sym_answer}
use Rattle.tool_objects.specs.elf_descriptor.State.{State}
use Rattle.tool_objects.specs.section_data.Held.{items_of_bytes}
use Rattle.readelf_tables.specs.Blocks.RelocationLines.{section_symbol}
use Rattle.tool_objects.specs.Answers.{value_of}
use Rattle.tool_objects.specs.AtHand.Strings.{HoldsStrings}
use Rattle.tool_objects.specs.AtHand.Items.{HoldsItems}
use Rattle.readelf_tables.specs.Blocks.AtHand.{AreTableBytes}
use Rattle.readelf_rows.specs.declared.links.ItemTable.{ItemTable}
use Rattle.readelf_tables.specs.declared.blocks.at_hand.TableBytes.{TableBytes}

-- ---- Symbols

found_is : (g : Option Sym) (i n : ℕ) → value_of (elim g [ None ↦ Err (NoEntry i n) | Some x ↦ Ok x ]) ≡ g
found_is None i n = refl
found_is (Some x) i n = refl

pub symbols_are : {S : Type 0} (state : State S) (table : ℕ) (bytes : List ℕ) → HoldsItems kinds.Sym syms_of state table bytes → IsTrue state.told → (y : ℕ)
    → section_symbol state.o table y ≡ slice_get (syms_of (items_of_bytes kinds.Sym state.o.header.class state.o.header.order bytes)) y
unfolding section_symbol sym_answer
symbols_are {S} state table bytes holds told y =
    let l = syms_of (items_at state.o table 0) in
    ap (λ (r : Option ElfError). value_of (entry_answer r l y)) holds.lent
    ∙ found_is (slice_get l y) y (length l)
    ∙ ap (λ (m : List Sym). slice_get m y) (holds.items told)

-- ---- All three

pub at_hand_is : {A S : Type 0} (kind : Kind) (list_of : Items → List A) (state : State S) (table : ItemTable) (t : TableBytes)
    → t.class ≡ state.o.header.class → t.order ≡ state.o.header.order
    → HoldsItems kind list_of state table.section.0 t.relocations.now
    → HoldsItems kinds.Sym syms_of state table.links.linked.0 t.symbols.now
    → HoldsStrings state table.links.strings.0 t.strings.now
    → AreTableBytes kind list_of state table t
at_hand_is {A} {S} kind list_of state table t class order items symbols names = record {
  whole = ap (λ (c : Class). is_whole kind c (length t.relocations.now)) class ∙ items.whole;
  whole_symbols = ap (λ (c : Class). is_whole kinds.Sym c (length t.symbols.now)) class ∙ symbols.whole;
  items = λ told.
      items.items told
      ∙ ap (λ (c : Class). list_of (items_of_bytes kind c state.o.header.order t.relocations.now)) (sym class)
      ∙ ap (λ (r : Order). list_of (items_of_bytes kind t.class r t.relocations.now)) (sym order);
  symbols = λ told y.
      symbols_are state table.links.linked.0 t.symbols.now symbols told y
      ∙ ap (λ (c : Class). slice_get (syms_of (items_of_bytes kinds.Sym c state.o.header.order t.symbols.now)) y) (sym class)
      ∙ ap (λ (r : Order). slice_get (syms_of (items_of_bytes kinds.Sym t.class r t.symbols.now)) y) (sym order);
  names = names;
}
