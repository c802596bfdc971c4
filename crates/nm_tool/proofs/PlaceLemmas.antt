-- The section of a symbol of a table without extended indexes, and what bytes of such a table hold.
use Rattle.std.proofs.Common.{◌≡◌, ◌≢◌, ◌<◌, ◌≤◌, ℕ, Bool, true, false, Option, Some, None, Result, Ok, Err, IsTrue, refl, sym, ap, ◌∙◌}
use Rattle.std.specs.Prelude.{nat_lt, ◌==◌, if◌then◌else◌}
use Rattle.std.specs.Option.{option_map}
use Rattle.std.proofs.lemmas.Bool.{lt-ltb, le-ltb, eq-eqb, ne_eqb}
use Rattle.elf_types.specs.declared.errors.ElfError.{ElfError}
use Rattle.elf_types.specs.declared.errors.ElfError.TheVariants.{NoEntry}
use Rattle.elf_types.specs.declared.constants.TheConstants.{SHN_LORESERVE, SHN_XINDEX}
use Rattle.elf_types.specs.declared.records.ScnId.{ScnId}
use Rattle.elf_types.specs.declared.records.Sym.{Sym}
use Rattle.elf_object.specs.Words.{result_map}
use Rattle.elf_object.specs.Object.{Object}
use Rattle.elf_object.specs.Calls.{word_answer}
use Rattle.elf_object.specs.SymbolSections.{shndx_table, extended_index, place_of_symbol}
use Rattle.tool_objects.specs.elf_descriptor.State.{State}
use Rattle.tool_objects.specs.gelf_view.declared.symbols.SymPlace.{SymPlace}
use Rattle.tool_objects.specs.gelf_view.declared.symbols.SymPlace.TheVariants.{Special, Section}
use Rattle.tool_objects.specs.Answers.{value_of}
use Rattle.tool_objects.specs.Symbols.{told_symbol_place}
use Rattle.tool_objects.specs.declared.at_hand.items.ItemBytes.{ItemBytes}
use Rattle.nm_tool.specs.declared.symbols.Tables.{Tables}
use Rattle.nm_tool.specs.Tables.{AreTables, ArePlainSymbols, HoldsSymbols}

-- ---- By the index

-- an extended index can not be told
no_index : (o : Object) (s i : ℕ) → None ≡ shndx_table o s → value_of (extended_index o s i) ≡ None
unfolding extended_index
no_index o s i none =
    ap (λ (table : Option ℕ). value_of (elim table [ None ↦ Err (NoEntry i 0) | Some x ↦ word_answer o x 0 i ]))
    (sym none)

-- by the two tests of an index
abbrev by_tests : ℕ → Bool → Bool → Option SymPlace
by_tests n low extended =
    if low then Some (Section n) else (if extended then None else Some (Special n))

place_by : (n : ℕ) (low extended : Bool) (index : Result ℕ ElfError) → value_of index ≡ None
    → value_of (if low then Ok (Section n) else (if extended then result_map Section index else Ok (Special n)))
    ≡ by_tests n low extended
place_by n true extended index none = refl
place_by n false true (Ok m) none = cc
place_by n false true (Err e) none = refl
place_by n false false index none = refl

module _ (o : Object) (s i : ℕ) (x : Sym) (index : ℕ) (none : None ≡ shndx_table o s)
    (is : x.shndx ≡ index) where
  place_is : told_symbol_place o s i x
      ≡ by_tests index (nat_lt index SHN_LORESERVE) (index == SHN_XINDEX)
  unfolding told_symbol_place place_of_symbol
  place_is =
      place_by x.shndx (nat_lt x.shndx SHN_LORESERVE) (x.shndx == SHN_XINDEX)
      (extended_index o s i) (no_index o s i none)
      ∙ ap (λ (n : ℕ). by_tests n (nat_lt n SHN_LORESERVE) (n == SHN_XINDEX)) is

  pub place_below : index < SHN_LORESERVE → told_symbol_place o s i x ≡ Some (Section index)
  place_below below =
      place_is
      ∙ ap (λ (low : Bool). by_tests index low (index == SHN_XINDEX))
      (lt-ltb index SHN_LORESERVE below)

  not_below : SHN_LORESERVE ≤ index
      → told_symbol_place o s i x ≡ by_tests index false (index == SHN_XINDEX)
  not_below above =
      place_is
      ∙ ap (λ (low : Bool). by_tests index low (index == SHN_XINDEX))
      (le-ltb index SHN_LORESERVE above)

  pub place_extended : SHN_LORESERVE ≤ index → index ≡ SHN_XINDEX → told_symbol_place o s i x ≡ None
  place_extended above extended =
      not_below above ∙ ap (by_tests index false) (eq-eqb index SHN_XINDEX extended)

  pub place_special : SHN_LORESERVE ≤ index → index ≢ SHN_XINDEX
      → told_symbol_place o s i x ≡ Some (Special index)
  place_special above plain =
      not_below above ∙ ap (by_tests index false) (ne_eqb index SHN_XINDEX plain)

-- ---- By bytes

-- what they hold, where the source tells its bytes
pub plain_told : {S : Type 0} (state : State S) (t : Tables) (b : ItemBytes) → AreTables state.o t
    → HoldsSymbols state t b → IsTrue state.told → ArePlainSymbols state.o t.symbols.0 b
plain_told state t b tables holds told = record {
  plain = sym (ap (λ (indexes : Option ScnId). option_map (λ (x : ScnId). x.0) indexes) holds.plain)
      ∙ tables.indexes;
  held = holds.items.items told;
}
