-- The symbols of an image and their rows, where its front tells the two ranges that hold them.
use Rattle.std.proofs.Common.{◌≡◌, ◌-◌, ◌/◌, ℕ, List, length, take, drop, Some, None, Result, Ok, refl, sym, ap, ◌∙◌}
use Rattle.std.specs.List.{position}
use Rattle.elf_types.specs.declared.records.Class.{Class}
use Rattle.elf_types.specs.declared.records.Order.{Order}
use Rattle.elf_types.specs.declared.records.Kind.TheVariants as kinds
use Rattle.elf_types.specs.declared.errors.ElfError.{ElfError}
use Rattle.elf_xlate.specs.Items.{item_size}
use Rattle.elf_ident.specs.declared.fronts.Front.{Front}
use Rattle.elf_object.specs.Object.{Object}
use Rattle.elf_object.specs.Open.{begun, opened, opened_section}
use Rattle.elf_object.specs.Answers.{syms_of}
use Rattle.elf_object.specs.Strings.{string_answer, readable}
use Rattle.section_data.specs.Held.{items_of_bytes}
use Rattle.tool_objects.specs.gelf_view.Records.{string_front}
use Rattle.nm_tool.specs.declared.options.NmOptions.{NmOptions}
use Rattle.tool_output.specs.Names.{Name}
use Rattle.tool_output.specs.Reports.{Report, no_report}
use Rattle.tool_objects.specs.Images.{image_report, object_report as image_object_report}
use Rattle.tool_objects.specs.declared.at_hand.items.ItemBytes.{ItemBytes}
use Rattle.nm_front.specs.declared.tables.PlainTable.{PlainTable}
use Rattle.nm_front.specs.Tables.{is_symbols, IsPlain}
use Rattle.nm_front.proofs.PlainLaws.{headers_begun, position_begun, plain_lent, plain_items, plain_counted, plain_unindexed, plain_link, plain_strings}
use Rattle.nm_tool.specs.declared.kept.Kept.{Kept}
use Rattle.nm_tool.specs.declared.symbols.SymbolTableBytes.{SymbolTableBytes}
use Rattle.nm_tool.specs.Listed.{is_table, symbol_table, symbols_in_table, name_or_none}
use Rattle.nm_tool.specs.Tables.{ArePlainSymbols, IsFirstSymbolTable, AreOfFront}
use Rattle.nm_tool.specs.Kept.{kept_of, kept_entries, shown_name_in, linked_shown_name, TellsRows}
use Rattle.nm_tool.specs.Tool.{symbol_entries_report, rows_report, table_report, listing_report, nm_report}
use Rattle.nm_tool.proofs.KeptLemmas.{kept_rows, none_reported}

-- ---- What nm says of an image

-- what it says of the object that its front begins
pub image_nm : (command : List ℕ) (report : Name → Object → Report) (name : Name) (f : Front)
    (image : List ℕ) → opened image ≡ Ok (begun f image)
    → image_report command report name image ≡ report name (begun f image)
unfolding image_report
image_nm command report name f image is =
    ap (λ (r : Result Object ElfError). image_object_report command report name r) is

-- it has no table of symbols by its headers
pub none_found : (f : Front) (image : List ℕ) → position is_symbols f.shdrs ≡ None
    → None ≡ symbol_table (begun f image)
unfolding symbol_table opened_section
none_found f image none = sym (position_begun f image is_table ∙ none)

module _ (f : Front) (image : List ℕ) (t : PlainTable) (plain : IsPlain f (length image) t)
    (first : IsFirstSymbolTable f t) where
  abbrev o : Object
  o = begun f image

  abbrev s : ℕ
  s = t.section

  plain_found : Some s ≡ symbol_table o
  unfolding symbol_table opened_section
  plain_found = sym (position_begun f image is_table ∙ first)

  -- or it has the rows of its plain table
  pub plain_said : (options : NmOptions) (file : Name)
      → nm_report options file o ≡ rows_report options file o s
  unfolding nm_report listing_report table_report
  plain_said options file =
      ap (listing_report options file o) (sym plain_found)
      ∙ ap (table_report options file o s) (plain_lent f image t plain first)

  -- ---- By the bytes of the two ranges

  module _ (b : ItemBytes) (of_front : AreOfFront f b)
      (held : b.bytes.now ≡ take t.symbols.size (drop t.symbols.offset image)) where
    abbrev range : List ℕ
    range = take t.symbols.size (drop t.symbols.offset image)

    pub plain_held : ArePlainSymbols o s b
    plain_held = record {
      plain = sym (plain_unindexed f image t plain first);
      held = ap syms_of (plain_items f image t plain first)
          ∙ ap (λ (c : Class). syms_of (items_of_bytes kinds.Sym c f.ehdr.order range))
          (sym of_front.class)
          ∙ ap (λ (r : Order). syms_of (items_of_bytes kinds.Sym b.class r range))
          (sym of_front.order)
          ∙ ap (λ (l : List ℕ). syms_of (items_of_bytes kinds.Sym b.class b.order l)) (sym held);
    }

  names_are : (strings bytes : List ℕ)
      → ((at : ℕ) → string_front (drop at strings) ≡ string_front (drop at bytes))
      → bytes ≡ take t.names.size (drop t.names.offset image)
      → (at : ℕ) → shown_name_in strings at ≡ linked_shown_name o s at
  names_are strings bytes same is at =
      ap name_or_none (same at ∙ ap (λ (l : List ℕ). string_front (drop at l)) is
      ∙ sym (plain_strings f image t plain first at))
      ∙ ap (λ (n : ℕ). name_or_none (readable (string_answer o n at)))
      (sym (plain_link f image t plain first))

  -- the rows are those that the bytes tell
  pub rows_told : (b : SymbolTableBytes) (bytes : List ℕ) → AreOfFront f b.symbols
      → b.symbols.bytes.now ≡ take t.symbols.size (drop t.symbols.offset image)
      → ((at : ℕ) → string_front (drop at b.strings.now) ≡ string_front (drop at bytes))
      → bytes ≡ take t.names.size (drop t.names.offset image)
      → TellsRows o s f.ehdr.class f.shdrs b
  unfolding begun
  rows_told b bytes of_front held same is = record {
    headers = record { class = refl; headers = headers_begun f image };
    symbols = plain_held b.symbols of_front held;
    names = names_are b.strings.now bytes same is;
  }

  module _ (options : NmOptions) (file : Name) (count : ℕ) (list : List Kept)
      (counted : count ≡ t.symbols.size / item_size kinds.Sym f.ehdr.class)
      (kept : list ≡ kept_of options o s (count - 1)) where
    all_counted : count ≡ length (symbols_in_table o s)
    all_counted = counted ∙ sym (plain_counted f image t plain first)

    pub plain_rows : rows_report options file o s
        ≡ symbol_entries_report options file o s
        (kept_entries options.by_value (linked_shown_name o s) list)
    plain_rows = kept_rows options file o s count list all_counted kept

    pub no_rows : length list ≡ 0 → rows_report options file o s ≡ no_report
    no_rows none = none_reported options file o s count list all_counted kept none
