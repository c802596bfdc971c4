-- What is read of rows: the bytes, and the items that they hold.
use Rattle.std.proofs.Common.{◌≡◌, ◌+◌, ◌*◌, ◌<◌, ◌≤◌, ℕ, List, length, take, drop, Option, Some, None, refl, ap, ◌∙◌, arith}
use Rattle.std.specs.Prelude.{is_none, min}
use Rattle.std.specs.Option.{option_map}
use Rattle.elf_types.specs.declared.records.Class.{Class}
use Rattle.elf_types.specs.declared.records.Order.{Order}
use Rattle.elf_types.specs.declared.records.Kind.{Kind}
use Rattle.elf_types.specs.declared.records.Kind.TheVariants as kinds
use Rattle.elf_types.specs.declared.records.Sym.{Sym}
use Rattle.elf_types.specs.declared.errors.ElfError.TheVariants.{Ragged}
use Rattle.elf_types.specs.Answers.{refused_if}
use Rattle.elf_xlate.specs.declared.content.Items.{Items}
use Rattle.elf_xlate.specs.declared.content.Items.TheVariants as items
use Rattle.elf_xlate.specs.Items.{item_size, word_of, sym_of}
use Rattle.elf_xlate.specs.Translation.{decoded, listed, items_of, between}
use Rattle.elf_xlate.proofs.ListedItems.{word_decoded, sym_decoded, word_sized, sym_sized}
use Rattle.rebuild_image.specs.elf_object.Answers.{words_of, syms_of}
use Rattle.rebuild_keep.specs.Homes.{or_empty_items, decoded_items, decoded_refusal}
use Rattle.rebuild_tables.specs.declared.rows.TableAt.{TableAt}
use Rattle.rebuild_tables.specs.declared.rows.FollowedRows.{FollowedRows}
use Rattle.rebuild_tables.specs.Rows.{LieInBase, items_within, syms_in_base, words_in_base}
use Rattle.rebuild_tables.proofs.PieceLaws.{sizes_fit, listed_all, rows_long, rows_are}

-- ---- Numbers

pub rows_inside : (at count size first rows : ℕ) → first + rows ≤ count
    → at + first * size + rows * size ≤ at + count * size
rows_inside at count size first rows within =
    let fits = sizes_fit first rows count size within in omega (arith, fits)

-- ---- Items of a kind

-- items of a kind as a list: how one is read, and how a list of them stands among items
pub record ListsItems (X : Type 0) : Type 0 where
  pub kind : Kind
  pub variant : List X → Items
  pub list_of : Items → List X
  pub item : Class → Order → List ℕ → X
  pub back : (l : List X) → list_of (variant l) ≡ l
  pub sized : (class : Class) → 0 < item_size kind class
  pub decodes : (class : Class) (order : Order) (bytes : List ℕ) → decoded kind class order bytes
      ≡ option_map variant (listed (item class order) (item_size kind class) bytes)

abbrev pub as_words : ListsItems ℕ
as_words = record {
  kind = kinds.Word;
  variant = λ l. items.Word l;
  list_of = λ x. words_of x;
  item = word_of;
  back = λ l. refl;
  sized = word_sized;
  decodes = word_decoded;
}

abbrev pub as_syms : ListsItems Sym
as_syms = record {
  kind = kinds.Sym;
  variant = λ l. items.Sym l;
  list_of = λ x. syms_of x;
  item = sym_of;
  back = λ l. refl;
  sized = sym_sized;
  decodes = sym_decoded;
}

-- those of a table
abbrev pub table_items : {X : Type 0} → ListsItems X → Class → Order → TableAt → List ℕ → List X
table_items lists class order t base =
    items_of (lists.item class order) (item_size lists.kind class) t.count (drop t.at base)

-- bytes that are so many of them
module _ {X : Type 0} (lists : ListsItems X) (class : Class) (order : Order) (bytes : List ℕ)
    (n : ℕ) (long : length bytes ≡ n * item_size lists.kind class) where
  some_decoded : decoded lists.kind class order bytes
      ≡ Some (lists.variant
      (items_of (lists.item class order) (item_size lists.kind class) n bytes))
  some_decoded =
      lists.decodes class order bytes
      ∙ ap (option_map lists.variant)
      (listed_all (lists.item class order) (item_size lists.kind class) n bytes
      (lists.sized class) long)

  pub items_decoded : lists.list_of (decoded_items lists.kind class order bytes)
      ≡ items_of (lists.item class order) (item_size lists.kind class) n bytes
  unfolding decoded_items
  items_decoded =
      ap (λ (d : Option Items). lists.list_of (or_empty_items d)) some_decoded
      ∙ lists.back (items_of (lists.item class order) (item_size lists.kind class) n bytes)

  -- so they are no ragged ones
  pub items_whole : (s : ℕ) → decoded_refusal s lists.kind class order bytes ≡ None
  unfolding decoded_refusal
  items_whole s = ap (λ (d : Option Items). refused_if (is_none d) (Ragged s)) some_decoded

-- ---- What is read

module _ {X : Type 0} (lists : ListsItems X) (class : Class) (order : Order) (t : TableAt)
    (from to : ℕ) (base slice bytes : List ℕ) where
  pub items_read : (l : List X) → from ≤ to → LieInBase (item_size lists.kind class) base t
      → slice ≡ bytes
      → bytes ≡ take (items_within t from to * item_size lists.kind class)
      (drop (t.at + min from t.count * item_size lists.kind class) base)
      → l ≡ lists.list_of (decoded_items lists.kind class order slice)
      → l ≡ between from to (table_items lists class order t base)
  items_read l in_order inside at read is =
      let size = item_size lists.kind class in
      let part = take (items_within t from to * size)
      (drop (t.at + min from t.count * size) base) in
      is
      ∙ ap (λ (b : List ℕ). lists.list_of (decoded_items lists.kind class order b)) (at ∙ read)
      ∙ items_decoded lists class order part (items_within t from to)
      (rows_long (lists.item class order) size t.at t.count from to base in_order inside)
      ∙ rows_are (lists.item class order) size t.at t.count from to base in_order

module _ (x : FollowedRows) (from to : ℕ) (base slice bytes : List ℕ) where
  pub words_read : (l : List ℕ) → from ≤ to
      → LieInBase (item_size kinds.Word x.class) base x.words → slice ≡ bytes
      → bytes ≡ take (items_within x.words from to * item_size kinds.Word x.class)
      (drop (x.words.at + min from x.words.count * item_size kinds.Word x.class) base)
      → l ≡ words_of (decoded_items kinds.Word x.class x.order slice)
      → l ≡ between from to (words_in_base base x)
  unfolding words_in_base
  words_read l in_order inside at read is =
      items_read as_words x.class x.order x.words from to base slice bytes l in_order inside at
      read is

  pub syms_read : (l : List Sym) → from ≤ to
      → LieInBase (item_size kinds.Sym x.class) base x.syms → slice ≡ bytes
      → bytes ≡ take (items_within x.syms from to * item_size kinds.Sym x.class)
      (drop (x.syms.at + min from x.syms.count * item_size kinds.Sym x.class) base)
      → l ≡ syms_of (decoded_items kinds.Sym x.class x.order slice)
      → l ≡ between from to (syms_in_base base x)
  unfolding syms_in_base
  syms_read l in_order inside at read is =
      items_read as_syms x.class x.order x.syms from to base slice bytes l in_order inside at
      read is
