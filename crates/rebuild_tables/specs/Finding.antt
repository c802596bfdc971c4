-- Whether what is made of a section is made of rows in the base of an object, and of which (gABI
-- chapter 4, "Symbol Table", and SHT_SYMTAB_SHNDX).
use Rattle.std.specs.Prelude.{◌≡◌, ◌⊎◌, ℕ, ◌*◌, ◌≤◌, Bool, true, false, [], slice_index, None, IsTrue}
use Rattle.elf_types.specs.declared.records.Kind.{Kind}
use Rattle.elf_types.specs.declared.records.Kind.TheVariants as kinds
use Rattle.elf_xlate.specs.Items.{item_size}
use Rattle.rebuild_image.specs.elf_object.Object.{Object, section_at}
use Rattle.rebuild_image.specs.elf_object.Answers.{kind_at, piece_refusal}
use Rattle.rebuild_image.specs.elf_object.Due.{homes_due}
use Rattle.rebuild_keep.specs.declared.keepers.Keeper.{Keeper}
use Rattle.rebuild_keep.specs.Homes.{is_there}
use Rattle.rebuild_keep.specs.Keepers.{items_by, refusal_by, reads_by}
use Rattle.rebuild_tables.specs.declared.rows.TableAt.{TableAt}
use Rattle.rebuild_tables.specs.declared.rows.FollowedRows.{FollowedRows}
use Rattle.rebuild_tables.specs.Rows.{LieInBase, AreInBase, rows_made, tables_due}

-- ---- One table

-- the first piece of a section is there, and holds items of a kind
pub record HoldsKind (o : Object) (s : ℕ) (kind : Kind) : Type 0 where
  pub passed : piece_refusal o s 0 ≡ None
  pub kind_is : kind_at o s 0 ≡ kind

-- the home of a section lies in the base, and is items of a size
pub record IsTableAt (o : Object) (s size : ℕ) (t : TableAt) : Type 0 where
  pub out : (section_at o s).home.out ≡ false
  pub at : t.at ≡ (section_at o s).home.at
  pub len : t.count * size ≡ (section_at o s).home.len
  pub inside : LieInBase size o.base t

-- the home of a section lies in the base, and is whole items of a kind, which its first piece holds
pub record AreItemsAt (o : Object) (s : ℕ) (kind : Kind) (t : TableAt) : Type 0 where
  pub holds : HoldsKind o s kind
  pub extent : IsTableAt o s (item_size kind o.header.class) t

abbrev pub empty_table : TableAt
empty_table = record { at = 0; count = 0 }

-- the same of words, of which there are none where a number is not that of a section from 1 on
abbrev pub AreWordsAt : Object → ℕ → TableAt → Type 0
AreWordsAt o s t =
    ((is_there o s ≡ false) × (t ≡ empty_table))
    ⊎ ((is_there o s ≡ true) × AreItemsAt o s kinds.Word t)

-- ---- The rows of a section

-- they are in the form of an object
pub record HaveFormOf (o : Object) (x : FollowedRows) : Type 0 where
  pub class_is : x.class ≡ o.header.class
  pub order_is : x.order ≡ o.header.order

-- a section has the symbols, and the one that is noted for it the words
pub record AreSymbolRows (k : Keeper) (o : Object) (s : ℕ) (x : FollowedRows) : Type 0 where
  pub form : HaveFormOf o x
  pub made : x.indexes ≡ false
  pub syms : AreItemsAt o s kinds.Sym x.syms
  pub words : AreWordsAt o (slice_index k.tables s) x.words

-- a section has the words, and the one to which it links the symbols
pub record AreIndexRows (o : Object) (s link : ℕ) (x : FollowedRows) : Type 0 where
  pub form : HaveFormOf o x
  pub made : x.indexes ≡ true
  pub words : AreItemsAt o s kinds.Word x.words
  pub there : is_there o link ≡ true
  pub syms : AreItemsAt o link kinds.Sym x.syms

-- What a keeper makes of a section is what is made of these rows, and nothing is refused of it. No
-- more than their bytes is asked for.
pub record AreRowsOf (k : Keeper) (told : Bool) (o : Object) (s : ℕ) (x : FollowedRows) : Type 0
  where
    pub form : HaveFormOf o x
    pub inside : AreInBase o.base x
    pub passed : refusal_by k o s ≡ None
    pub made : IsTrue told → items_by k o s ≡ rows_made k.numbering o.base x
    pub due : tables_due x ≤ homes_due o [] (reads_by k o s)
