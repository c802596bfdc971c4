-- The rows of a symbol table in a base: the symbols and the words of their extended indexes, and
-- what becomes of them (gABI chapter 4, "Symbol Table", st_shndx, and SHT_SYMTAB_SHNDX).
use Rattle.std.specs.Prelude.{◌≡◌, ℕ, ◌+◌, ◌-◌, ◌*◌, ◌≤◌, min, Bool, List, ◌++◌, length, drop, IsTrue, if◌then◌else◌}
use Rattle.elf_types.specs.declared.records.Kind.TheVariants as kinds
use Rattle.elf_types.specs.declared.records.Sym.{Sym}
use Rattle.elf_xlate.specs.declared.content.Items.{Items}
use Rattle.elf_xlate.specs.declared.content.Items.TheVariants as items
use Rattle.elf_xlate.specs.Items.{item_size, word_of, sym_of}
use Rattle.elf_xlate.specs.Translation.{items_of, between}
use Rattle.rebuild_image.specs.rebuild_model.Followed.{Renumbering, followed_syms, followed_words}
use Rattle.rebuild_tables.specs.declared.rows.TableAt.{TableAt}
use Rattle.rebuild_tables.specs.declared.rows.FollowedRows.{FollowedRows}

-- ---- Where they are

-- items of a size lie in a base
abbrev pub LieInBase : ℕ → List ℕ → TableAt → Type 0
LieInBase size base t = t.at + t.count * size ≤ length base

-- both tables do
pub record AreInBase (base : List ℕ) (x : FollowedRows) : Type 0 where
  pub syms : LieInBase (item_size kinds.Sym x.class) base x.syms
  pub words : LieInBase (item_size kinds.Word x.class) base x.words

-- ---- What they are

unfoldable pub syms_in_base : List ℕ → FollowedRows → List Sym
syms_in_base base x =
    items_of (sym_of x.class x.order) (item_size kinds.Sym x.class) x.syms.count
    (drop x.syms.at base)

unfoldable pub words_in_base : List ℕ → FollowedRows → List ℕ
words_in_base base x =
    items_of (word_of x.class x.order) (item_size kinds.Word x.class) x.words.count
    (drop x.words.at base)

-- ---- What becomes of them

-- one of the two lists, with the other
abbrev pub made_of_rows : Renumbering → Bool → List ℕ → List Sym → Items
made_of_rows m indexes words syms =
    if indexes then items.Word (followed_words m syms words)
    else items.Sym (followed_syms m words syms)

abbrev pub rows_made : Renumbering → List ℕ → FollowedRows → Items
rows_made m base x = made_of_rows m x.indexes (words_in_base base x) (syms_in_base base x)

-- the same of the rows from one on and before another one
abbrev pub rows_made_between : Renumbering → List ℕ → FollowedRows → ℕ → ℕ → Items
rows_made_between m base x from to =
    made_of_rows m x.indexes (between from to (words_in_base base x))
    (between from to (syms_in_base base x))

-- how many items are made
abbrev pub row_count : FollowedRows → ℕ
row_count x = if x.indexes then x.words.count else x.syms.count

-- ---- What is asked for

-- how many items of a table stand from one row on and before another one
abbrev pub items_within : TableAt → ℕ → ℕ → ℕ
items_within t from to = min to t.count - min from t.count

-- the bytes of both tables from one row on and before another one
abbrev pub rows_due : FollowedRows → ℕ → ℕ → ℕ
rows_due x from to =
    items_within x.words from to * item_size kinds.Word x.class
    + items_within x.syms from to * item_size kinds.Sym x.class

-- those of both tables
abbrev pub tables_due : FollowedRows → ℕ
tables_due x =
    x.words.count * item_size kinds.Word x.class + x.syms.count * item_size kinds.Sym x.class

-- ---- What is held

-- Bytes were appended to those that are held: these, over a source that tells its bytes.
pub record HoldsMade (told : Bool) (bytes old new : List ℕ) : Type 0 where
  pub added : List ℕ
  pub all : new ≡ old ++ added
  pub is : IsTrue told → added ≡ bytes
