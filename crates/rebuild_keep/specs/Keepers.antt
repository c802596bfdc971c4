-- What is made of each section that is kept, by what was worked out before: the map of the numbers,
-- the extended indexes of each table, and the names. Of an object that is opened it is what strip
-- states (KeepsFor).
use Rattle.std.specs.Prelude.{◌≡◌, ℕ, ◌==◌, ◌&&◌, ◌||◌, Bool, true, false, List, [], ◌∷◌, slice_index, Option, Some, None, Result, Ok, Err, IsTrue, if◌then◌else◌}
use Rattle.elf_types.specs.declared.records.Kind.{Kind}
use Rattle.elf_types.specs.declared.records.Kind.TheVariants as kinds
use Rattle.elf_types.specs.declared.records.Shdr.{Shdr}
use Rattle.elf_types.specs.declared.errors.ElfError.{ElfError}
use Rattle.elf_types.specs.declared.errors.ElfError.TheVariants as errors
use Rattle.rebuild_names.specs.elf_xlate.declared.content.Items.{Items}
use Rattle.rebuild_names.specs.elf_xlate.declared.content.Items.TheVariants as items
use Rattle.rebuild_making.specs.elf_object.Object.{Object}
use Rattle.rebuild_making.specs.elf_object.Answers.{raw_refusal, words_of, syms_of}
use Rattle.rebuild_making.specs.elf_object.Sections.{header_at, is_among}
use Rattle.rebuild_making.specs.rebuild_model.Followed.{renumbering, kept_from_1, followed, followed_header, followed_group, followed_syms, followed_words, symbols_follow, members_follow}
use Rattle.rebuild_making.specs.rebuild_model.Rebuilt.{renews_names, kept_names, table_refusal}
use Rattle.rebuild_names.specs.rebuild_numbers.Kept.Tables.{extended_tables}
use Rattle.rebuild_names.specs.Names.{new_names}
use Rattle.rebuild_keep.specs.declared.naming.Names.{Names}
use Rattle.rebuild_keep.specs.declared.naming.Names.TheVariants.{Stay, Anew, TooLarge}
use Rattle.rebuild_keep.specs.declared.keepers.Keeper.{Keeper}
use Rattle.rebuild_keep.specs.Homes.{items_at_home, home_refusal, bytes_at_home, words_found, syms_found}

-- ---- Headers

abbrev pub name_by : Names → ℕ → ℕ → ℕ
name_by (Anew names) s name = slice_index names.places s
name_by Stay s name = name
name_by TooLarge s name = name

unfoldable pub header_by : Keeper → Object → ℕ → Shdr
header_by k o s =
    record (followed_header k.numbering (header_at o s)) {
      name = name_by k.names s (header_at o s).name;
    }

-- ---- Items

-- a symbol table that is kept has its extended indexes in a section
abbrev pub serves : Keeper → Object → ℕ → ℕ → Bool
serves k o s table = symbols_follow o table && slice_index k.tables table == s

-- the extended indexes of the symbol table to which they link
unfoldable pub indexes_by : Keeper → Object → ℕ → Bool
indexes_by k o s =
    let table = (header_at o s).link in
    is_among (kept_from_1 o k.removed.now) table && serves k o s table

abbrev pub symbol_items_by : Keeper → Object → ℕ → Items
symbol_items_by k o s = items.Sym
    (followed_syms k.numbering (words_found o (slice_index k.tables s))
    (syms_of (items_at_home o s)))

abbrev pub group_by : Keeper → Object → ℕ → Items
group_by k o s = items.Word (followed_group k.numbering (words_of (items_at_home o s)))

abbrev pub words_by : Keeper → Object → ℕ → Items
words_by k o s = items.Word
    (followed_words k.numbering (syms_found o (header_at o s).link) (words_of (items_at_home o s)))

unfoldable pub kept_items_by : Keeper → Object → ℕ → Items
kept_items_by k o s =
    if symbols_follow o s then symbol_items_by k o s
    else (if members_follow o s then group_by k o s
    else (if indexes_by k o s then words_by k o s
    else bytes_at_home o s))

abbrev pub items_or_names : Names → Bool → Items → Items
items_or_names (Anew names) is_names kept = if is_names then items.Bytes names.table else kept
items_or_names Stay is_names kept = kept
items_or_names TooLarge is_names kept = kept

unfoldable pub items_by : Keeper → Object → ℕ → Items
items_by k o s = items_or_names k.names (s == o.header.shstrndx) (kept_items_by k o s)

-- ---- Refusals, and what is read

unfoldable pub follows_by : Keeper → Object → ℕ → Bool
follows_by k o s = symbols_follow o s || members_follow o s || indexes_by k o s

-- the section of the names, where these are made anew
abbrev pub is_renewed : Names → Bool → Bool
is_renewed (Anew names) is_names = is_names
is_renewed Stay is_names = false
is_renewed TooLarge is_names = false

-- what it has is made, and not taken as it is
unfoldable pub makes_by : Keeper → Object → ℕ → Bool
makes_by k o s = is_renewed k.names (s == o.header.shstrndx) || follows_by k o s

-- of which kind its items are
unfoldable pub kind_by : Keeper → Object → ℕ → Kind
kind_by k o s =
    if is_renewed k.names (s == o.header.shstrndx) then kinds.Bytes
    else (if symbols_follow o s then kinds.Sym
    else (if follows_by k o s then kinds.Word else kinds.Bytes))

-- of the items that follow, or of the bytes
unfoldable pub kept_refusal_by : Keeper → Object → ℕ → Option ElfError
kept_refusal_by k o s = if follows_by k o s then home_refusal o s else raw_refusal o s

-- names that are made anew are not read for their section
abbrev pub refusal_or_none : Names → Bool → Option ElfError → Option ElfError
refusal_or_none (Anew names) is_names refusal = if is_names then None else refusal
refusal_or_none Stay is_names refusal = refusal
refusal_or_none TooLarge is_names refusal = refusal

unfoldable pub refusal_by : Keeper → Object → ℕ → Option ElfError
refusal_by k o s = refusal_or_none k.names (s == o.header.shstrndx) (kept_refusal_by k o s)

-- the homes that are looked at for a section
unfoldable pub reads_by : Keeper → Object → ℕ → List ℕ
reads_by k o s =
    if symbols_follow o s then slice_index k.tables s ∷ s ∷ []
    else (if members_follow o s then s ∷ []
    else (if indexes_by k o s then s ∷ (header_at o s).link ∷ [] else s ∷ []))

-- ---- The table of the names

-- a table is the one that is made anew, where a section is the one that holds it
abbrev pub IsNewNameTable : Names → Bool → List ℕ → Type 0
IsNewNameTable (Anew names) is_names table = (is_names ≡ true) × (table ≡ names.table)
IsNewNameTable Stay is_names table = ⊥
IsNewNameTable TooLarge is_names table = ⊥

-- it is all that is made of a section
pub record HasNewNameTable (k : Keeper) (o : Object) (s : ℕ) (table : List ℕ) : Type 0 where
  pub is : items_by k o s ≡ items.Bytes table
  pub passed : refusal_by k o s ≡ None

-- ---- The header

abbrev pub index_by : Keeper → Object → ℕ
index_by k o = followed k.numbering o.header.shstrndx

-- ---- Of an object

-- whether the names are made anew, or would be if their table were not too large
abbrev pub RenewsAs : Bool → Names → Type 0
RenewsAs renews Stay = renews ≡ false
RenewsAs renews (Anew names) = renews ≡ true
RenewsAs renews TooLarge = renews ≡ true

-- what becomes of the names that are made anew
abbrev pub AreNames : Object → List ℕ → Names → Type 0
AreNames o removed Stay = Unit {0}
AreNames o removed (Anew names) =
    (table_refusal (kept_names o removed) ≡ None) × (names ≡ new_names o removed)
AreNames o removed TooLarge = table_refusal (kept_names o removed) ≡ Some errors.TooLarge

-- an error that came while they were made: that their table is too large is told later
abbrev pub NamesFor : ElfError → Result Names ElfError → Type 0
NamesFor errors.TooLarge result = result ≡ Ok TooLarge
NamesFor e result = result ≡ Err e

-- the keeper of an object; the names are those of one whose source tells its bytes
pub record KeepsFor (told : Bool) (o : Object) (k : Keeper) : Type 0 where
  pub numbering_is : k.numbering ≡ renumbering o k.removed.now
  pub tables_are : k.tables ≡ extended_tables o k.removed.now
  pub renews : RenewsAs (renews_names o k.removed.now) k.names
  pub names_are : IsTrue told → AreNames o k.removed.now k.names
