-- What a keeper makes of a section.
use Rattle.std.proofs.Common.{◌≡◌, ◌==◌, ◌&&◌, ◌||◌, ℕ, Bool, true, false, List, [], ◌∷◌, ◌++◌, None, Result, Ok, Err, if◌then◌else◌, refl, sym, ap, ◌∙◌, subst}
use Rattle.std.specs.Prelude.{IfOk, IfErr, slice_get, slice_index, unwrap_or}
use Rattle.std.proofs.lemmas.Option.{unwrap_or-slice_get}
use Rattle.elf_types.specs.declared.records.Class.{Class}
use Rattle.elf_types.specs.declared.records.Kind.TheVariants as kinds
use Rattle.elf_types.specs.declared.records.Shdr.{Shdr}
use Rattle.elf_types.specs.declared.records.Sym.{Sym}
use Rattle.elf_types.specs.declared.errors.ElfError.{ElfError}
use Rattle.elf_types.specs.declared.errors.ElfError.TheVariants.{Memory}
use Rattle.elf_types.specs.declared.constants.TheConstants.{SHT_SYMTAB, SHT_GROUP}
use Rattle.rebuild_making.specs.elf_outside.declared.sources.Source.{Ghosts}
use Rattle.rebuild_names.specs.elf_xlate.declared.content.Items.{Items}
use Rattle.rebuild_names.specs.elf_xlate.declared.content.Items.TheVariants as items
use Rattle.rebuild_names.specs.elf_xlate.Translation.{first_unfit}
use Rattle.rebuild_making.specs.elf_object.Object.{Object}
use Rattle.rebuild_making.specs.elf_object.Answers.{raw_refusal, words_of, syms_of}
use Rattle.elf_update_plan.specs.elf_descriptor.State.{State}
use Rattle.rebuild_making.specs.elf_object.Sections.{header_at, is_among, is_loose}
use Rattle.rebuild_making.specs.rebuild_model.Followed.{Renumbering, kept_from_1, followed_header, followed_group, followed_syms, followed_words, symbols_follow, members_follow}
use Rattle.rebuild_names.specs.declared.building.NewNames.{NewNames}
use Rattle.rebuild_keep.specs.declared.naming.Names.{Names}
use Rattle.rebuild_keep.specs.declared.naming.Names.TheVariants.{Anew}
use Rattle.rebuild_keep.specs.declared.keepers.Keeper.{Keeper}
use Rattle.rebuild_keep.specs.Makes.{MakesStated, FitsAs, FitsAny, SymsFit}
use Rattle.rebuild_keep.specs.Homes.{items_at_home, home_refusal, bytes_at_home, words_found, syms_found}
use Rattle.rebuild_keep.specs.Keepers.{name_by, header_by, serves, indexes_by, symbol_items_by, group_by, words_by, kept_items_by, items_or_names, items_by, follows_by, is_renewed, makes_by, kind_by, kept_refusal_by, refusal_or_none, refusal_by, reads_by}
use Rattle.rebuild_keep.proofs.FitLaws.{followed_fit}
use Rattle.rebuild_keep.proofs.MakeLaws.{unread_any, makes_then, makes_as, makes_nothing, makes_both, makes_early}

pub number_is : (l : List ℕ) (i : ℕ) → unwrap_or (slice_get l i) 0 ≡ slice_index l i
number_is l i = unwrap_or-slice_get l i 0

-- ---- Headers

abbrev with_name : Shdr → ℕ → Shdr
with_name h name = record h { name = name }

module _ (k : Keeper) (o : Object) (s : ℕ) where
  pub header_is : (h made : Shdr) (name : ℕ) → h ≡ header_at o s
      → made ≡ followed_header k.numbering h → name ≡ name_by k.names s h.name
      → with_name made name ≡ header_by k o s
  unfolding header_by
  header_is h made name at is named =
      ap (λ (x : Shdr). with_name x name) (is ∙ ap (followed_header k.numbering) at)
      ∙ ap (with_name (followed_header k.numbering (header_at o s)))
      (named ∙ ap (λ (x : Shdr). name_by k.names s x.name) at)

-- ---- What a section is

module _ (k : Keeper) (o : Object) (s link : ℕ) (at : link ≡ (header_at o s).link) where
  pub holds_where : (r : Bool) → is_among (kept_from_1 o k.removed.now) link ≡ true
      → r ≡ serves k o s link → r ≡ indexes_by k o s
  unfolding indexes_by
  holds_where r kept is =
      is
      ∙ sym (ap (λ (b : Bool). b && serves k o s link) kept)
      ∙ ap (λ (n : ℕ). is_among (kept_from_1 o k.removed.now) n && serves k o s n) at

  pub holds_not : is_among (kept_from_1 o k.removed.now) link ≡ false → false ≡ indexes_by k o s
  unfolding indexes_by
  holds_not gone =
      sym (ap (λ (b : Bool). b && serves k o s link) gone)
      ∙ ap (λ (n : ℕ). is_among (kept_from_1 o k.removed.now) n && serves k o s n) at

module _ (o : Object) (s : ℕ) (h : Shdr) (r b : Bool) (at : h ≡ header_at o s) (test : r ≡ b) where
  pub symbols_told : r ≡ is_loose SHT_SYMTAB kinds.Sym h → symbols_follow o s ≡ b
  unfolding symbols_follow
  symbols_told is = sym (ap (is_loose SHT_SYMTAB kinds.Sym) at) ∙ sym is ∙ test

  pub members_told : r ≡ is_loose SHT_GROUP kinds.Word h → members_follow o s ≡ b
  unfolding members_follow
  members_told is = sym (ap (is_loose SHT_GROUP kinds.Word) at) ∙ sym is ∙ test

-- its items follow, or what it has is made
module _ (k : Keeper) (o : Object) (s : ℕ) where
  pub follows_symbols : symbols_follow o s ≡ true → true ≡ follows_by k o s
  unfolding follows_by
  follows_symbols one = rw one refl

  pub follows_members : symbols_follow o s ≡ false → members_follow o s ≡ true
      → true ≡ follows_by k o s
  unfolding follows_by
  follows_members one two = rw (one, two) refl

  pub follows_indexes : (r : Bool) → symbols_follow o s ≡ false → members_follow o s ≡ false
      → r ≡ indexes_by k o s → r ≡ follows_by k o s
  unfolding follows_by
  follows_indexes r one two is = is ∙ rw (one, two) refl

  pub makes_renewed : is_renewed k.names (s == o.header.shstrndx) ≡ true → true ≡ makes_by k o s
  unfolding makes_by
  makes_renewed is = sym (ap (λ (b : Bool). b || follows_by k o s) is)

  pub makes_others : (r : Bool) → is_renewed k.names (s == o.header.shstrndx) ≡ false
      → r ≡ follows_by k o s → r ≡ makes_by k o s
  unfolding makes_by
  makes_others r not_names is = is ∙ sym (ap (λ (b : Bool). b || follows_by k o s) not_names)

  -- of which kind its items are
  pub kind_renewed : is_renewed k.names (s == o.header.shstrndx) ≡ true
      → kinds.Bytes ≡ kind_by k o s
  unfolding kind_by
  kind_renewed is = rw is refl

  pub kind_symbols : is_renewed k.names (s == o.header.shstrndx) ≡ false
      → symbols_follow o s ≡ true → kinds.Sym ≡ kind_by k o s
  unfolding kind_by
  kind_symbols not_names is = rw (not_names, is) refl

  pub kind_words : is_renewed k.names (s == o.header.shstrndx) ≡ false
      → symbols_follow o s ≡ false → follows_by k o s ≡ true → kinds.Word ≡ kind_by k o s
  unfolding kind_by
  kind_words not_names none is = rw (not_names, none, is) refl

  pub kind_bytes : is_renewed k.names (s == o.header.shstrndx) ≡ false
      → symbols_follow o s ≡ false → follows_by k o s ≡ false → kinds.Bytes ≡ kind_by k o s
  unfolding kind_by
  kind_bytes not_names none is = rw (not_names, none, is) refl

-- ---- Items

word_fits : (class : Class) (l : List ℕ) → first_unfit class (items.Word l) ≡ None
unfolding first_unfit
word_fits class l = refl

bytes_fit : (class : Class) (l : List ℕ) → first_unfit class (items.Bytes l) ≡ None
unfolding first_unfit
bytes_fit class l = refl

-- what is made fits where it is this
fits_as : (class : Class) (made : Items) (q : Result Items ElfError) → IfOk q (λ y. y ≡ made)
    → first_unfit class made ≡ None → IfOk q (FitsAs class)
fits_as class made (Ok y) is fits =
    subst (λ (x : Items). first_unfit class x ≡ None) (sym is) fits
fits_as class made (Err e) is fits = tt

module _ {S : Type 0} (g : Ghosts S) (m : Renumbering) (q : Result Items ElfError) where
  pub symbols_then : (old new : State S) (s : ℕ) (words : List ℕ) (syms slice : List Sym)
      → MakesStated g (λ o. syms_of (items_at_home o s)) SymsFit (λ o. home_refusal o s) (λ o. s ∷ [])
      (Ok syms) old new
      → slice ≡ syms → IfOk q (λ y. y ≡ items.Sym (followed_syms m words slice))
      → IfErr q (λ e. e ≡ Memory)
      → MakesStated g (λ o. items.Sym (followed_syms m words (syms_of (items_at_home o s)))) FitsAs
      (λ o. home_refusal o s) (λ o. s ∷ []) q old new
  symbols_then old new s words syms slice is at ok only =
      makes_then g old new (λ o. syms_of (items_at_home o s))
      (λ o. items.Sym (followed_syms m words (syms_of (items_at_home o s)))) SymsFit FitsAs
      (λ o. home_refusal o s) (λ o. s ∷ []) syms q is
      (λ same. subst (λ (l : List Sym). IfOk q (λ y. y ≡ items.Sym (followed_syms m words l)))
      (at ∙ same) ok)
      (λ fits. fits_as old.o.header.class (items.Sym (followed_syms m words slice)) q ok
      (followed_fit old.o.header.class m words slice
      (subst (λ (l : List Sym). first_unfit old.o.header.class (items.Sym l) ≡ None) (sym at)
      fits))) only

  pub group_then : (old new : State S) (s : ℕ) (words slice : List ℕ)
      → MakesStated g (λ o. words_of (items_at_home o s)) FitsAny (λ o. home_refusal o s) (λ o. s ∷ [])
      (Ok words) old new
      → slice ≡ words → IfOk q (λ y. y ≡ items.Word (followed_group m slice))
      → IfErr q (λ e. e ≡ Memory)
      → MakesStated g (λ o. items.Word (followed_group m (words_of (items_at_home o s)))) FitsAs
      (λ o. home_refusal o s) (λ o. s ∷ []) q old new
  group_then old new s words slice is at ok only =
      makes_then g old new (λ o. words_of (items_at_home o s))
      (λ o. items.Word (followed_group m (words_of (items_at_home o s)))) FitsAny FitsAs
      (λ o. home_refusal o s) (λ o. s ∷ []) words q is
      (λ same. subst (λ (l : List ℕ). IfOk q (λ y. y ≡ items.Word (followed_group m l)))
      (at ∙ same) ok)
      (λ fits. fits_as old.o.header.class (items.Word (followed_group m slice)) q ok
      (word_fits old.o.header.class (followed_group m slice))) only

  pub indexes_then : (old new : State S) (link : ℕ) (words : List ℕ) (syms slice : List Sym)
      → MakesStated g (λ o. syms_found o link) FitsAny (λ o. None) (λ o. link ∷ []) (Ok syms) old new
      → slice ≡ syms → IfOk q (λ y. y ≡ items.Word (followed_words m slice words))
      → IfErr q (λ e. e ≡ Memory)
      → MakesStated g (λ o. items.Word (followed_words m (syms_found o link) words)) FitsAs
      (λ o. None) (λ o. link ∷ []) q old new
  indexes_then old new link words syms slice is at ok only =
      makes_then g old new (λ o. syms_found o link)
      (λ o. items.Word (followed_words m (syms_found o link) words)) FitsAny FitsAs
      (λ o. None) (λ o. link ∷ []) syms q is
      (λ same. subst (λ (l : List Sym). IfOk q (λ y. y ≡ items.Word (followed_words m l words)))
      (at ∙ same) ok)
      (λ fits. fits_as old.o.header.class (items.Word (followed_words m slice words)) q ok
      (word_fits old.o.header.class (followed_words m slice words))) only

module _ {S : Type 0} (g : Ghosts S) (k : Keeper) (s : ℕ) where
  -- ---- Symbols, with the words of their extended indexes before them

  module _ (t : ℕ) (at : t ≡ slice_index k.tables s) where
    symbols_as : (old new : State S) (q : Result Items ElfError)
        → MakesStated g (λ o. items.Sym (followed_syms k.numbering (words_found o t)
        (syms_of (items_at_home o s)))) FitsAs (λ o. home_refusal o s)
        (λ o. (t ∷ []) ++ (s ∷ [])) q old new
        → MakesStated g (λ o. symbol_items_by k o s) FitsAs (λ o. home_refusal o s)
        (λ o. slice_index k.tables s ∷ s ∷ []) q old new
    symbols_as old new q is =
        makes_as g old new
        (λ o. items.Sym (followed_syms k.numbering (words_found o t) (syms_of (items_at_home o s))))
        (λ o. symbol_items_by k o s) FitsAs (λ o. home_refusal o s) (λ o. home_refusal o s)
        (λ o. (t ∷ []) ++ (s ∷ [])) (λ o. slice_index k.tables s ∷ s ∷ []) q
        (ap (λ (n : ℕ). items.Sym (followed_syms k.numbering (words_found old.o n)
        (syms_of (items_at_home old.o s)))) at)
        refl (ap (λ (n : ℕ). n ∷ s ∷ []) at) is

    pub symbols_both : (old mid new : State S) (words slice : List ℕ) (q : Result Items ElfError)
        → MakesStated g (λ o. words_found o t) FitsAny (λ o. None) (λ o. t ∷ []) (Ok words) old mid
        → slice ≡ words
        → MakesStated g (λ o. items.Sym (followed_syms k.numbering slice (syms_of (items_at_home o s))))
        FitsAs (λ o. home_refusal o s) (λ o. s ∷ []) q mid new
        → MakesStated g (λ o. symbol_items_by k o s) FitsAs (λ o. home_refusal o s)
        (λ o. slice_index k.tables s ∷ s ∷ []) q old new
    symbols_both old mid new words slice q first same second =
        symbols_as old new q
        (makes_both g old mid new (λ o. words_found o t) FitsAny (λ o. None) (λ o. t ∷ [])
        (λ o. items.Sym (followed_syms k.numbering slice (syms_of (items_at_home o s))))
        (λ o. items.Sym (followed_syms k.numbering (words_found o t) (syms_of (items_at_home o s))))
        FitsAs (λ o. home_refusal o s) (λ o. home_refusal o s) (λ o. s ∷ []) words q
        (λ is. ap (λ (l : List ℕ). items.Sym (followed_syms k.numbering l
        (syms_of (items_at_home old.o s)))) (same ∙ is))
        (λ none. refl) first second)

    pub symbols_early : (old mid : State S) (e : ElfError)
        → MakesStated {T = List ℕ} g (λ o. words_found o t) FitsAny (λ o. None) (λ o. t ∷ []) (Err e)
        old mid
        → MakesStated {T = Items} g (λ o. symbol_items_by k o s) FitsAs (λ o. home_refusal o s)
        (λ o. slice_index k.tables s ∷ s ∷ []) (Err e) old mid
    symbols_early old mid e is =
        symbols_as old mid (Err e)
        (makes_early g old mid mid (λ o. words_found o t) FitsAny (λ o. None) (λ o. t ∷ [])
        (λ o. symbol_items_by k o s)
        (λ o. items.Sym (followed_syms k.numbering (words_found o t) (syms_of (items_at_home o s))))
        FitsAs (λ o. home_refusal o s) (λ o. home_refusal o s) (λ o. s ∷ []) e
        (unread_any (home_refusal old.o s) e) is)

  -- ---- Extended indexes, and then their symbols

  module _ (link : ℕ) (old : State S) (at : link ≡ (header_at old.o s).link) where
    indexes_as : (new : State S) (q : Result Items ElfError)
        → MakesStated g (λ o. items.Word (followed_words k.numbering (syms_found o link)
        (words_of (items_at_home o s)))) FitsAs (λ o. home_refusal o s)
        (λ o. (s ∷ []) ++ (link ∷ [])) q old new
        → MakesStated g (λ o. words_by k o s) FitsAs (λ o. home_refusal o s)
        (λ o. s ∷ (header_at o s).link ∷ []) q old new
    indexes_as new q is =
        makes_as g old new
        (λ o. items.Word (followed_words k.numbering (syms_found o link)
        (words_of (items_at_home o s))))
        (λ o. words_by k o s) FitsAs (λ o. home_refusal o s) (λ o. home_refusal o s)
        (λ o. (s ∷ []) ++ (link ∷ [])) (λ o. s ∷ (header_at o s).link ∷ []) q
        (ap (λ (n : ℕ). items.Word (followed_words k.numbering (syms_found old.o n)
        (words_of (items_at_home old.o s)))) at)
        refl (ap (λ (n : ℕ). s ∷ n ∷ []) at) is

    pub indexes_both : (mid new : State S) (words slice : List ℕ) (q : Result Items ElfError)
        → MakesStated g (λ o. words_of (items_at_home o s)) FitsAny (λ o. home_refusal o s) (λ o. s ∷ [])
        (Ok words) old mid
        → slice ≡ words
        → MakesStated g (λ o. items.Word (followed_words k.numbering (syms_found o link) slice)) FitsAs
        (λ o. None) (λ o. link ∷ []) q mid new
        → MakesStated g (λ o. words_by k o s) FitsAs (λ o. home_refusal o s)
        (λ o. s ∷ (header_at o s).link ∷ []) q old new
    indexes_both mid new words slice q first same second =
        indexes_as new q
        (makes_both g old mid new (λ o. words_of (items_at_home o s)) FitsAny
        (λ o. home_refusal o s) (λ o. s ∷ [])
        (λ o. items.Word (followed_words k.numbering (syms_found o link) slice))
        (λ o. items.Word (followed_words k.numbering (syms_found o link)
        (words_of (items_at_home o s))))
        FitsAs (λ o. None) (λ o. home_refusal o s) (λ o. link ∷ []) words q
        (λ is. ap (λ (l : List ℕ).
        items.Word (followed_words k.numbering (syms_found old.o link) l)) (same ∙ is))
        (λ none. sym none) first second)

    pub indexes_early : (mid : State S) (e : ElfError)
        → MakesStated {T = List ℕ} g (λ o. words_of (items_at_home o s)) FitsAny (λ o. home_refusal o s)
        (λ o. s ∷ []) (Err e) old mid
        → MakesStated {T = Items} g (λ o. words_by k o s) FitsAs (λ o. home_refusal o s)
        (λ o. s ∷ (header_at o s).link ∷ []) (Err e) old mid
    indexes_early mid e is =
        indexes_as mid (Err e)
        (makes_early g old mid mid (λ o. words_of (items_at_home o s)) FitsAny
        (λ o. home_refusal o s) (λ o. s ∷ [])
        (λ o. words_by k o s)
        (λ o. items.Word (followed_words k.numbering (syms_found o link)
        (words_of (items_at_home o s))))
        FitsAs (λ o. None) (λ o. home_refusal o s) (λ o. link ∷ []) e (λ by. by) is)

  -- ---- By what a section is

  abbrev Kept : Result Items ElfError → State S → State S → Type 0
  Kept q old new =
      MakesStated g (λ o. kept_items_by k o s) FitsAs (λ o. kept_refusal_by k o s) (λ o. reads_by k o s) q
      old new

  module _ (q : Result Items ElfError) (old new : State S) where
    pub kept_symbols : symbols_follow old.o s ≡ true
        → MakesStated g (λ o. symbol_items_by k o s) FitsAs (λ o. home_refusal o s)
        (λ o. slice_index k.tables s ∷ s ∷ []) q old new
        → Kept q old new
    unfolding kept_items_by kept_refusal_by follows_by reads_by
    kept_symbols one is =
        makes_as g old new (λ o. symbol_items_by k o s) (λ o. kept_items_by k o s) FitsAs
        (λ o. home_refusal o s) (λ o. kept_refusal_by k o s)
        (λ o. slice_index k.tables s ∷ s ∷ []) (λ o. reads_by k o s) q
        (rw one refl) (rw one refl) (rw one refl) is

    pub kept_group : symbols_follow old.o s ≡ false → members_follow old.o s ≡ true
        → MakesStated g (λ o. group_by k o s) FitsAs (λ o. home_refusal o s) (λ o. s ∷ []) q old new
        → Kept q old new
    unfolding kept_items_by kept_refusal_by follows_by reads_by
    kept_group one two is =
        makes_as g old new (λ o. group_by k o s) (λ o. kept_items_by k o s) FitsAs
        (λ o. home_refusal o s) (λ o. kept_refusal_by k o s)
        (λ o. s ∷ []) (λ o. reads_by k o s) q
        (rw (one, two) refl) (rw (one, two) refl) (rw (one, two) refl) is

    pub kept_indexes : symbols_follow old.o s ≡ false → members_follow old.o s ≡ false
        → indexes_by k old.o s ≡ true
        → MakesStated g (λ o. words_by k o s) FitsAs (λ o. home_refusal o s)
        (λ o. s ∷ (header_at o s).link ∷ []) q old new
        → Kept q old new
    unfolding kept_items_by kept_refusal_by follows_by reads_by
    kept_indexes one two three is =
        makes_as g old new (λ o. words_by k o s) (λ o. kept_items_by k o s) FitsAs
        (λ o. home_refusal o s) (λ o. kept_refusal_by k o s)
        (λ o. s ∷ (header_at o s).link ∷ []) (λ o. reads_by k o s) q
        (rw (one, two, three) refl) (rw (one, two, three) refl) (rw (one, two, three) refl) is

    pub kept_bytes : symbols_follow old.o s ≡ false → members_follow old.o s ≡ false
        → indexes_by k old.o s ≡ false
        → MakesStated g (λ o. bytes_at_home o s) FitsAs (λ o. raw_refusal o s) (λ o. s ∷ []) q old new
        → Kept q old new
    unfolding kept_items_by kept_refusal_by follows_by reads_by
    kept_bytes one two three is =
        makes_as g old new (λ o. bytes_at_home o s) (λ o. kept_items_by k o s) FitsAs
        (λ o. raw_refusal o s) (λ o. kept_refusal_by k o s)
        (λ o. s ∷ []) (λ o. reads_by k o s) q
        (rw (one, two, three) refl) (rw (one, two, three) refl) (rw (one, two, three) refl) is

  -- ---- The table of the names

  abbrev Named : Names → Result Items ElfError → State S → State S → Type 0
  Named names q old new =
      MakesStated g (λ o. items_or_names names (s == o.header.shstrndx) (kept_items_by k o s)) FitsAs
      (λ o. refusal_or_none names (s == o.header.shstrndx) (kept_refusal_by k o s))
      (λ o. reads_by k o s) q old new

  pub names_made : (names : NewNames) (slice : List ℕ) (q : Result Items ElfError)
      (old : State S) → (s == old.o.header.shstrndx) ≡ true → slice ≡ names.table
      → IfOk q (λ y. y ≡ items.Bytes slice) → IfErr q (λ e. e ≡ Memory)
      → Named (Anew names) q old old
  names_made names slice q old here at ok only =
      makes_as g old old (λ o. items.Bytes slice)
      (λ o. items_or_names (Anew names) (s == o.header.shstrndx) (kept_items_by k o s)) FitsAs
      (λ o. None)
      (λ o. refusal_or_none (Anew names) (s == o.header.shstrndx) (kept_refusal_by k o s))
      (λ o. reads_by k o s) (λ o. reads_by k o s) q
      (ap (λ (l : List ℕ). items.Bytes l) at
      ∙ sym (ap (λ (b : Bool). if b then items.Bytes names.table else kept_items_by k old.o s) here))
      (sym (ap (λ (b : Bool). if b then None else kept_refusal_by k old.o s) here))
      refl
      (makes_then g old old (λ o. tt) (λ o. items.Bytes slice) FitsAny FitsAs (λ o. None)
      (λ o. reads_by k o s) (tt {0}) q (makes_nothing g old (λ o. tt) (λ o. reads_by k o s) tt refl)
      (λ same. ok)
      (λ fits. fits_as old.o.header.class (items.Bytes slice) q ok
      (bytes_fit old.o.header.class slice)) only)

  -- by what becomes of the names
  pub items_made : (names : Names) (q : Result Items ElfError) (old new : State S)
      → k.names ≡ names → Named names q old new
      → MakesStated g (λ o. items_by k o s) FitsAs (λ o. refusal_by k o s) (λ o. reads_by k o s) q
      old new
  unfolding items_by refusal_by
  items_made names q old new at is =
      makes_as g old new
      (λ o. items_or_names names (s == o.header.shstrndx) (kept_items_by k o s)) (λ o. items_by k o s)
      FitsAs (λ o. refusal_or_none names (s == o.header.shstrndx) (kept_refusal_by k o s))
      (λ o. refusal_by k o s) (λ o. reads_by k o s) (λ o. reads_by k o s) q
      (ap (λ (n : Names). items_or_names n (s == old.o.header.shstrndx) (kept_items_by k old.o s))
      (sym at))
      (ap (λ (n : Names).
      refusal_or_none n (s == old.o.header.shstrndx) (kept_refusal_by k old.o s)) (sym at))
      refl is
