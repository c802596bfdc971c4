-- Rows that are found of a section: what it has in the new image is made of them, and nothing is
-- refused of it.
use Rattle.std.proofs.Common.{◌≡◌, ◌+◌, ◌*◌, ◌/◌, ◌%◌, ◌≤◌, ◌==◌, ℕ, Bool, true, false, List, [], ◌∷◌, length, take, drop, Option, None, Ok, inl, inr, if◌then◌else◌, refl, sym, ap, ◌∙◌, subst, arith}
use Rattle.std.specs.Prelude.{IsTrue, IfSome, slice_index}
use Rattle.std.proofs.lemmas.Nat.{div-add-mod'}
use Rattle.std.proofs.lemmas.Option.{IfSome_then}
use Rattle.elf_types.specs.declared.records.Class.{Class}
use Rattle.elf_types.specs.declared.records.Order.{Order}
use Rattle.elf_types.specs.declared.records.Kind.{Kind}
use Rattle.elf_types.specs.declared.records.Kind.TheVariants as kinds
use Rattle.elf_types.specs.declared.records.Sym.{Sym}
use Rattle.elf_types.specs.declared.errors.ElfError.{ElfError}
use Rattle.elf_types.specs.declared.errors.ElfError.TheVariants.{OutOfFile}
use Rattle.elf_types.specs.Answers.{refused_if}
use Rattle.elf_xlate.specs.declared.content.Items.TheVariants as items
use Rattle.elf_xlate.specs.Items.{item_size, word_of}
use Rattle.elf_xlate.specs.Translation.{items_of}
use Rattle.elf_xlate.proofs.Pieces.{items_of_none}
use Rattle.rebuild_image.specs.elf_object.Object.{Object, section_at, is_dirty}
use Rattle.rebuild_image.specs.elf_object.Answers.{no_section, no_data, out_of_file, piece_refusal, raw_refusal, words_of, syms_of}
use Rattle.rebuild_image.specs.elf_object.Calls.{piece_kind_answer}
use Rattle.rebuild_image.specs.elf_object.Due.{is_loaded, home_due, homes_due}
use Rattle.rebuild_image.specs.elf_object.Valid.{IsObject, IsTied}
use Rattle.rebuild_image.proofs.elf_object.AnswerLaws.{piece_kind_value}
use Rattle.rebuild_image.proofs.elf_object.PassedLaws.{none_first, none_rest}
use Rattle.rebuild_keep.proofs.law_object.KeepLaws.{section_at_is}
use Rattle.rebuild_image.proofs.rebuild_making.RefusedLaws.{alone, passes_first}
use Rattle.rebuild_image.specs.elf_object.Sections.{header_at}
use Rattle.rebuild_image.specs.rebuild_model.Followed.{followed_syms, followed_words, symbols_follow, members_follow}
use Rattle.rebuild_keep.specs.declared.naming.Names.{Names}
use Rattle.rebuild_keep.specs.declared.naming.Names.TheVariants.{Stay, Anew, TooLarge}
use Rattle.rebuild_keep.specs.declared.keepers.Keeper.{Keeper}
use Rattle.rebuild_keep.specs.Homes.{decoded_items, decoded_refusal, items_at_home, home_refusal, list_none_if_refused, is_there, words_found, syms_found}
use Rattle.rebuild_keep.specs.Keepers.{symbol_items_by, words_by, kept_items_by, items_or_names, items_by, follows_by, is_renewed, makes_by, indexes_by, kept_refusal_by, refusal_or_none, refusal_by, reads_by}
use Rattle.rebuild_keep.proofs.HomeLaws.{home_third, words_there, words_absent, syms_there}
use Rattle.rebuild_keep.proofs.KeeperLaws.{follows_symbols, follows_indexes}
use Rattle.rebuild_image.proofs.HomeLaws.{homes_stand}
use Rattle.rebuild_tables.specs.declared.rows.TableAt.{TableAt}
use Rattle.rebuild_tables.specs.declared.rows.FollowedRows.{FollowedRows}
use Rattle.rebuild_tables.specs.Rows.{LieInBase, syms_in_base, words_in_base, made_of_rows, rows_made}
use Rattle.rebuild_tables.specs.Finding.{HoldsKind, IsTableAt, AreItemsAt, empty_table, AreWordsAt, HaveFormOf, AreSymbolRows, AreIndexRows, AreRowsOf}
use Rattle.rebuild_tables.proofs.PieceLaws.{items_in_front}
use Rattle.rebuild_tables.proofs.ReadLaws.{ListsItems, as_words, as_syms, table_items, items_decoded, items_whole}

-- ---- Kinds and extents

pub first_held : (o : Object) (s : ℕ) (kind : Kind) → Ok kind ≡ piece_kind_answer o s 0
    → HoldsKind o s kind
first_held o s kind is =
    let value = piece_kind_value o s 0 kind (sym is) in
    record { passed = value.0; kind_is = sym value.1 }

pub whole_items : (len size : ℕ) → len % size ≡ 0 → len / size * size ≡ len
whole_items len size whole = let all = div-add-mod' len size in omega (arith, all, whole)

pub extent_found : (o : Object) (s size at len : ℕ) (r : Option TableAt)
    → (section_at o s).home.out ≡ false → at ≡ (section_at o s).home.at
    → len ≡ (section_at o s).home.len → at + len ≤ length o.base
    → IfSome r (λ t. (t.at ≡ at) × (t.count * size ≡ len)) → IfSome r (IsTableAt o s size)
extent_found o s size at len r out at_is len_is within is =
    IfSome_then r is (λ t made. record {
      out = out;
      at = made.0 ∙ at_is;
      len = made.1 ∙ len_is;
      inside = let place = made.0 in let bytes = made.1 in omega (arith, place, bytes, within);
    })

pub items_found : (o : Object) (s size : ℕ) (kind : Kind) (class : Class) (r : Option TableAt)
    → HoldsKind o s kind → class ≡ o.header.class → size ≡ item_size kind class
    → IfSome r (IsTableAt o s size) → IfSome r (AreItemsAt o s kind)
items_found o s size kind class r holds class_is size_is found =
    IfSome_then r found (λ t is. record {
      holds = holds;
      extent = subst (λ (n : ℕ). IsTableAt o s n t)
          (size_is ∙ ap (λ (c : Class). item_size kind c) class_is) is;
    })

pub words_somewhere : (o : Object) (s : ℕ) (r : Option TableAt) → is_there o s ≡ true
    → IfSome r (AreItemsAt o s kinds.Word) → IfSome r (AreWordsAt o s)
words_somewhere o s r there found = IfSome_then r found (λ t is. inr (there, is))

-- ---- One table

module _ (o : Object) (s : ℕ) (kind : Kind) (t : TableAt) (is : IsObject o)
    (are : AreItemsAt o s kind t) where
  home_long : length (section_at o s).raw ≡ t.count * item_size kind o.header.class
  home_long = (section_at_is o s is).home.inside are.extent.out ∙ sym are.extent.len

  raw_passes : raw_refusal o s ≡ None
  unfolding raw_refusal piece_refusal
  raw_passes =
      passes_first (no_section o s) (out_of_file o s ∷ [])
      (none_first (no_section o s) (no_data o s 0 ∷ []) are.holds.passed)
      ∙ alone (out_of_file o s)
      ∙ ap (λ (b : Bool). refused_if b (OutOfFile s)) are.extent.out

  data_passes : no_data o s 0 ≡ None
  unfolding piece_refusal
  data_passes =
      none_first (no_data o s 0) []
      (none_rest (no_section o s) (no_data o s 0 ∷ []) are.holds.passed)

  home_passes : decoded_refusal s kind o.header.class o.header.order (section_at o s).raw ≡ None
      → home_refusal o s ≡ None
  home_passes whole =
      home_third o s raw_passes data_passes
      ∙ ap (λ (k : Kind). decoded_refusal s k o.header.class o.header.order (section_at o s).raw)
      are.holds.kind_is
      ∙ whole

  home_asks : home_due o [] s ≡ t.count * item_size kind o.header.class
  unfolding home_due is_loaded
  home_asks =
      ap (λ (b : Bool). if b then 0 else (section_at o s).home.len) are.extent.out
      ∙ sym are.extent.len

  raw_stands : IsTied o → is_dirty o ≡ false → (section_at o s).raw
      ≡ take (t.count * item_size kind o.header.class) (drop t.at o.base)
  raw_stands tied clean =
      homes_stand o s tied clean are.extent.out
      ∙ ap (λ (n : ℕ). take n (drop (section_at o s).home.at o.base)) (sym are.extent.len)
      ∙ ap (λ (p : ℕ). take (t.count * item_size kind o.header.class) (drop p o.base))
      (sym are.extent.at)

module _ {X : Type 0} (lists : ListsItems X) (o : Object) (s : ℕ) (t : TableAt) (is : IsObject o)
    (are : AreItemsAt o s lists.kind t) where
  items_pass : home_refusal o s ≡ None
  items_pass =
      home_passes o s lists.kind t is are
      (items_whole lists o.header.class o.header.order (section_at o s).raw t.count
      (home_long o s lists.kind t is are) s)

  items_stand : IsTied o → is_dirty o ≡ false
      → lists.list_of (items_at_home o s) ≡ table_items lists o.header.class o.header.order t o.base
  unfolding items_at_home
  items_stand tied clean =
      let size = item_size lists.kind o.header.class in
      let item = lists.item o.header.class o.header.order in
      ap (λ (k : Kind). lists.list_of
      (decoded_items k o.header.class o.header.order (section_at o s).raw)) are.holds.kind_is
      ∙ items_decoded lists o.header.class o.header.order (section_at o s).raw t.count
      (home_long o s lists.kind t is are)
      ∙ ap (items_of item size t.count) (raw_stands o s lists.kind t is are tied clean)
      ∙ items_in_front item size t.count (drop t.at o.base)

  module _ (x : FollowedRows) (form : HaveFormOf o x) where
    items_formed : IsTied o → is_dirty o ≡ false
        → lists.list_of (items_at_home o s) ≡ table_items lists x.class x.order t o.base
    items_formed tied clean =
        items_stand tied clean
        ∙ ap (λ (c : Class). table_items lists c o.header.order t o.base) (sym form.class_is)
        ∙ ap (λ (r : Order). table_items lists x.class r t o.base) (sym form.order_is)

    items_lie : LieInBase (item_size lists.kind x.class) o.base t
    items_lie =
        subst (λ (c : Class). LieInBase (item_size lists.kind c) o.base t) (sym form.class_is)
        are.extent.inside

    items_ask : t.count * item_size lists.kind x.class ≡ home_due o [] s
    items_ask =
        ap (λ (c : Class). t.count * item_size lists.kind c) form.class_is
        ∙ sym (home_asks o s lists.kind t is are)

-- ---- The two tables of rows

module _ (o : Object) (x : FollowedRows) (is : IsObject o) (form : HaveFormOf o x) where
  words_formed : (s : ℕ) → AreItemsAt o s kinds.Word x.words → IsTied o → is_dirty o ≡ false
      → words_of (items_at_home o s) ≡ words_in_base o.base x
  unfolding words_in_base
  words_formed s are tied clean =
      items_formed as_words o s x.words is are x form tied clean

  syms_formed : (s : ℕ) → AreItemsAt o s kinds.Sym x.syms → IsTied o → is_dirty o ≡ false
      → syms_of (items_at_home o s) ≡ syms_in_base o.base x
  unfolding syms_in_base
  syms_formed s are tied clean =
      items_formed as_syms o s x.syms is are x form tied clean

  -- the words of a section that may not be there
  no_words_in : x.words ≡ empty_table → words_in_base o.base x ≡ []
  unfolding words_in_base
  no_words_in none =
      ap (λ (t : TableAt). items_of (word_of x.class x.order) (item_size kinds.Word x.class)
      t.count (drop t.at o.base)) none
      ∙ items_of_none (word_of x.class x.order) (item_size kinds.Word x.class) (drop 0 o.base)

  found_words : (s : ℕ) → AreWordsAt o s x.words → IsTied o → is_dirty o ≡ false
      → words_found o s ≡ words_in_base o.base x
  found_words s (inl none) tied clean =
      sym (words_absent o s none.0) ∙ sym (no_words_in none.1)
  found_words s (inr are) tied clean =
      sym (words_there o s are.0)
      ∙ ap (λ (r : Option ElfError). list_none_if_refused r (words_of (items_at_home o s)))
      (items_pass as_words o s x.words is are.1)
      ∙ words_formed s are.1 tied clean

  found_lie : (s : ℕ) → AreWordsAt o s x.words
      → LieInBase (item_size kinds.Word x.class) o.base x.words
  found_lie s (inl none) =
      subst (λ (t : TableAt). LieInBase (item_size kinds.Word x.class) o.base t)
      (sym none.1) (let within : 0 + 0 * item_size kinds.Word x.class ≤ length o.base =
      omega arith in within)
  found_lie s (inr are) = items_lie as_words o s x.words is are.1 x form

  found_ask : (s : ℕ) → AreWordsAt o s x.words
      → x.words.count * item_size kinds.Word x.class ≤ home_due o [] s
  found_ask s (inl none) =
      let count : x.words.count ≡ 0 = ap (λ (t : TableAt). t.count) none.1 in
      omega (arith, count)
  found_ask s (inr are) =
      let same = items_ask as_words o s x.words is are.1 x form in omega (arith, same)

-- ---- What a section has

module _ (k : Keeper) (told : Bool) (o : Object) (s : ℕ) (x : FollowedRows) (is : IsObject o)
    (clean : is_dirty o ≡ false) (tied : IsTrue told → IsTied o)
    (elsewhere : (s == o.header.shstrndx) ≡ false) where
  not_renewed : is_renewed k.names (s == o.header.shstrndx) ≡ false
  not_renewed = ap (is_renewed k.names) elsewhere ∙ never k.names
    where
      never : (names : Names) → is_renewed names false ≡ false
      never Stay = refl
      never (Anew names) = refl
      never TooLarge = refl

  items_kept : items_by k o s ≡ kept_items_by k o s
  unfolding items_by
  items_kept =
      ap (λ (b : Bool). items_or_names k.names b (kept_items_by k o s)) elsewhere ∙ by k.names
    where
      by : (names : Names) → items_or_names names false (kept_items_by k o s) ≡ kept_items_by k o s
      by Stay = refl
      by (Anew names) = refl
      by TooLarge = refl

  refusal_kept : true ≡ follows_by k o s → refusal_by k o s ≡ home_refusal o s
  unfolding refusal_by kept_refusal_by
  refusal_kept follows =
      ap (λ (b : Bool). refusal_or_none k.names b
      (if follows_by k o s then home_refusal o s else raw_refusal o s)) elsewhere
      ∙ by k.names
      ∙ ap (λ (b : Bool). if b then home_refusal o s else raw_refusal o s) (sym follows)
    where
      by : (names : Names) → refusal_or_none names false
          (if follows_by k o s then home_refusal o s else raw_refusal o s)
          ≡ (if follows_by k o s then home_refusal o s else raw_refusal o s)
      by Stay = refl
      by (Anew names) = refl
      by TooLarge = refl

  two_asked : (a b : ℕ) → homes_due o [] (a ∷ b ∷ []) ≡ home_due o [] a + home_due o [] b
  unfolding homes_due
  two_asked a b =
      let sum : 0 + home_due o [] a + home_due o [] b ≡ home_due o [] a + home_due o [] b =
      omega arith in sum

  -- ---- A symbol table

  module _ (symbols : symbols_follow o s ≡ true) (are : AreSymbolRows k o s x) where
    symbols_kept : kept_items_by k o s ≡ symbol_items_by k o s
    unfolding kept_items_by
    symbols_kept = rw symbols refl

    symbols_read : reads_by k o s ≡ slice_index k.tables s ∷ s ∷ []
    unfolding reads_by
    symbols_read = rw symbols refl

    symbols_made : IsTied o → symbol_items_by k o s ≡ rows_made k.numbering o.base x
    symbols_made ties =
        ap (λ (words : List ℕ). items.Sym (followed_syms k.numbering words
        (syms_of (items_at_home o s))))
        (found_words o x is are.form (slice_index k.tables s) are.words ties clean)
        ∙ ap (λ (syms : List Sym). items.Sym (followed_syms k.numbering
        (words_in_base o.base x) syms))
        (syms_formed o x is are.form s are.syms ties clean)
        ∙ ap (λ (b : Bool). made_of_rows k.numbering b (words_in_base o.base x)
        (syms_in_base o.base x)) (sym are.made)

    pub symbols_are_rows : AreRowsOf k told o s x
    symbols_are_rows = record {
      form = are.form;
      inside = record {
        syms = items_lie as_syms o s x.syms is are.syms x are.form;
        words = found_lie o x is are.form (slice_index k.tables s) are.words;
      };
      passed = refusal_kept (follows_symbols k o s symbols)
          ∙ items_pass as_syms o s x.syms is are.syms;
      made = λ t. items_kept ∙ symbols_kept ∙ symbols_made (tied t);
      due =
          let syms = items_ask as_syms o s x.syms is are.syms x are.form in
          let words = found_ask o x is are.form (slice_index k.tables s) are.words in
          let both = ap (homes_due o []) symbols_read ∙ two_asked (slice_index k.tables s) s in
          omega (arith, syms, words, both);
    }

  -- ---- A table of extended indexes

  module _ (no_symbols : symbols_follow o s ≡ false) (no_members : members_follow o s ≡ false)
      (makes : makes_by k o s ≡ true) (link : ℕ) (at : link ≡ (header_at o s).link)
      (are : AreIndexRows o s link x) where
    indexes_made : indexes_by k o s ≡ true
    unfolding makes_by follows_by
    indexes_made =
        let same : makes_by k o s ≡ indexes_by k o s =
        rw (not_renewed, no_symbols, no_members) refl in
        sym same ∙ makes

    words_kept : kept_items_by k o s ≡ words_by k o s
    unfolding kept_items_by
    words_kept = rw (no_symbols, no_members, indexes_made) refl

    indexes_read : reads_by k o s ≡ s ∷ (header_at o s).link ∷ []
    unfolding reads_by
    indexes_read = rw (no_symbols, no_members, indexes_made) refl

    link_syms : IsTied o → syms_found o (header_at o s).link ≡ syms_in_base o.base x
    link_syms ties =
        ap (syms_found o) (sym at)
        ∙ sym (syms_there o link are.there)
        ∙ ap (λ (r : Option ElfError). list_none_if_refused r (syms_of (items_at_home o link)))
        (items_pass as_syms o link x.syms is are.syms)
        ∙ syms_formed o x is are.form link are.syms ties clean

    words_made : IsTied o → words_by k o s ≡ rows_made k.numbering o.base x
    words_made ties =
        ap (λ (syms : List Sym). items.Word (followed_words k.numbering syms
        (words_of (items_at_home o s)))) (link_syms ties)
        ∙ ap (λ (words : List ℕ). items.Word (followed_words k.numbering
        (syms_in_base o.base x) words))
        (words_formed o x is are.form s are.words ties clean)
        ∙ ap (λ (b : Bool). made_of_rows k.numbering b (words_in_base o.base x)
        (syms_in_base o.base x)) (sym are.made)

    pub indexes_are_rows : AreRowsOf k told o s x
    indexes_are_rows = record {
      form = are.form;
      inside = record {
        syms = items_lie as_syms o link x.syms is are.syms x are.form;
        words = items_lie as_words o s x.words is are.words x are.form;
      };
      passed = refusal_kept
          (follows_indexes k o s true no_symbols no_members (sym indexes_made))
          ∙ items_pass as_words o s x.words is are.words;
      made = λ t. items_kept ∙ words_kept ∙ words_made (tied t);
      due =
          let syms = items_ask as_syms o link x.syms is are.syms x are.form in
          let words = items_ask as_words o s x.words is are.words x are.form in
          let both = ap (homes_due o []) indexes_read ∙ two_asked s (header_at o s).link in
          let linked = ap (home_due o []) at in
          omega (arith, syms, words, both, linked);
    }
