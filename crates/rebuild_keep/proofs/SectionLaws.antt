-- Of an object in which nothing is dirty a keeper makes the sections that strip states, where none
-- is refused.
use Rattle.std.proofs.Common.{◌≡◌, ◌≢◌, ◌<◌, ◌==◌, ◌&&◌, ◌||◌, ℕ, Bool, true, false, not, List, [], ◌∷◌, length, map, Option, Some, None, Ok, Err, if◌then◌else◌, refl, sym, ap, ◌∙◌, arith}
use Rattle.std.specs.Prelude.{nat_lt, slice_index}
use Rattle.std.proofs.lemmas.Bool.{and_parts, and_from, eq-eqb, eqb-true, ne_eqb, lt-ltb}
use Rattle.std.proofs.lemmas.List.FromFn.{get_or-map-range_with_len}
use Rattle.elf_types.specs.declared.records.Kind.{Kind}
use Rattle.elf_types.specs.declared.records.Kind.TheVariants as kinds
use Rattle.elf_types.specs.declared.records.Shdr.{Shdr}
use Rattle.elf_types.specs.declared.records.Sym.{Sym}
use Rattle.elf_types.specs.declared.constants.TheConstants.{SHT_SYMTAB_SHNDX}
use Rattle.elf_types.specs.declared.errors.ElfError.{ElfError}
use Rattle.elf_types.specs.declared.errors.ElfError.TheVariants.{OutOfFile, Ragged}
use Rattle.elf_types.specs.Answers.{first_refusal}
use Rattle.rebuild_names.specs.elf_xlate.declared.content.Items.{Items}
use Rattle.rebuild_names.specs.elf_xlate.declared.content.Items.TheVariants as items
use Rattle.rebuild_names.specs.elf_xlate.Translation.{decoded}
use Rattle.strtab_build.specs.Table.{table, place_of}
use Rattle.rebuild_making.specs.elf_object.Object.{Object, Section, section_at, is_dirty, new_section}
use Rattle.rebuild_making.specs.elf_object.Answers.{content, or_empty, items_at, words_of, syms_of, raw_refusal, data_refusal}
use Rattle.rebuild_making.specs.elf_object.Strings.{section_name, or_empty_name}
use Rattle.rebuild_making.specs.elf_object.Valid.{IsObject}
use Rattle.rebuild_making.proofs.elf_object.PassedLaws.{none_first, not_refused}
use Rattle.rebuild_making.specs.elf_object.Sections.{header_at, is_among, is_loose}
use Rattle.rebuild_making.specs.rebuild_model.Followed.{renumbering, Renumbering, kept_from_1, followed_header, followed_group, followed_syms, followed_words, symbols_follow, members_follow, indexes_follow, extended_table, is_the, words_for, syms_in}
use Rattle.rebuild_making.specs.rebuild_model.Rebuilt.{made_section, renews_names, kept_names, kept_refusal, kept_items, items_follow, rebuilt_items, rebuilt_name, rebuilt_header, rebuilt_section, rebuilt_sections}
use Rattle.rebuild_making.specs.Making.{sections_by}
use Rattle.rebuild_names.specs.declared.building.NewNames.{NewNames}
use Rattle.rebuild_names.specs.Names.{new_names, name_place}
use Rattle.rebuild_keep.specs.declared.naming.Names.{Names}
use Rattle.rebuild_keep.specs.declared.naming.Names.TheVariants.{Stay, Anew, TooLarge}
use Rattle.rebuild_keep.specs.declared.keepers.Keeper.{Keeper}
use Rattle.rebuild_keep.specs.Homes.{or_empty_items, decoded_items, items_at_home, home_refusal, list_none_if_refused, is_there, words_at_home, syms_at_home, words_found, syms_found}
use Rattle.rebuild_keep.specs.Keepers.{name_by, header_by, symbol_items_by, group_by, words_by, kept_items_by, items_or_names, items_by, indexes_by, RenewsAs, AreNames, KeepsFor}
use Rattle.rebuild_keep.specs.Answers.{filled_sections, sections_of}
use Rattle.rebuild_keep.proofs.CleanLaws.{clean_piece, clean_kind}
use Rattle.rebuild_keep.proofs.HomeLaws.{raw_there}
use Rattle.rebuild_keep.proofs.NumberLaws.{kept_with_0}
use Rattle.rebuild_keep.proofs.KeptLaws.{map_members, among_any, kept_parts, extended_table_parts, home_is_data, tables_told, indexes_told}

-- ---- The items of a home

content_items : (s : ℕ) (d : Option Items)
    → or_empty_items d ≡ or_empty (elim d [ None ↦ Err (Ragged s) | Some x ↦ Ok x ])
content_items s None = refl
content_items s (Some x) = refl

module _ (o : Object) (s : ℕ) (is : IsObject o) (clean : is_dirty o ≡ false)
    (there : s < length o.sections) where
  pub home_same : (section_at o s).home.out ≡ false → items_at_home o s ≡ items_at o s 0
  unfolding items_at_home decoded_items items_at content
  home_same inside =
      let d = decoded (section_at o s).home.kind o.header.class o.header.order (section_at o s).raw
      in
      ap (λ (k : Kind).
      or_empty_items (decoded k o.header.class o.header.order (section_at o s).raw))
      (clean_kind o s is clean there)
      ∙ content_items s d
      ∙ sym (ap (λ (own : Option Items).
      elim own [ None ↦ or_empty (content o s) | Some items ↦ items ]) (clean_piece o s is clean there)
      ∙ ap (λ (b : Bool). or_empty (if b then Err (OutOfFile s)
      else (elim d [ None ↦ Err (Ragged s) | Some x ↦ Ok x ]))) inside)

  raw_inside : raw_refusal o s ≡ None → (section_at o s).home.out ≡ false
  raw_inside passed =
      not_refused (section_at o s).home.out (OutOfFile s) (sym (raw_there o s there) ∙ passed)

-- ---- Where nothing is refused

none_found : (o : Object) → words_found o 0 ≡ []
unfolding words_found
none_found o = refl

module _ (o : Object) (k : Keeper) (keeps : KeepsFor true o k) (is : IsObject o)
    (clean : is_dirty o ≡ false)
    (passes : (t : ℕ) → is_among (kept_from_1 o k.removed.now) t ≡ true
    → kept_refusal o k.removed.now t ≡ None) where
  raw_passes : (t : ℕ) → is_among (kept_from_1 o k.removed.now) t ≡ true
      → raw_refusal o t ≡ None
  unfolding kept_refusal
  raw_passes t kept =
      none_first (raw_refusal o t)
      ((if items_follow o k.removed.now t then data_refusal o t 0 else None) ∷ []) (passes t kept)

  own_items : (t : ℕ) → is_among (kept_from_1 o k.removed.now) t ≡ true
      → items_at_home o t ≡ items_at o t 0
  own_items t kept =
      let there = (kept_parts o k.removed.now t kept).1 in
      home_same o t is clean there (raw_inside o t is clean there (raw_passes t kept))

  home_passes : (t : ℕ) → is_among (kept_from_1 o k.removed.now) t ≡ true
      → items_follow o k.removed.now t ≡ true → home_refusal o t ≡ None
  unfolding kept_refusal
  home_passes t kept follows =
      home_is_data o t is clean (kept_parts o k.removed.now t kept).1
      ∙ ap (λ (b : Bool).
      first_refusal (raw_refusal o t ∷ (if b then data_refusal o t 0 else None) ∷ []))
      (sym follows)
      ∙ passes t kept

  number_there : (t : ℕ) → is_among (kept_from_1 o k.removed.now) t ≡ true → is_there o t ≡ true
  number_there t kept =
      let parts = kept_parts o k.removed.now t kept in
      and_from (not (t == 0)) (nat_lt t (length o.sections)) (ap not (ne_eqb t 0 parts.0))
      (lt-ltb t (length o.sections) parts.1)

  words_same : (t : ℕ) → is_among (kept_from_1 o k.removed.now) t ≡ true
      → items_follow o k.removed.now t ≡ true → words_found o t ≡ words_of (items_at o t 0)
  unfolding words_found
  words_same t kept follows =
      ap (λ (b : Bool). if b then words_at_home o t else []) (number_there t kept)
      ∙ ap (λ (r : Option ElfError). list_none_if_refused r (words_of (items_at_home o t)))
      (home_passes t kept follows)
      ∙ ap words_of (own_items t kept)

  syms_same : (t : ℕ) → is_among (kept_from_1 o k.removed.now) t ≡ true
      → items_follow o k.removed.now t ≡ true → syms_found o t ≡ syms_of (items_at o t 0)
  unfolding syms_found
  syms_same t kept follows =
      ap (λ (b : Bool). if b then syms_at_home o t else []) (number_there t kept)
      ∙ ap (λ (r : Option ElfError). list_none_if_refused r (syms_of (items_at_home o t)))
      (home_passes t kept follows)
      ∙ ap syms_of (own_items t kept)

  -- ---- Items that follow

  indexes_then_follow : (t : ℕ) → indexes_follow o k.removed.now t ≡ true
      → items_follow o k.removed.now t ≡ true
  indexes_then_follow t holds = last_true (symbols_follow o t || members_follow o t) holds
    where
      last_true : (b : Bool) → indexes_follow o k.removed.now t ≡ true
          → (b || indexes_follow o k.removed.now t) ≡ true
      last_true true holds = refl
      last_true false holds = holds

  symbols_then_follow : (t : ℕ) → symbols_follow o t ≡ true → items_follow o k.removed.now t ≡ true
  symbols_then_follow t holds =
      ap (λ (b : Bool). b || members_follow o t || indexes_follow o k.removed.now t) holds

  -- the table of extended indexes of symbols that follow has items that follow
  table_follows : (s t : ℕ) → is_among (kept_from_1 o k.removed.now) s ≡ true
      → symbols_follow o s ≡ true → extended_table o k.removed.now s ≡ Some t
      → indexes_follow o k.removed.now t ≡ true
  unfolding indexes_follow
  table_follows s t kept follows at =
      let has = (extended_table_parts o k.removed.now s t at).1 in
      let linked : (header_at o t).link ≡ s =
      eqb-true (header_at o t).link s
      (and_parts (is_loose SHT_SYMTAB_SHNDX kinds.Word (header_at o t)) ((header_at o t).link == s)
      has).1 in
      rw linked
      (and_from (is_among (kept_from_1 o k.removed.now) s && symbols_follow o s)
      (is_the t (extended_table o k.removed.now s))
      (and_from (is_among (kept_from_1 o k.removed.now) s) (symbols_follow o s) kept follows)
      (ap (is_the t) at ∙ eq-eqb t t refl))

  words_for_is : (s : ℕ) → is_among (kept_from_1 o k.removed.now) s ≡ true
      → symbols_follow o s ≡ true
      → words_found o (slice_index k.tables s) ≡ words_for o k.removed.now s
  unfolding words_for
  words_for_is s kept follows =
      ap (words_found o)
      (tables_told true o k keeps is clean s (kept_parts o k.removed.now s kept).1)
      ∙ by (extended_table o k.removed.now s) refl
    where
      by : (x : Option ℕ) → extended_table o k.removed.now s ≡ x
          → words_found o (elim x [ Some n ↦ n | None ↦ 0 ])
          ≡ (elim x [ None ↦ [] | Some t ↦ words_of (items_at o t 0) ])
      by None at = none_found o
      by (Some t) at =
          words_same t (extended_table_parts o k.removed.now s t at).0
          (indexes_then_follow t (table_follows s t kept follows at))

  -- ---- One section

  module _ (s : ℕ) (kept : is_among (kept_from_1 o k.removed.now) s ≡ true) where
    symbols_is : symbols_follow o s ≡ true
        → symbol_items_by k o s
        ≡ items.Sym (followed_syms (renumbering o k.removed.now) (words_for o k.removed.now s)
        (syms_in o s))
    symbols_is follows =
        ap (λ (m : Renumbering). items.Sym (followed_syms m (words_found o (slice_index k.tables s))
        (syms_of (items_at_home o s)))) keeps.numbering_is
        ∙ ap (λ (l : List ℕ). items.Sym (followed_syms (renumbering o k.removed.now) l
        (syms_of (items_at_home o s)))) (words_for_is s kept follows)
        ∙ ap (λ (x : Items). items.Sym (followed_syms (renumbering o k.removed.now)
        (words_for o k.removed.now s) (syms_of x))) (own_items s kept)

    group_is : group_by k o s
        ≡ items.Word (followed_group (renumbering o k.removed.now) (words_of (items_at o s 0)))
    group_is =
        ap (λ (m : Renumbering). items.Word (followed_group m (words_of (items_at_home o s))))
        keeps.numbering_is
        ∙ ap (λ (x : Items). items.Word (followed_group (renumbering o k.removed.now)
        (words_of x))) (own_items s kept)

    words_is : indexes_follow o k.removed.now s ≡ true
        → words_by k o s
        ≡ items.Word (followed_words (renumbering o k.removed.now)
        (syms_in o (header_at o s).link) (words_of (items_at o s 0)))
    unfolding indexes_follow
    words_is follows =
        let link = (header_at o s).link in
        let front = (and_parts (is_among (kept_from_1 o k.removed.now) link
        && symbols_follow o link) (is_the s (extended_table o k.removed.now link)) follows).0 in
        let both = and_parts (is_among (kept_from_1 o k.removed.now) link) (symbols_follow o link)
        front in
        ap (λ (m : Renumbering). items.Word (followed_words m (syms_found o link)
        (words_of (items_at_home o s)))) keeps.numbering_is
        ∙ ap (λ (l : List Sym). items.Word (followed_words (renumbering o k.removed.now) l
        (words_of (items_at_home o s))))
        (syms_same link both.0 (symbols_then_follow link both.1))
        ∙ ap (λ (x : Items). items.Word (followed_words (renumbering o k.removed.now)
        (syms_in o link) (words_of x))) (own_items s kept)

    abbrev sym_items : Items
    sym_items = items.Sym (followed_syms (renumbering o k.removed.now)
        (words_for o k.removed.now s) (syms_in o s))

    abbrev group_items : Items
    group_items = items.Word (followed_group (renumbering o k.removed.now)
        (words_of (items_at o s 0)))

    abbrev word_items : Items
    word_items = items.Word (followed_words (renumbering o k.removed.now)
        (syms_in o (header_at o s).link) (words_of (items_at o s 0)))

    abbrev home_bytes : Items
    home_bytes = items.Bytes (section_at o s).raw

    kept_is : kept_items_by k o s ≡ kept_items o k.removed.now s
    unfolding kept_items_by kept_items
    kept_is =
        by_tests (symbols_follow o s) (members_follow o s) (indexes_by k o s)
        (indexes_follow o k.removed.now s) refl refl
        (indexes_told true o k keeps is clean s (kept_parts o k.removed.now s kept).0) refl
      where
        by_tests : (a b c d : Bool) → symbols_follow o s ≡ a → members_follow o s ≡ b → c ≡ d
            → indexes_follow o k.removed.now s ≡ d
            → (if a then symbol_items_by k o s else (if b then group_by k o s
            else (if c then words_by k o s else home_bytes)))
            ≡ (if a then sym_items else (if b then group_items else (if d then word_items else home_bytes)))
        by_tests true b c d one two same three = symbols_is one
        by_tests false true c d one two same three = group_is
        by_tests false false true true one two same three = words_is three
        by_tests false false false false one two same three = refl
        by_tests false false true false one two same three = cc
        by_tests false false false true one two same three = cc

    -- ---- The names

    items_is : (names : Names) → RenewsAs (renews_names o k.removed.now) names
        → AreNames o k.removed.now names → names ≢ TooLarge
        → items_or_names names (s == o.header.shstrndx) (kept_items_by k o s)
        ≡ rebuilt_items o k.removed.now s
    unfolding rebuilt_items new_names
    items_is Stay renews are fits =
        kept_is
        ∙ sym (ap (λ (b : Bool). if b && s == o.header.shstrndx
        then items.Bytes (table (kept_names o k.removed.now)) else kept_items o k.removed.now s)
        renews)
    items_is (Anew names) renews are fits =
        ap (λ (n : NewNames). if s == o.header.shstrndx then items.Bytes n.table
        else kept_items_by k o s) are.1
        ∙ ap (λ (x : Items). if s == o.header.shstrndx
        then items.Bytes (table (kept_names o k.removed.now)) else x) kept_is
        ∙ sym (ap (λ (b : Bool). if b && s == o.header.shstrndx
        then items.Bytes (table (kept_names o k.removed.now)) else kept_items o k.removed.now s)
        renews)
    items_is TooLarge renews are fits = absurd (fits refl)

    name_is : (names : Names) → RenewsAs (renews_names o k.removed.now) names
        → AreNames o k.removed.now names → names ≢ TooLarge
        → name_by names s (header_at o s).name ≡ rebuilt_name o k.removed.now s
    unfolding rebuilt_name new_names name_place
    name_is Stay renews are fits =
        sym (ap (λ (b : Bool). if b
        then place_of (or_empty_name (section_name o s)) (kept_names o k.removed.now)
        else (header_at o s).name) renews)
    name_is (Anew names) renews are fits =
        ap (λ (n : NewNames). slice_index n.places s) are.1
        ∙ get_or-map-range_with_len (λ t. if is_among (kept_from_1 o k.removed.now) t
        then place_of (or_empty_name (section_name o t)) (kept_names o k.removed.now) else 0)
        0 (length o.sections) s s 0 (kept_parts o k.removed.now s kept).1 (omega arith)
        ∙ ap (λ (b : Bool). if b
        then place_of (or_empty_name (section_name o s)) (kept_names o k.removed.now) else 0) kept
        ∙ sym (ap (λ (b : Bool). if b
        then place_of (or_empty_name (section_name o s)) (kept_names o k.removed.now)
        else (header_at o s).name) renews)
    name_is TooLarge renews are fits = absurd (fits refl)

    header_is : k.names ≢ TooLarge → header_by k o s ≡ rebuilt_header o k.removed.now s
    unfolding header_by rebuilt_header
    header_is fits =
        ap (λ (m : Renumbering). record (followed_header m (header_at o s)) {
          name = name_by k.names s (header_at o s).name;
        }) keeps.numbering_is
        ∙ ap (λ (n : ℕ).
        record (followed_header (renumbering o k.removed.now) (header_at o s)) { name = n })
        (name_is k.names keeps.renews (keeps.names_are refl) fits)

    section_is : k.names ≢ TooLarge
        → made_section (header_by k o s) (items_by k o s) ≡ rebuilt_section o k.removed.now s
    unfolding items_by rebuilt_section
    section_is fits =
        ap (λ (h : Shdr). made_section h
        (items_or_names k.names (s == o.header.shstrndx) (kept_items_by k o s))) (header_is fits)
        ∙ ap (λ (x : Items). made_section (rebuilt_header o k.removed.now s) x)
        (items_is k.names keeps.renews (keeps.names_are refl) fits)
        ∙ sym (ap (λ (b : Bool). if b then new_section
        else made_section (rebuilt_header o k.removed.now s) (rebuilt_items o k.removed.now s))
        (ne_eqb s 0 (kept_parts o k.removed.now s kept).0))

  -- ---- All sections

  pub sections_told : is_among k.removed.now 0 ≡ false → k.names ≢ TooLarge
      → sections_of k o ≡ rebuilt_sections o k.removed.now
  unfolding filled_sections sections_by rebuilt_sections rebuilt_section
  sections_told stays fits =
      ap (λ (l : List Section). if length o.sections == 0 then [] else new_section ∷ l)
      (map_members (λ s. made_section (header_by k o s) (items_by k o s))
      (rebuilt_section o k.removed.now) (kept_from_1 o k.removed.now)
      (λ s any. section_is s (sym (among_any o k.removed.now s) ∙ any) fits))
      ∙ with_0 (length o.sections == 0)
      ∙ ap (map (rebuilt_section o k.removed.now)) (sym (kept_with_0 o k.removed.now stays))
    where
      with_0 : (b : Bool)
          → (if b then [] else new_section
          ∷ map (rebuilt_section o k.removed.now) (kept_from_1 o k.removed.now))
          ≡ map (rebuilt_section o k.removed.now)
          (if b then [] else 0 ∷ kept_from_1 o k.removed.now)
      with_0 true = refl
      with_0 false = refl
