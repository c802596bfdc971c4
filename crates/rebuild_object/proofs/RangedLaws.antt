-- The items of what is made without some sections are in the ranges of their types.
use Rattle.std.proofs.Common.{◌≡◌, ◌<◌, ◌≤◌, ◌+◌, ◌==◌, ◌&&◌, ◌^◌, ℕ, zero, suc, Bool, true, false, not, cond, List, [], ◌∷◌, length, map, take, drop, get_or, Option, None, Some, Ok, Err, if◌then◌else◌, refl, sym, subst, arith, lit<}
use Rattle.std.specs.Prelude.{All, filter, nat_lt, nat_eq, slice_get}
use Rattle.std.specs.List.{flat_map, range_with_len, enumerate_from}
use Rattle.std.proofs.lemmas.Bool.{eqb-true, ltb-true}
use Rattle.std.proofs.lemmas.List.Concat.{flat_map-cons}
use Rattle.std.proofs.lemmas.List.Elements.{All-append, All-cons, All-drop, All-head, All-map, All-nil, All-tail, All-take}
use Rattle.std.proofs.lemmas.List.FromFn.{get_or-enumerate_from, length-enumerate_from}
use Rattle.std.proofs.lemmas.List.Quantifiers.{position-Some}
use Rattle.elf_types.specs.declared.constants.TheConstants.{SHN_LORESERVE}
use Rattle.elf_types.specs.declared.records.Sym.{Sym}
use Rattle.elf_types.specs.declared.errors.ElfError.TheVariants.{OutOfFile, Ragged}
use Rattle.elf_types.specs.Lists.{AreBytes}
use Rattle.elf_xlate.specs.declared.content.Items.{Items}
use Rattle.elf_xlate.specs.declared.content.Items.TheVariants as items
use Rattle.elf_xlate.specs.Items.{IsSym}
use Rattle.elf_xlate.specs.Translation.{AreItems, decoded}
use Rattle.elf_xlate.proofs.Narrow.{decoded_ranged}
use Rattle.elf_object.specs.Object.{Object, section_at, is_dirty}
use Rattle.elf_object.specs.Answers.{content, items_at, or_empty, words_of, syms_of}
use Rattle.elf_object.specs.Sections.{header_at, is_among}
use Rattle.elf_object.specs.Strings.{section_name, or_empty_name}
use Rattle.elf_object.specs.strtab_build.Table.{table}
use Rattle.elf_object.specs.Valid.{IsObject}
use Rattle.rebuild_model.specs.Followed.{Renumbering, renumbering, renumbered, kept_sections, kept_from_1, is_section_number, followed_sym, followed_extended, followed_by_word, followed_syms, followed_group, followed_member, followed_word, followed_words, word_of_sym, word_counts, without_section, symbols_follow, members_follow, indexes_follow, words_for, syms_in}
use Rattle.rebuild_model.specs.Rebuilt.{renews_names, kept_names, kept_items, rebuilt_items}
use Rattle.law_rebuild.proofs.copy.TableNames.{table_is_bytes}
use Rattle.law_rebuild.proofs.law_object.KeepLaws.{section_at_is}
use Rattle.law_rebuild.proofs.law_object.RangeLaws.{each_made}
use Rattle.rebuild_plan.proofs.rebuild_keep.CleanLaws.{clean_piece}
use Rattle.rebuild_object.proofs.NameLaws.{name_is_bytes}

abbrev IsWord : ℕ → Type 0
IsWord n = n < 2 ^ 32

-- ---- New numbers

-- the numbers of a range that pass stand at no greater place
place_low : (keep : ℕ → Bool) (c a k d : ℕ) → k < length (filter keep (range_with_len a c))
    → a + k ≤ get_or (filter keep (range_with_len a c)) k d
place_low keep zero a k d below = absurd (omega arith)
place_low keep (suc c) a k d below =
    by_test (keep a) (λ i there. place_low keep c (a + 1) i d there) k below
  where
    by_test : (b : Bool)
        → ((i : ℕ) → i < length (filter keep (range_with_len (a + 1) c))
        → a + 1 + i ≤ get_or (filter keep (range_with_len (a + 1) c)) i d) → (i : ℕ)
        → i < length (cond b (a ∷ filter keep (range_with_len (a + 1) c))
        (filter keep (range_with_len (a + 1) c)))
        → a + i ≤ get_or (cond b (a ∷ filter keep (range_with_len (a + 1) c))
        (filter keep (range_with_len (a + 1) c))) i d
    by_test true later zero there = omega arith
    by_test true later (suc i) there =
        let rest = later i (omega (arith, there)) in omega (arith, rest)
    by_test false later i there = let rest = later i there in omega (arith, rest)

-- so a new number is at most the old one
number_falls : (o : Object) (removed : List ℕ) (n new : ℕ)
    → renumbered (renumbering o removed) n ≡ Some new → new ≤ n
unfolding renumbered kept_sections
number_falls o removed n new is =
    let kept = filter (λ (s : ℕ). not (is_among removed s)) (range_with_len 0 (length o.sections)) in
    let stands = position-Some (nat_eq n) kept new 0 is in
    let low = place_low (λ (s : ℕ). not (is_among removed s)) (length o.sections) 0 new 0 stands.0 in
    let same : n ≡ get_or kept new 0 = eqb-true n (get_or kept new 0) stands.1 in
    omega (arith, low, same)

-- ---- Symbols

without_ranged : (x : Sym) → IsSym x → IsSym (without_section x)
without_ranged x is = record {
  name = is.name;
  info = is.info;
  other = is.other;
  shndx = lit< tt;
  value = lit< tt;
  size = is.size;
}

numbered_ranged : (x : Sym) (n : ℕ) → n < 2 ^ 16 → IsSym x → IsSym (record x { shndx = n })
numbered_ranged x n small is = record {
  name = is.name;
  info = is.info;
  other = is.other;
  shndx = small;
  value = is.value;
  size = is.size;
}

module _ (o : Object) (removed : List ℕ) where
  abbrev m : Renumbering
  m = renumbering o removed

  sym_ranged : (x : Sym) → IsSym x → IsSym (followed_sym m x)
  unfolding followed_sym
  sym_ranged x is =
      by_test (nat_lt x.shndx SHN_LORESERVE && is_section_number m x.shndx)
      (renumbered m x.shndx) refl
    where
      by_test : (b : Bool) (place : Option ℕ) → renumbered m x.shndx ≡ place → IsSym (if b
          then (elim place [ None ↦ without_section x | Some new ↦ record x { shndx = new } ])
          else x)
      by_test true None at = without_ranged x is
      by_test true (Some new) at =
          let less = number_falls o removed x.shndx new at in
          let small = is.shndx in
          numbered_ranged x new (omega (arith, less, small)) is
      by_test false place at = is

  extended_ranged : (word : ℕ) (x : Sym) → IsSym x → IsSym (followed_extended m word x)
  unfolding followed_extended
  extended_ranged word x is = by_place (renumbered m word)
    where
      by_test : (a b : Bool) (new : ℕ) → nat_lt new SHN_LORESERVE ≡ b
          → IsSym (if a && b then record x { shndx = new } else x)
      by_test true true new at =
          let low = ltb-true new SHN_LORESERVE at in
          numbered_ranged x new (omega (arith, low)) is
      by_test true false new at = is
      by_test false b new at = is

      by_place : (place : Option ℕ) → IsSym (elim place [
        | None ↦ without_section x
        | Some new ↦
            if not (new == word) && nat_lt new SHN_LORESERVE then record x { shndx = new } else x
      ])
      by_place None = without_ranged x is
      by_place (Some new) =
          by_test (not (new == word)) (nat_lt new SHN_LORESERVE) new refl

  by_word_ranged : (word : Option ℕ) (x : Sym) → IsSym x → IsSym (followed_by_word m word x)
  by_word_ranged None x is = sym_ranged x is
  by_word_ranged (Some word) x is = by_test (word_counts m x word)
    where
      by_test : (b : Bool) → IsSym (if b then followed_extended m word x else followed_sym m x)
      by_test true = extended_ranged word x is
      by_test false = sym_ranged x is

  syms_ranged : (words : List ℕ) (l : List Sym) → All IsSym l → All IsSym (followed_syms m words l)
  unfolding followed_syms
  syms_ranged words l each =
      All-map IsSym (λ row. followed_by_word m (slice_get words row.0) row.1) (enumerate_from 0 l)
      (λ k d h.
      let inside : k < length l = omega (arith, h, length-enumerate_from 0 l) in
      subst (λ (r : ℕ × Sym). IsSym (followed_by_word m (slice_get words r.0) r.1))
      (sym (get_or-enumerate_from 0 l k d inside))
      (by_word_ranged (slice_get words (0 + k)) (get_or l k d.1) (each k d.1 inside)))

  -- ---- Words

  member_ranged : (n : ℕ) → IsWord n → All IsWord (followed_member m n)
  member_ranged n small = by_test (is_section_number m n) (renumbered m n) refl
    where
      by_test : (b : Bool) (place : Option ℕ) → renumbered m n ≡ place → All IsWord (if b
          then (elim place [ None ↦ [] | Some new ↦ new ∷ [] ]) else n ∷ [])
      by_test true None at = All-nil IsWord
      by_test true (Some new) at =
          let less = number_falls o removed n new at in
          All-cons IsWord new [] (omega (arith, less, small)) (All-nil IsWord)
      by_test false place at = All-cons IsWord n [] small (All-nil IsWord)

  members_ranged : (l : List ℕ) → All IsWord l → All IsWord (flat_map (followed_member m) l)
  members_ranged [] each = All-nil IsWord
  members_ranged (n ∷ l) each =
      subst (All IsWord) (sym (flat_map-cons (followed_member m) n l))
      (All-append IsWord (followed_member m n) (flat_map (followed_member m) l)
      (member_ranged n (All-head IsWord n l each))
      (members_ranged l (All-tail IsWord n l each)))

  group_ranged : (l : List ℕ) → All IsWord l → All IsWord (followed_group m l)
  unfolding followed_group
  group_ranged l each =
      All-append IsWord (take 1 l) (flat_map (followed_member m) (drop 1 l))
      (All-take IsWord 1 l each) (members_ranged (drop 1 l) (All-drop IsWord 1 l each))

  word_ranged : (word : ℕ) → IsWord word → IsWord (followed_word m word)
  unfolding followed_word
  word_ranged word small = by_place (renumbered m word) refl
    where
      by_test : (b : Bool) (new : ℕ) → new ≤ word → IsWord (if b then 0 else new)
      by_test true new less = lit< tt
      by_test false new less = omega (arith, less, small)

      by_place : (place : Option ℕ) → renumbered m word ≡ place → IsWord (elim place [
        | None ↦ 0
        | Some new ↦ if not (new == word) && nat_lt new SHN_LORESERVE then 0 else new
      ])
      by_place None at = lit< tt
      by_place (Some new) at =
          by_test (not (new == word) && nat_lt new SHN_LORESERVE) new
          (number_falls o removed word new at)

  of_sym_ranged : (word : ℕ) (x : Option Sym) → IsWord word → IsWord (word_of_sym m word x)
  of_sym_ranged word None small = small
  of_sym_ranged word (Some x) small = by_test (word_counts m x word)
    where
      by_test : (b : Bool) → IsWord (if b then followed_word m word else word)
      by_test true = word_ranged word small
      by_test false = small

  words_ranged : (syms : List Sym) (l : List ℕ) → All IsWord l
      → All IsWord (followed_words m syms l)
  unfolding followed_words
  words_ranged syms l each =
      All-map IsWord (λ row. word_of_sym m row.1 (slice_get syms row.0)) (enumerate_from 0 l)
      (λ k d h.
      let inside : k < length l = omega (arith, h, length-enumerate_from 0 l) in
      subst (λ (r : ℕ × ℕ). IsWord (word_of_sym m r.1 (slice_get syms r.0)))
      (sym (get_or-enumerate_from 0 l k d inside))
      (of_sym_ranged (get_or l k d.1) (slice_get syms (0 + k)) (each k d.1 inside)))

-- ---- Items of a home

syms_among : (l : Items) → AreItems l → All IsSym (syms_of l)
syms_among items.Empty are = All-nil IsSym
syms_among (items.Bytes l) are = All-nil IsSym
syms_among (items.Half l) are = All-nil IsSym
syms_among (items.Word l) are = All-nil IsSym
syms_among (items.Addr l) are = All-nil IsSym
syms_among (items.Sym l) are = are
syms_among (items.Rel l) are = All-nil IsSym
syms_among (items.Rela l) are = All-nil IsSym
syms_among (items.Dyn l) are = All-nil IsSym

words_among : (l : Items) → AreItems l → All IsWord (words_of l)
words_among items.Empty are = All-nil IsWord
words_among (items.Bytes l) are = All-nil IsWord
words_among (items.Half l) are = All-nil IsWord
words_among (items.Word l) are = are
words_among (items.Addr l) are = All-nil IsWord
words_among (items.Sym l) are = All-nil IsWord
words_among (items.Rel l) are = All-nil IsWord
words_among (items.Rela l) are = All-nil IsWord
words_among (items.Dyn l) are = All-nil IsWord

module _ (o : Object) (is : IsObject o) (clean : is_dirty o ≡ false) where
  content_ranged : (s : ℕ) → AreItems (or_empty (content o s))
  unfolding content
  content_ranged s =
      by_out (section_at o s).home.out
      (decoded (section_at o s).home.kind o.header.class o.header.order (section_at o s).raw) refl
    where
      by_out : (out : Bool) (read : Option Items)
          → decoded (section_at o s).home.kind o.header.class o.header.order (section_at o s).raw
          ≡ read
          → AreItems (or_empty (if out then Err (OutOfFile s)
          else (elim read [ None ↦ Err (Ragged s) | Some l ↦ Ok l ])))
      by_out true read at = tt
      by_out false None at = tt
      by_out false (Some l) at =
          decoded_ranged (section_at o s).home.kind o.header.class o.header.order
          (section_at o s).raw l (section_at_is o s is).home.bytes at

  at_ranged : (s : ℕ) → s < length o.sections → AreItems (items_at o s 0)
  unfolding items_at
  at_ranged s there =
      subst (λ (own : Option Items). AreItems
      (elim own [ None ↦ or_empty (content o s) | Some l ↦ l ]))
      (sym (clean_piece o s is clean there)) (content_ranged s)

  -- ---- Items of what is made

  module _ (removed : List ℕ) (s : ℕ) (there : s < length o.sections) where
    kept_ranged : AreItems (kept_items o removed s)
    unfolding kept_items
    kept_ranged =
        by_tests (symbols_follow o s) (members_follow o s) (indexes_follow o removed s)
      where
        by_tests : (syms members indexes : Bool) → AreItems (if syms
            then items.Sym
            (followed_syms (renumbering o removed) (words_for o removed s) (syms_in o s))
            else (if members
            then items.Word (followed_group (renumbering o removed) (words_of (items_at o s 0)))
            else (if indexes
            then items.Word (followed_words (renumbering o removed)
            (syms_in o (header_at o s).link) (words_of (items_at o s 0)))
            else items.Bytes (section_at o s).raw)))
        by_tests true members indexes =
            syms_ranged o removed (words_for o removed s) (syms_in o s)
            (syms_among (items_at o s 0) (at_ranged s there))
        by_tests false true indexes =
            group_ranged o removed (words_of (items_at o s 0))
            (words_among (items_at o s 0) (at_ranged s there))
        by_tests false false true =
            words_ranged o removed (syms_in o (header_at o s).link) (words_of (items_at o s 0))
            (words_among (items_at o s 0) (at_ranged s there))
        by_tests false false false = (section_at_is o s is).home.bytes

    names_ranged : AreBytes (table (kept_names o removed))
    unfolding kept_names
    names_ranged =
        table_is_bytes (map (λ t. or_empty_name (section_name o t)) (kept_from_1 o removed))
        (each_made (λ (name : List ℕ). AreBytes name) (λ t. or_empty_name (section_name o t))
        (kept_from_1 o removed) (λ t. name_is_bytes o t is))

    pub rebuilt_ranged : AreItems (rebuilt_items o removed s)
    unfolding rebuilt_items
    rebuilt_ranged = by_test (renews_names o removed && s == o.header.shstrndx)
      where
        by_test : (b : Bool) → AreItems
            (if b then items.Bytes (table (kept_names o removed)) else kept_items o removed s)
        by_test true = names_ranged
        by_test false = kept_ranged
