-- Of an object in which nothing is dirty a keeper refuses and reads as strip states, over every
-- source.
use Rattle.std.proofs.Common.{◌≡◌, ◌≢◌, ◌<◌, ◌==◌, ◌&&◌, ◌||◌, ℕ, suc, Bool, true, false, not, List, [], ◌∷◌, length, map, Option, Some, None, Ok, Err, if◌then◌else◌, refl, sym, ap, ◌∙◌, inl, inr, arith}
use Rattle.std.specs.Prelude.{nat_eq, nat_le, nat_lt, slice_index, is_none}
use Rattle.std.specs.List.{list_any}
use Rattle.std.proofs.lemmas.Bool.{and_parts, cases_eq, eq-eqb, eqb-true, ne_eqb, ltb-true, not-true, both_ways, or_right}
use Rattle.std.proofs.lemmas.List.{length-map}
use Rattle.std.proofs.lemmas.List.FromFn.{get_or-map-range_with_len}
use Rattle.elf_types.specs.declared.records.Kind.{Kind}
use Rattle.elf_types.specs.declared.records.Kind.TheVariants as kinds
use Rattle.elf_types.specs.declared.records.Part.TheVariants as part
use Rattle.elf_types.specs.declared.records.Shdr.{Shdr}
use Rattle.elf_types.specs.declared.constants.TheConstants.{SHT_SYMTAB, SHT_STRTAB, SHT_GROUP, SHT_SYMTAB_SHNDX}
use Rattle.elf_types.specs.declared.errors.ElfError.{ElfError}
use Rattle.elf_types.specs.declared.errors.ElfError.TheVariants.{NoSection, OutOfFile, Ragged, Unfit}
use Rattle.elf_types.specs.Answers.{refused_if, first_refusal, err_of}
use Rattle.elf_types.specs.Kinds.{section_kind}
use Rattle.rebuild_names.specs.elf_xlate.declared.content.Items.{Items}
use Rattle.rebuild_names.specs.elf_xlate.Headers.{ehdr_fits}
use Rattle.rebuild_names.specs.elf_xlate.Translation.{decoded}
use Rattle.rebuild_making.specs.elf_object.Object.{Object, Section, section_at, is_dirty, new_section}
use Rattle.rebuild_making.specs.elf_object.Answers.{content, no_data, no_content, kind_at, raw_refusal, data_refusal, same_kind}
use Rattle.rebuild_making.specs.elf_object.Calls.{newphdr_refusal, update_ehdr_refusal}
use Rattle.rebuild_making.specs.elf_object.Steps.{stored_ehdr}
use Rattle.rebuild_making.specs.elf_object.Valid.{IsObject}
use Rattle.rebuild_making.proofs.elf_object.PassedLaws.{not_refused}
use Rattle.rebuild_making.specs.elf_object.Sections.{header_at, is_allocated, is_among, is_loose, is_of, number_or_0}
use Rattle.rebuild_making.specs.rebuild_model.Followed.{Renumbering, followed, kept_from_1, extended_table, has_indexes_of, is_the, indexes_follow, symbols_follow, members_follow}
use Rattle.rebuild_making.specs.rebuild_model.Rebuilt.{made_section, has_names_alone, renews_names, items_follow, kept_refusal, index_refusal, rebuilt_section, rebuilt_sections, rebuilt_index}
use Rattle.rebuild_making.specs.Making.{sections_by}
use Rattle.rebuild_making.proofs.RefusedLaws.{alone}
use Rattle.rebuild_names.specs.rebuild_numbers.Kept.Kept.{is_left}
use Rattle.rebuild_names.specs.rebuild_numbers.Kept.Tables.{extended_tables}
use Rattle.rebuild_names.proofs.rebuild_numbers.kept.KeptLaws.{kept_among}
use Rattle.rebuild_keep.specs.declared.naming.Names.{Names}
use Rattle.rebuild_keep.specs.declared.naming.Names.TheVariants.{Stay, Anew, TooLarge}
use Rattle.rebuild_keep.specs.declared.keepers.Keeper.{Keeper}
use Rattle.rebuild_keep.specs.Homes.{decoded_refusal, home_refusal}
use Rattle.rebuild_keep.specs.Keepers.{indexes_by, follows_by, kept_refusal_by, refusal_or_none, refusal_by, reads_by, index_by, header_by, items_by, RenewsAs, KeepsFor}
use Rattle.rebuild_keep.specs.Answers.{early_refusal, kept_reads, filled_sections, filled_refusal, sections_of, refusal_of}
use Rattle.rebuild_keep.proofs.CleanLaws.{clean_piece, clean_kind}
use Rattle.rebuild_keep.proofs.HomeLaws.{no_section_there, raw_there}
use Rattle.rebuild_keep.proofs.NumberLaws.{first_among, kept_with_0}

-- ---- Members of a list

pub map_members : {X : Type 0} (f h : ℕ → X) (l : List ℕ)
    → ((s : ℕ) → list_any (nat_eq s) l ≡ true → f s ≡ h s) → map f l ≡ map h l
map_members f h [] same = refl
map_members {X} f h (x ∷ l) same =
    ap (λ (y : X). y ∷ map f l) (same x (first x l))
    ∙ ap (λ (t : List X). h x ∷ t)
    (map_members f h l (λ s is. same s (or_right (nat_eq s x) (list_any (nat_eq s) l) is)))
  where
    first : (x : ℕ) (l : List ℕ) → (nat_eq x x || list_any (nat_eq x) l) ≡ true
    first x l = ap (λ (b : Bool). b || list_any (nat_eq x) l) (eq-eqb x x refl)

pub none_among : (f : ℕ → Option ElfError) (l : List ℕ) (s : ℕ)
    → first_refusal (map f l) ≡ None → list_any (nat_eq s) l ≡ true → f s ≡ None
none_among f [] s none is = let no : false ≡ true = is in cc
none_among f (x ∷ l) s none is =
    by_first (f x) refl (λ rest. none_among f l s rest) none
  where
    by_first : (r : Option ElfError) → f x ≡ r
        → (first_refusal (map f l) ≡ None → list_any (nat_eq s) l ≡ true → f s ≡ None)
        → first_refusal (r ∷ map f l) ≡ None → f s ≡ None
    by_first (Some e) at later none = cc
    by_first None at later none = elim (cases_eq s x) [
      | inl same ↦ ap f same ∙ at
      | inr other ↦ later none
          (sym (ap (λ (b : Bool). b || list_any (nat_eq s) l) (ne_eqb s x other)) ∙ is)
    ]

-- ---- Numbers of kept sections

pub among_any : (o : Object) (removed : List ℕ) (s : ℕ)
    → list_any (nat_eq s) (kept_from_1 o removed) ≡ is_among (kept_from_1 o removed) s
unfolding is_among
among_any o removed s = refl

left_parts : (o : Object) (removed : List ℕ) (s : ℕ) → is_left o removed s ≡ true
    → (s ≢ 0) × (s < length o.sections)
unfolding is_left
left_parts o removed s is =
    let there = (and_parts (not (s == 0) && nat_lt s (length o.sections))
    (not (is_among removed s)) is).0 in
    let both = and_parts (not (s == 0)) (nat_lt s (length o.sections)) there in (
      (λ none. both_ways (s == 0) (not-true (s == 0) both.0) (eq-eqb s 0 none)),
      ltb-true s (length o.sections) both.1,
    )

pub kept_parts : (o : Object) (removed : List ℕ) (s : ℕ)
    → is_among (kept_from_1 o removed) s ≡ true → (s ≢ 0) × (s < length o.sections)
kept_parts o removed s is = left_parts o removed s (sym (kept_among o removed s) ∙ is)

-- ---- Extended indexes

three_tests : (a b c d : Bool) → (a ≡ true → b ≡ true → c ≡ d) → (a && (b && c)) ≡ ((a && b) && d)
three_tests true true c d same = same refl refl
three_tests true false c d same = refl
three_tests false b c d same = refl

the_number : (s : ℕ) (x : Option ℕ) → s ≢ 0 → (number_or_0 x == s) ≡ is_the s x
the_number s None some = ne_eqb 0 s (λ none. some (sym none))
the_number s (Some m) some = elim (cases_eq m s) [
  | inl same ↦ eq-eqb m s same ∙ sym (eq-eqb s m (sym same))
  | inr other ↦ ne_eqb m s other ∙ sym (ne_eqb s m (λ same. other (sym same)))
]

-- the table that is first is one of extended indexes that link to the symbols
pub extended_table_parts : (o : Object) (removed : List ℕ) (t s : ℕ)
    → extended_table o removed t ≡ Some s
    → (is_among (kept_from_1 o removed) s ≡ true) × (has_indexes_of t (header_at o s) ≡ true)
unfolding extended_table is_among
extended_table_parts o removed t s is =
    first_among (λ u. has_indexes_of t (header_at o u)) (kept_from_1 o removed) s is

tables_at : (o : Object) (removed : List ℕ) (t : ℕ) → t < length o.sections
    → slice_index (extended_tables o removed) t ≡ number_or_0 (extended_table o removed t)
unfolding extended_tables
tables_at o removed t below =
    get_or-map-range_with_len (λ u. number_or_0 (extended_table o removed u)) 0
    (length o.sections) t t 0 below (omega arith)

-- ---- The section of the names has no items that follow

of_other : (a b : ℕ) (kind : Kind) (h : Shdr) → h.stype ≡ b → (b == a) ≡ false
    → is_loose a kind h ≡ false
unfolding is_loose is_of
of_other a b kind h at other =
    ap (λ (t : ℕ). ((t == a) && same_kind (section_kind h) kind) && not (is_allocated h)) at
    ∙ ap (λ (c : Bool). (c && same_kind (section_kind h) kind) && not (is_allocated h)) other

strings_symbols : (o : Object) (s : ℕ) → (header_at o s).stype ≡ SHT_STRTAB
    → symbols_follow o s ≡ false
unfolding symbols_follow
strings_symbols o s at = of_other SHT_SYMTAB SHT_STRTAB kinds.Sym (header_at o s) at refl

strings_members : (o : Object) (s : ℕ) → (header_at o s).stype ≡ SHT_STRTAB
    → members_follow o s ≡ false
unfolding members_follow
strings_members o s at = of_other SHT_GROUP SHT_STRTAB kinds.Word (header_at o s) at refl

index_type : (t : ℕ) (h : Shdr) → has_indexes_of t h ≡ true → h.stype ≡ SHT_SYMTAB_SHNDX
unfolding is_loose is_of
index_type t h has =
    let loose = (and_parts (is_loose SHT_SYMTAB_SHNDX kinds.Word h) (h.link == t) has).0 in
    let kind = (and_parts (is_of SHT_SYMTAB_SHNDX kinds.Word h) (not (is_allocated h)) loose).0 in
    eqb-true h.stype SHT_SYMTAB_SHNDX
    (and_parts (h.stype == SHT_SYMTAB_SHNDX) (same_kind (section_kind h) kinds.Word) kind).0

strings_indexes : (o : Object) (removed : List ℕ) (s : ℕ) → (header_at o s).stype ≡ SHT_STRTAB
    → indexes_follow o removed s ≡ false
unfolding indexes_follow
strings_indexes o removed s at =
    ap (λ (b : Bool). (is_among (kept_from_1 o removed) (header_at o s).link
    && symbols_follow o (header_at o s).link) && b)
    (no_table (extended_table o removed (header_at o s).link) refl)
    ∙ none_last (is_among (kept_from_1 o removed) (header_at o s).link
    && symbols_follow o (header_at o s).link)
  where
    none_last : (b : Bool) → (b && false) ≡ false
    none_last true = refl
    none_last false = refl

    no_table : (x : Option ℕ) → extended_table o removed (header_at o s).link ≡ x
        → is_the s x ≡ false
    no_table None is = refl
    no_table (Some m) is =
        ne_eqb s m (λ same.
        let typed = index_type (header_at o s).link (header_at o m)
        (extended_table_parts o removed (header_at o s).link m is).1 in
        let clash : SHT_STRTAB ≡ SHT_SYMTAB_SHNDX =
        sym at ∙ ap (λ (n : ℕ). (header_at o n).stype) same ∙ typed in
        omega (arith, clash))

module _ (o : Object) (removed : List ℕ) (s : ℕ) where
  strings_follow : (header_at o s).stype ≡ SHT_STRTAB → items_follow o removed s ≡ false
  strings_follow at =
      rw (strings_symbols o s at, strings_members o s at, strings_indexes o removed s at) refl

  alone_parts : has_names_alone o removed s ≡ true
      → ((header_at o s).stype ≡ SHT_STRTAB) × ((section_at o s).home.out ≡ false)
  unfolding has_names_alone
  alone_parts is =
      let a = (header_at o s).stype == SHT_STRTAB in
      let b = not (is_allocated (header_at o s)) in
      let c = not ((section_at o s).home.out) in
      let three = (and_parts ((a && b) && c) _ is).0 in
      let two = and_parts (a && b) c three in (
        eqb-true (header_at o s).stype SHT_STRTAB (and_parts a b two.0).0,
        not-true (section_at o s).home.out two.1,
      )

  -- so it is not refused
  pub names_pass : s < length o.sections → has_names_alone o removed s ≡ true
      → kept_refusal o removed s ≡ None
  unfolding kept_refusal
  names_pass there is =
      let parts = alone_parts is in
      let raw : raw_refusal o s ≡ None =
      raw_there o s there
      ∙ ap (λ (b : Bool). refused_if b (OutOfFile s)) parts.1 in
      ap (λ (r : Option ElfError). first_refusal (r
      ∷ (if items_follow o removed s then data_refusal o s 0 else None) ∷ [])) raw
      ∙ ap (λ (b : Bool). first_refusal (None ∷ (if b then data_refusal o s 0 else None) ∷ []))
      (strings_follow parts.0)

-- ---- Items of a home, and of the first piece

content_refused : (s : ℕ) (d : Option Items)
    → err_of {E = ElfError} (elim d [ None ↦ Err (Ragged s) | Some x ↦ Ok x ])
    ≡ refused_if (is_none d) (Ragged s)
content_refused s None = refl
content_refused s (Some x) = refl

module _ (o : Object) (s : ℕ) (is : IsObject o) (clean : is_dirty o ≡ false)
    (there : s < length o.sections) where
  clean_content : (section_at o s).home.out ≡ false
      → no_content o s 0
      ≡ decoded_refusal s (kind_at o s 0) o.header.class o.header.order (section_at o s).raw
  unfolding no_content content decoded_refusal
  clean_content inside =
      let d = decoded (section_at o s).home.kind o.header.class o.header.order (section_at o s).raw
      in
      ap (λ (own : Option Items).
      elim own [ None ↦ err_of (content o s) | Some items ↦ None ]) (clean_piece o s is clean there)
      ∙ ap (λ (b : Bool). err_of {A = Items} {E = ElfError} (if b then Err (OutOfFile s)
      else (elim d [ None ↦ Err (Ragged s) | Some x ↦ Ok x ]))) inside
      ∙ content_refused s d
      ∙ ap (λ (k : Kind). refused_if (is_none (decoded k o.header.class o.header.order
      (section_at o s).raw)) (Ragged s)) (sym (clean_kind o s is clean there))

  clean_data : (section_at o s).home.out ≡ false
      → data_refusal o s 0
      ≡ first_refusal (no_data o s 0
      ∷ decoded_refusal s (kind_at o s 0) o.header.class o.header.order (section_at o s).raw ∷ [])
  unfolding data_refusal
  clean_data inside =
      ap (λ (r : Option ElfError). first_refusal (r ∷ no_data o s 0 ∷ no_content o s 0 ∷ []))
      (no_section_there o s there)
      ∙ ap (λ (r : Option ElfError). first_refusal (no_data o s 0 ∷ r ∷ []))
      (clean_content inside)

  pub home_is_data : home_refusal o s ≡ first_refusal (raw_refusal o s ∷ data_refusal o s 0 ∷ [])
  unfolding home_refusal
  home_is_data = by (raw_refusal o s) refl
    where
      by : (r : Option ElfError) → raw_refusal o s ≡ r
          → first_refusal (r ∷ no_data o s 0
          ∷ decoded_refusal s (kind_at o s 0) o.header.class o.header.order (section_at o s).raw
          ∷ [])
          ≡ first_refusal (r ∷ data_refusal o s 0 ∷ [])
      by (Some e) at = refl
      by None at =
          let inside : (section_at o s).home.out ≡ false =
          not_refused (section_at o s).home.out (OutOfFile s) (sym (raw_there o s there) ∙ at) in
          sym (clean_data inside) ∙ sym (alone (data_refusal o s 0))

-- ---- By a keeper

raw_alone : (r : Option ElfError) → r ≡ first_refusal (r ∷ None ∷ [])
raw_alone None = refl
raw_alone (Some e) = refl

module _ (told : Bool) (o : Object) (k : Keeper) (keeps : KeepsFor told o k) (is : IsObject o)
    (clean : is_dirty o ≡ false) where
  abbrev gone : List ℕ
  gone = k.removed.now

  pub tables_told : (t : ℕ) → t < length o.sections
      → slice_index k.tables t ≡ number_or_0 (extended_table o k.removed.now t)
  tables_told t below =
      ap (λ (l : List ℕ). slice_index l t) keeps.tables_are ∙ tables_at o k.removed.now t below

  pub indexes_told : (s : ℕ) → s ≢ 0 → indexes_by k o s ≡ indexes_follow o k.removed.now s
  unfolding indexes_by indexes_follow
  indexes_told s some =
      let table = (header_at o s).link in
      three_tests (is_among (kept_from_1 o k.removed.now) table) (symbols_follow o table)
      (slice_index k.tables table == s) (is_the s (extended_table o k.removed.now table))
      (λ kept follows.
      ap (λ (n : ℕ). n == s) (tables_told table (kept_parts o k.removed.now table kept).1)
      ∙ the_number s (extended_table o k.removed.now table) some)

  pub follows_told : (s : ℕ) → s ≢ 0 → follows_by k o s ≡ items_follow o k.removed.now s
  unfolding follows_by
  follows_told s some =
      ap (λ (b : Bool). symbols_follow o s || members_follow o s || b) (indexes_told s some)

  kept_told : (s : ℕ) → s ≢ 0 → s < length o.sections
      → kept_refusal_by k o s ≡ kept_refusal o k.removed.now s
  unfolding kept_refusal_by kept_refusal
  kept_told s some there =
      ap (λ (b : Bool). if b then home_refusal o s else raw_refusal o s) (follows_told s some)
      ∙ by_test (items_follow o k.removed.now s)
    where
      by_test : (b : Bool)
          → (if b then home_refusal o s else raw_refusal o s)
          ≡ first_refusal (raw_refusal o s ∷ (if b then data_refusal o s 0 else None) ∷ [])
      by_test true = home_is_data o s is clean there
      by_test false = raw_alone (raw_refusal o s)

  names_told : (names : Names) → RenewsAs (renews_names o k.removed.now) names → (s : ℕ)
      → s ≢ 0 → s < length o.sections
      → refusal_or_none names (s == o.header.shstrndx) (kept_refusal_by k o s)
      ≡ kept_refusal o k.removed.now s
  unfolding renews_names
  names_told Stay renews s some there = kept_told s some there
  names_told TooLarge renews s some there = kept_told s some there
  names_told (Anew names) renews s some there = elim (cases_eq s o.header.shstrndx) [
    | inl same ↦
        ap (λ (b : Bool). if b then None else kept_refusal_by k o s)
        (eq-eqb s o.header.shstrndx same)
        ∙ sym (names_pass o k.removed.now s there
        (ap (has_names_alone o k.removed.now) same
        ∙ (and_parts (is_among (kept_from_1 o k.removed.now) o.header.shstrndx)
        (has_names_alone o k.removed.now o.header.shstrndx) renews).1))
    | inr other ↦
        ap (λ (b : Bool). if b then None else kept_refusal_by k o s)
        (ne_eqb s o.header.shstrndx other)
        ∙ kept_told s some there
  ]

  refusal_told : (s : ℕ) → is_among (kept_from_1 o k.removed.now) s ≡ true
      → refusal_by k o s ≡ kept_refusal o k.removed.now s
  unfolding refusal_by
  refusal_told s kept =
      let parts = kept_parts o k.removed.now s kept in
      names_told k.names keeps.renews s parts.0 parts.1

  -- ---- All of them

  pub refusals_told : map (refusal_by k o) (kept_from_1 o k.removed.now)
      ≡ map (kept_refusal o k.removed.now) (kept_from_1 o k.removed.now)
  refusals_told =
      map_members (refusal_by k o) (kept_refusal o k.removed.now) (kept_from_1 o k.removed.now)
      (λ s any. refusal_told s (sym (among_any o k.removed.now s) ∙ any))

  pub reads_told : (s : ℕ) → is_among (kept_from_1 o k.removed.now) s ≡ true
      → reads_by k o s ≡ kept_reads o k.removed.now s
  unfolding reads_by kept_reads
  reads_told s kept =
      let parts = kept_parts o k.removed.now s kept in
      ap (λ (n : ℕ). if symbols_follow o s then n ∷ s ∷ []
      else (if members_follow o s then s ∷ []
      else (if indexes_by k o s then s ∷ (header_at o s).link ∷ [] else s ∷ [])))
      (tables_told s parts.1)
      ∙ ap (λ (b : Bool). if symbols_follow o s
      then number_or_0 (extended_table o k.removed.now s) ∷ s ∷ []
      else (if members_follow o s then s ∷ []
      else (if b then s ∷ (header_at o s).link ∷ [] else s ∷ [])))
      (indexes_told s parts.0)

-- ---- The string index

abbrev by_count : Object → ℕ → ℕ → Option ElfError
by_count o index n = first_refusal
    (refused_if (not (index == 0) && nat_le n index) (NoSection index n)
    ∷ refused_if (not (ehdr_fits (stored_ehdr (record o.header { shnum = n })
    (record o.header { shstrndx = index })))) (Unfit part.Header 0)
    ∷ [])

index_by_count : (o : Object) (sections : List Section) (index : ℕ)
    → index_refusal o sections index ≡ by_count o index (length sections)
unfolding index_refusal update_ehdr_refusal
index_by_count o sections index = refl

pub index_alike : (o : Object) (a b : List Section) (index : ℕ) → length a ≡ length b
    → index_refusal o a index ≡ index_refusal o b index
index_alike o a b index same =
    index_by_count o a index
    ∙ ap (by_count o index) same
    ∙ sym (index_by_count o b index)

sections_long : (header : ℕ → Shdr) (made : ℕ → Items) (l : List ℕ)
    → length (sections_by header made l) ≡ length l
unfolding sections_by
sections_long header made l = length-map l (λ s. made_section (header s) (made s))

module _ (told : Bool) (o : Object) (k : Keeper) (keeps : KeepsFor told o k)
    (stays : is_among k.removed.now 0 ≡ false) where
  pub index_told : index_by k o ≡ rebuilt_index o k.removed.now
  unfolding rebuilt_index
  index_told = ap (λ (m : Renumbering). followed m o.header.shstrndx) keeps.numbering_is

  pub count_told : length (sections_of k o) ≡ length (rebuilt_sections o k.removed.now)
  unfolding filled_sections rebuilt_sections
  count_told =
      by_test (length o.sections == 0)
      ∙ sym (length-map (if length o.sections == 0 then []
      else 0 ∷ kept_from_1 o k.removed.now) (rebuilt_section o k.removed.now))
      ∙ ap (λ (l : List ℕ). length (map (rebuilt_section o k.removed.now) l))
      (sym (kept_with_0 o k.removed.now stays))
    where
      by_test : (b : Bool)
          → length (if b then [] else new_section
          ∷ sections_by (header_by k o) (items_by k o) (kept_from_1 o k.removed.now))
          ≡ length (if b then [] else 0 ∷ kept_from_1 o k.removed.now)
      by_test true = refl
      by_test false =
          ap suc (sections_long (header_by k o) (items_by k o) (kept_from_1 o k.removed.now))

  pub early_told : IsObject o → is_dirty o ≡ false
      → refusal_of k o ≡ early_refusal o k.removed.now
  unfolding filled_refusal early_refusal
  early_told is clean =
      let kept = kept_from_1 o k.removed.now in
      ap (λ (l : List (Option ElfError)). first_refusal (newphdr_refusal (length o.phdrs)
      ∷ first_refusal l ∷ index_refusal o (sections_of k o) (index_by k o) ∷ []))
      (refusals_told told o k keeps is clean)
      ∙ ap (λ (r : Option ElfError). first_refusal (newphdr_refusal (length o.phdrs)
      ∷ first_refusal (map (kept_refusal o k.removed.now) kept) ∷ r ∷ []))
      (index_alike o (sections_of k o) (rebuilt_sections o k.removed.now) (index_by k o) count_told
      ∙ ap (index_refusal o (rebuilt_sections o k.removed.now)) index_told)
