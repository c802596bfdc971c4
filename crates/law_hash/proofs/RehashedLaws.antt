-- What rehash makes of an object: the symbols in the order that GNU's hash section needs, and
-- sections that nothing else goes by.
use Rattle.std.proofs.Common.{◌≡◌, ◌≢◌, ◌<◌, ◌≤◌, ◌^◌, inl, inr, ◌==◌, ◌&&◌, ℕ, Bool, true, false, List, [], length, get_or, Option, Some, None, Result, Ok, Err, refl, sym, ap, ◌∙◌, subst, arith}
use Rattle.std.specs.Prelude.{nat_le, if◌then◌else◌}
use Rattle.std.proofs.lemmas.Bool.{and_parts, eqb-true, eqb-false, leb-false}
use Rattle.std.proofs.lemmas.List.Quantifiers.{position-Some}
use Rattle.elf_types.specs.Answers.{answered, ◌>>=◌}
use Rattle.elf_types.specs.Kinds.{section_kind}
use Rattle.elf_types.specs.declared.constants.TheConstants.{SHT_STRTAB, SHT_DYNSYM, SHT_REL, SHT_RELA, SHT_HASH, SHT_GNU_HASH}
use Rattle.elf_types.specs.declared.errors.ElfError.{ElfError}
use Rattle.elf_types.specs.declared.errors.ElfError.TheVariants.{NoSection, NoData, Reserved}
use Rattle.elf_types.specs.declared.records.Kind.TheVariants as kinds
use Rattle.elf_xlate.specs.declared.content.Items.{Items}
use Rattle.elf_xlate.specs.declared.content.Items.TheVariants as items
use Rattle.rebuild_model.specs.elf_object.Object.{Object, Section, section_at, absent_section, is_dirty, some_section_marked}
use Rattle.rebuild_model.specs.elf_object.Answers.{bytes_of, words_of, piece_count, same_kind, no_section, no_data, no_content, reserved, data_refusal, lend_refusal}
use Rattle.rebuild_model.specs.elf_object.Steps.{with_own, with_layout}
use Rattle.rebuild_model.specs.elf_object.Calls.{data_answer, replace, replace_refusal}
use Rattle.rebuild_model.proofs.elf_object.AnswerLaws.{answered_value, data_value}
use Rattle.rebuild_model.proofs.elf_object.PassedLaws.{none_first, none_rest, not_refused}
use Rattle.rebuild_model.proofs.elf_object.StepLaws.{dirty-with_own}
use Rattle.rebuild_model.specs.elf_object.Sections.{header_at, is_of, is_program, edited}
use Rattle.rebuild_model.specs.hash_model.HashSections.{sysv_words}
use Rattle.rebuild_model.specs.hash_model.Listed.{listed_names}
use Rattle.rebuild_model.specs.hash_model.BuiltHashes.{GnuShape, gnu_order_of, gnu_order_answer, build_gnu_answer, build_sysv_answer, hash_refusal, sysv_built}
use Rattle.rebuild_model.specs.hash_model.Reordered.{new_index, reordered, reorder_refusal}
use Rattle.rebuild_model.specs.Laws.{IsShape}
use Rattle.rebuild_model.specs.Rehashed.{dynamic_symbols, gnu_section, sysv_section, shape_of, nbucket_of, with_gnu, with_sysv, where_there, laid_out, or_fault, rehashed_at, rehashed}
use Rattle.rebuild_model.specs.Rehashed.RehashFault.{NoDynamicHash}
use Rattle.elf_ident.proofs.Refusals.{bind_ok}
use Rattle.law_hash.proofs.Shapes.{shape_usable, nbucket_fits}
use Rattle.law_hash.proofs.SameLaws.{SameStrings, strings_stay, strings_both}
use Rattle.law_hash.proofs.RenumberedLaws.{IsRenumbered, SameTables, tables_items, not_renumbered, still_renumbered}
use Rattle.law_hash.proofs.ReorderedLaws.{own_step, reordered_strings}
use Rattle.law_hash.proofs.TypeLaws.{apart_types}
use Rattle.law_hash.proofs.OrderedNames.{order_long, reordered_renumbers}
use Rattle.law_hash.proofs.CountLaws.{symbols_passed, few_names}
use Rattle.law_hash.proofs.ReorderedItems.{IsOwnOrSame, still_own_or_same, table_owns, rels_own, relas_own}

-- ---- Answers

pub no_fault : (r : Result Object ElfError) (p : Object) → or_fault r ≡ Ok p → r ≡ Ok p
no_fault (Ok o) p is = let same : o ≡ p = cc in ap Ok same
no_fault (Err e) p is = cc

-- ---- The sections that it finds

module _ (o : Object) (t : ℕ) where
  abbrev at : Section
  at = get_or o.sections t absent_section

  pub table_type : dynamic_symbols o ≡ Some t → (header_at o t).stype ≡ SHT_DYNSYM
  unfolding dynamic_symbols section_at
  table_type is =
      eqb-true at.header.stype SHT_DYNSYM
      (position-Some (λ (c : Section). c.header.stype == SHT_DYNSYM) o.sections t absent_section
      is).1

  pub gnu_type : (s : ℕ) → gnu_section o s ≡ Some t
      → ((header_at o t).stype ≡ SHT_GNU_HASH) × (t < length o.sections)
      × ((header_at o t).link ≡ s)
  unfolding gnu_section section_at
  gnu_type s is =
      let found = position-Some
      (λ (c : Section). c.header.stype == SHT_GNU_HASH && c.header.link == s) o.sections t
      absent_section is in
      let tests = and_parts _ _ found.1 in (
        eqb-true at.header.stype SHT_GNU_HASH tests.0,
        found.0,
        eqb-true at.header.link s tests.1,
      )

  pub sysv_type : (s : ℕ) → sysv_section o s ≡ Some t
      → ((header_at o t).stype ≡ SHT_HASH) × (t < length o.sections)
      × ((header_at o t).link ≡ s)
      × (same_kind (section_kind (header_at o t)) kinds.Word ≡ true)
  unfolding sysv_section section_at is_of
  sysv_type s is =
      let found = position-Some
      (λ (c : Section). is_of SHT_HASH kinds.Word c.header && c.header.link == s) o.sections t
      absent_section is in
      let tests = and_parts _ _ found.1 in
      let words = and_parts _ _ tests.0 in (
        eqb-true at.header.stype SHT_HASH words.0,
        found.0,
        eqb-true at.header.link s tests.1,
        words.1,
      )

-- ---- A section that is given other items

-- of a type by which nothing goes that lookups and relocations need
pub record IsAside (stype : ℕ) : Type 0 where
  pub no_strings : (stype == SHT_STRTAB) ≡ false
  pub no_table : (stype == SHT_DYNSYM) ≡ false
  pub no_rels : (stype == SHT_REL) ≡ false
  pub no_relas : (stype == SHT_RELA) ≡ false

module _ (o : Object) (s t stype : ℕ) (left : Items) (inside : t < length o.sections)
    (is : (header_at o t).stype ≡ stype) (aside : IsAside stype)
    (is_table : (header_at o s).stype ≡ SHT_DYNSYM) where
  apart : (n other : ℕ) → (stype == other) ≡ false → (header_at o n).stype ≡ other → n ≢ t
  apart n other differs type same =
      apart_types stype other differs (header_at o t).stype is
      (ap (λ (k : ℕ). (header_at o k).stype) (sym same) ∙ type)

  pub tables_stay : SameTables o (with_own o t 0 left) s
  tables_stay =
      let step = own_step o t left inside
      (λ type. apart_types stype SHT_STRTAB aside.no_strings (header_at o t).stype is type) in
      record {
        strings = step.strings;
        symbols = step.others s (apart s SHT_DYNSYM aside.no_table is_table);
        rels = λ n type. step.others n (apart n SHT_REL aside.no_rels type);
        relas = λ n type. step.others n (apart n SHT_RELA aside.no_relas type);
      }

-- ---- ELF_F_LAYOUT

layout_stays : (o : Object) (s : ℕ) (b : Bool) → SameTables o (with_layout o b) s
unfolding section_at
layout_stays o s b = record {
  strings = record {
    header = refl;
    phdrs = refl;
    count = refl;
    stype = λ t. refl;
    link = λ t. refl;
    strings = λ t is. refl;
  };
  symbols = refl;
  rels = λ n is. refl;
  relas = λ n is. refl;
}

all_stays : (o : Object) (s : ℕ) → SameTables o o s
all_stays o s = record {
  strings = strings_stay o;
  symbols = refl;
  rels = λ n is. refl;
  relas = λ n is. refl;
}

pub laid_out_stays : (o : Object) (s : ℕ) → SameTables o (laid_out o) s
laid_out_stays o s = by (is_program o)
  where
    by : (b : Bool) → SameTables o (if b then with_layout o true else o) s
    by true = layout_stays o s true
    by false = all_stays o s

-- ---- An object in the course of rehash

-- its symbols are renumbered, and its sections have kept their types and links
pub record IsOnTheWay (before o : Object) (s : ℕ) : Type 0 where
  pub new : ℕ → ℕ
  pub renumbered : IsRenumbered before o s new
  pub strings : SameStrings before o
  pub table : IsOwnOrSame before o s
  pub rels : (n : ℕ) → (header_at before n).stype ≡ SHT_REL → (header_at before n).link ≡ s
      → IsOwnOrSame before o n
  pub relas : (n : ℕ) → (header_at before n).stype ≡ SHT_RELA → (header_at before n).link ≡ s
      → IsOwnOrSame before o n

begun : (o : Object) (s : ℕ) → IsOnTheWay o o s
begun o s = record {
  new = λ i. i;
  renumbered = not_renumbered o s;
  strings = strings_stay o;
  table = inl refl;
  rels = λ n is link. inl refl;
  relas = λ n is link. inl refl;
}

goes_on : (before o p : Object) (s : ℕ) → IsOnTheWay before o s → SameTables o p s
    → IsOnTheWay before p s
goes_on before o p s way same = record {
  new = way.new;
  renumbered = still_renumbered before o p s way.new way.renumbered way.strings.stype
      way.strings.link (tables_items o p s same);
  strings = strings_both before o p way.strings same.strings;
  table = still_own_or_same before o p s same.symbols way.table;
  rels = λ n is link. still_own_or_same before o p n (same.rels n (way.strings.stype n ∙ is))
      (way.rels n is link);
  relas = λ n is link. still_own_or_same before o p n (same.relas n (way.strings.stype n ∙ is))
      (way.relas n is link);
}

-- an edit that stored items leaves a mark
replaced : (o p : Object) (t : ℕ) (left : Items) → edited (replace t 0 left) o ≡ Ok p
    → (p ≡ with_own o t 0 left) × (is_dirty p ≡ true) × (0 < t)
unfolding replace_refusal
replaced o p t left is =
    let done = bind_ok ((replace t 0 left).answer o) (λ x. Ok (with_own o t 0 left)) p is in
    let same : with_own o t 0 left ≡ p = let e = done.2 in cc in
    let passed = (answered_value (replace_refusal o t 0 left) (tt {0}) done.0 done.1).0 in
    let others = none_rest (no_section o t) _ passed in
    let inside : t < length o.sections =
    leb-false (length o.sections) t
    (not_refused (nat_le (length o.sections) t) (NoSection t (length o.sections))
    (none_first (no_section o t) _ passed)) in
    let piece : 0 < piece_count o t =
    leb-false (piece_count o t) 0
    (not_refused (nat_le (piece_count o t) 0) (NoData 0 (piece_count o t))
    (none_first (no_data o t 0) _ (none_rest (reserved t) _ others))) in
    let not_first : t ≡ 0 → ⊥ =
    eqb-false t 0 (not_refused (t == 0) Reserved (none_first (reserved t) _ others)) in (
      sym same,
      ap is_dirty (sym same) ∙ dirty-with_own o t 0 left inside piece,
      omega (arith, not_first),
    )

-- what could be told of a section has a content
content_told : (o : Object) (t : ℕ) (x : Items) → data_answer o t 0 ≡ Ok x
    → no_content o t 0 ≡ None
unfolding data_refusal
content_told o t x is =
    let passed = (data_value o t 0 x is).0 in
    none_first (no_content o t 0) []
    (none_rest (no_data o t 0) _ (none_rest (no_section o t) _ passed))

-- ---- GNU's section

-- the order, and the bytes for the symbols in it
pub record GnuMade (o p : Object) (s g : ℕ) : Type 0 where
  pub shape : GnuShape
  pub usable : IsShape shape
  pub later : 0 < g
  pub content : no_content o g 0 ≡ None
  pub hashed : hash_refusal o s ≡ None
  pub passed : reorder_refusal o s ≡ None
  pub dirty : is_dirty p ≡ true
  pub bytes : List ℕ
  pub built :
      build_gnu_answer (reordered o s (gnu_order_of shape.nbuckets (listed_names o s))) s shape
      ≡ Ok bytes
  pub made : p ≡ with_own (reordered o s (gnu_order_of shape.nbuckets (listed_names o s))) g 0
      (items.Bytes bytes)

pub gnu_made_of : (o p : Object) (s g : ℕ) → with_gnu o s g ≡ Ok p → GnuMade o p s g
unfolding with_gnu gnu_order_answer
gnu_made_of o p s g is =
    let old = bind_ok (data_answer o g 0) _ p is in
    let shape : GnuShape = shape_of o.header.class o.header.order (bytes_of old.0) in
    let order = bind_ok (answered (hash_refusal o s)
    (gnu_order_of shape.nbuckets (listed_names o s))) _ p old.2 in
    let order_is = answered_value (hash_refusal o s)
    (gnu_order_of shape.nbuckets (listed_names o s)) order.0 order.1 in
    let sorted = bind_ok (answered (reorder_refusal o s) (reordered o s order.0)) _ p order.2 in
    let sorted_is = answered_value (reorder_refusal o s) (reordered o s order.0) sorted.0
    sorted.1 in
    let bytes = bind_ok (build_gnu_answer sorted.0 s shape) _ p sorted.2 in
    let stored = replaced sorted.0 p g (items.Bytes bytes.0) bytes.2 in
    let order_sorted : sorted.0
    ≡ reordered o s (gnu_order_of shape.nbuckets (listed_names o s)) =
    sorted_is.1 ∙ ap (λ (l : List ℕ). reordered o s l) order_is.1 in
    record {
      shape = shape;
      usable = shape_usable o.header.class o.header.order (bytes_of old.0);
      later = stored.2;
      content = content_told o g old.0 old.1;
      hashed = order_is.0;
      passed = sorted_is.0;
      bytes = bytes.0;
      dirty = stored.1;
      built = ap (λ (q : Object). build_gnu_answer q s shape) (sym order_sorted) ∙ bytes.1;
      made = stored.0
          ∙ ap (λ (q : Object). with_own q g 0 (items.Bytes bytes.0)) order_sorted;
    }

pub gnu_aside : IsAside SHT_GNU_HASH
gnu_aside = record { no_strings = refl; no_table = refl; no_rels = refl; no_relas = refl }

pub sysv_aside : IsAside SHT_HASH
sysv_aside = record { no_strings = refl; no_table = refl; no_rels = refl; no_relas = refl }

gnu_goes_on : (o p : Object) (s g : ℕ) → (header_at o s).stype ≡ SHT_DYNSYM
    → gnu_section o s ≡ Some g → with_gnu o s g ≡ Ok p → IsOnTheWay o p s
gnu_goes_on o p s g is_table found is =
    let made = gnu_made_of o p s g is in
    let order : List ℕ = gnu_order_of made.shape.nbuckets (listed_names o s) in
    let strings = reordered_strings o s order is_table made.passed in
    let few : length order ≤ 2 ^ 32 =
    omega (arith, order_long o s made.shape.nbuckets is_table made.passed, few_names o s made.hashed) in
    let type = gnu_type o g s found in
    let way : IsOnTheWay o (reordered o s (gnu_order_of made.shape.nbuckets (listed_names o s))) s =
    record {
      new = new_index order;
      renumbered = reordered_renumbers o s made.shape.nbuckets is_table made.passed;
      strings = strings;
      table = inr (table_owns order few o s is_table made.passed);
      rels = λ n type link. inr (rels_own order few o s is_table made.passed n type link);
      relas = λ n type link. inr (relas_own order few o s is_table made.passed n type link);
    } in
    subst (λ (q : Object). IsOnTheWay o q s) (sym made.made)
    (goes_on o (reordered o s order) (with_own (reordered o s order) g 0 (items.Bytes made.bytes))
    s way
    (tables_stay (reordered o s order) s g SHT_GNU_HASH (items.Bytes made.bytes)
    (omega (arith, type.1, strings.count)) (strings.stype g ∙ type.0) gnu_aside
    (strings.stype s ∙ is_table)))

-- ---- The section of words

-- the words for the symbols as they stand
pub record SysvMade (o p : Object) (s h : ℕ) : Type 0 where
  pub nbucket : ℕ
  pub some : 0 < nbucket
  pub few : nbucket < 2 ^ 32
  pub later : 0 < h
  pub content : no_content o h 0 ≡ None
  pub hashed : hash_refusal o s ≡ None
  pub dirty : is_dirty p ≡ true
  pub words : List ℕ
  pub built : build_sysv_answer o s nbucket ≡ Ok words
  pub made : p ≡ with_own o h 0 (items.Word words)

pub sysv_made_of : (o p : Object) (s h : ℕ) → with_sysv o s h ≡ Ok p → SysvMade o p s h
unfolding with_sysv build_sysv_answer
sysv_made_of o p s h is =
    let old = bind_ok (data_answer o h 0) _ p is in
    let nbucket : ℕ = nbucket_of (words_of old.0) in
    let words = bind_ok
    (answered (hash_refusal o s) (sysv_words (sysv_built nbucket (listed_names o s)))) _ p old.2 in
    let stored = replaced o p h (items.Word words.0) words.2 in
    let fits = nbucket_fits (words_of old.0) in
    record {
      nbucket = nbucket;
      some = fits.0;
      few = fits.1;
      later = stored.2;
      content = content_told o h old.0 old.1;
      hashed = (answered_value (hash_refusal o s)
          (sysv_words (sysv_built nbucket (listed_names o s))) words.0 words.1).0;
      dirty = stored.1;
      words = words.0;
      built = words.1;
      made = stored.0;
    }

sysv_goes_on : (before o p : Object) (s h : ℕ) → (header_at before s).stype ≡ SHT_DYNSYM
    → sysv_section before s ≡ Some h → IsOnTheWay before o s → with_sysv o s h ≡ Ok p
    → IsOnTheWay before p s
sysv_goes_on before o p s h is_table found way is =
    let made = sysv_made_of o p s h is in
    let type = sysv_type before h s found in
    subst (λ (q : Object). IsOnTheWay before q s) (sym made.made)
    (goes_on before o (with_own o h 0 (items.Word made.words)) s way
    (tables_stay o s h SHT_HASH (items.Word made.words) (omega (arith, type.1, way.strings.count))
    (way.strings.stype h ∙ type.0) sysv_aside (way.strings.stype s ∙ is_table)))

-- ---- Both

-- what is made is dirty, of a table whose symbols could be told
pub record IsDirtyRehash (before after : Object) (s : ℕ) : Type 0 where
  pub way : IsOnTheWay before after s
  pub lent : lend_refusal before kinds.Sym s 0 ≡ None
  pub dirty : is_dirty after ≡ true

gnu_done : (o p : Object) (s g : ℕ) → (header_at o s).stype ≡ SHT_DYNSYM
    → gnu_section o s ≡ Some g → with_gnu o s g ≡ Ok p → IsDirtyRehash o p s
gnu_done o p s g is_table found is =
    let made = gnu_made_of o p s g is in
    record {
      way = gnu_goes_on o p s g is_table found is;
      lent = symbols_passed o s made.hashed;
      dirty = made.dirty;
    }

sysv_done : (before o p : Object) (s h : ℕ) → (header_at before s).stype ≡ SHT_DYNSYM
    → sysv_section before s ≡ Some h → IsOnTheWay before o s → with_sysv o s h ≡ Ok p
    → IsDirtyRehash before p s
sysv_done before o p s h is_table found way is =
    let made = sysv_made_of o p s h is in
    record {
      way = sysv_goes_on before o p s h is_table found way is;
      lent = sym way.renumbered.lent ∙ symbols_passed o s made.hashed;
      dirty = made.dirty;
    }

dirty_laid_out : (o : Object) → is_dirty (laid_out o) ≡ is_dirty o
unfolding is_dirty some_section_marked
dirty_laid_out o = by (is_program o)
  where
    by : (b : Bool) → is_dirty (if b then with_layout o true else o) ≡ is_dirty o
    by true = refl
    by false = refl

laid_done : (before o : Object) (s : ℕ) → IsDirtyRehash before o s → IsDirtyRehash before (laid_out o) s
laid_done before o s is = record {
  way = goes_on before o (laid_out o) s is.way (laid_out_stays o s);
  lent = is.lent;
  dirty = dirty_laid_out o ∙ is.dirty;
}

module _ (o p : Object) (s : ℕ) (is_table : (header_at o s).stype ≡ SHT_DYNSYM) where
  -- the second step of those that there are
  abbrev Steps : Option ℕ → Option ℕ → Type 0
  Steps g h = (where_there (λ p n. with_gnu p s n) g o >>= λ p.
      where_there (λ q n. with_sysv q s n) h p >>= λ q. Ok (laid_out q)) ≡ Ok p

  ended : (q : Object) → IsDirtyRehash o q s → laid_out q ≡ p → IsDirtyRehash o p s
  ended q is laid = subst (λ (r : Object). IsDirtyRehash o r s) laid (laid_done o q s is)

  same_ok : (q r : Object) → ◌≡◌ {A = Result Object ElfError} (Ok q) (Ok r) → q ≡ r
  same_ok q r is = cc

  by_gnu : (g : Option ℕ) → gnu_section o s ≡ g → (q : Object)
      → where_there (λ p n. with_gnu p s n) g o ≡ Ok q → IsOnTheWay o q s
  by_gnu None is_gnu q made =
      subst (λ (r : Object). IsOnTheWay o r s) (same_ok o q made) (begun o s)
  by_gnu (Some n) is_gnu q made = gnu_goes_on o q s n is_table is_gnu made

  with_words : (g : Option ℕ) (h : ℕ) → gnu_section o s ≡ g → sysv_section o s ≡ Some h
      → Steps g (Some h) → IsDirtyRehash o p s
  with_words g h is_gnu is_sysv is =
      let first = bind_ok (where_there (λ p n. with_gnu p s n) g o) _ p is in
      let second = bind_ok (with_sysv first.0 s h) _ p first.2 in
      ended second.0
      (sysv_done o first.0 second.0 s h is_table is_sysv (by_gnu g is_gnu first.0 first.1)
      second.1) (same_ok (laid_out second.0) p second.2)

  without_words : (g : ℕ) → gnu_section o s ≡ Some g → Steps (Some g) None → IsDirtyRehash o p s
  without_words g is_gnu is =
      let first = bind_ok (with_gnu o s g) _ p is in
      ended first.0 (gnu_done o first.0 s g is_table is_gnu first.1)
      (same_ok (laid_out first.0) p first.2)

  at_both : (g h : Option ℕ) → gnu_section o s ≡ g → sysv_section o s ≡ h
      → rehashed_at o s g h ≡ Ok p → IsDirtyRehash o p s
  unfolding rehashed_at
  at_both None None is_gnu is_sysv is = cc
  at_both None (Some h) is_gnu is_sysv is = with_words None h is_gnu is_sysv (no_fault _ p is)
  at_both (Some g) None is_gnu is_sysv is = without_words g is_gnu (no_fault _ p is)
  at_both (Some g) (Some h) is_gnu is_sysv is =
      with_words (Some g) h is_gnu is_sysv (no_fault _ p is)

-- it comes to an end where there is a table of dynamic symbols
pub rehash_ends : (o p : Object) (s : ℕ) → dynamic_symbols o ≡ Some s → rehashed o ≡ Ok p
    → IsDirtyRehash o p s
unfolding rehashed
rehash_ends o p s table is =
    at_both o p s (table_type o s table) (gnu_section o s) (sysv_section o s) refl refl
    (sym (ap (λ (found : Option ℕ). elim found [
      | None ↦ Err NoDynamicHash
      | Some n ↦ rehashed_at o n (gnu_section o n) (sysv_section o n)
    ]) table) ∙ is)
