-- The hash sections that rehash gives an object hold what is built for the symbols that it ends
-- with.
use Rattle.std.proofs.Common.{◌≡◌, ◌<◌, ◌^◌, ℕ, Bool, true, false, List, [], ◌∷◌, length, get_or, Option, Some, None, Result, Ok, Err, refl, sym, ap, ◌∙◌, subst, arith}
use Rattle.std.specs.Prelude.{IfSome, nat_le, if◌then◌else◌}
use Rattle.std.specs.Option.{option_map}
use Rattle.elf_types.specs.Answers.{refused_if, first_refusal, answered, err_of, ◌>>=◌}
use Rattle.elf_types.specs.declared.constants.TheConstants.{SHT_STRTAB, SHT_DYNSYM, SHT_HASH, SHT_GNU_HASH}
use Rattle.elf_types.specs.declared.errors.ElfError.{ElfError}
use Rattle.elf_types.specs.declared.errors.ElfError.TheVariants.{TooMany, Unsorted}
use Rattle.elf_types.specs.declared.records.Class.{Class}
use Rattle.elf_types.specs.declared.records.Ehdr.{Ehdr}
use Rattle.elf_types.specs.declared.records.Order.{Order}
use Rattle.elf_types.specs.declared.records.Kind.TheVariants as kinds
use Rattle.elf_xlate.specs.declared.content.Items.{Items}
use Rattle.elf_xlate.specs.declared.content.Items.TheVariants as items
use Rattle.elf_xlate.specs.Translation.{items_count}
use Rattle.rebuild_model.specs.elf_object.Object.{Object, Section, section_at, piece_at, home_piece}
use Rattle.rebuild_model.specs.elf_object.Answers.{content, items_at, count_at, no_content, lend_refusal}
use Rattle.rebuild_model.specs.elf_object.Steps.{with_own, with_layout}
use Rattle.rebuild_model.specs.elf_object.Sections.{header_at, is_program}
use Rattle.elf_ident.proofs.Refusals.{bind_ok}
use Rattle.rebuild_model.specs.hash_model.Hashes.{gnu_hash}
use Rattle.rebuild_model.specs.hash_model.HashSections.{sysv_words, gnu_bytes}
use Rattle.rebuild_model.specs.hash_model.Listed.{listed_names}
use Rattle.rebuild_model.specs.hash_model.BuiltHashes.{GnuShape, buckets_of, sysv_built, gnu_built, first_unsorted, gnu_order_of, hash_refusal, unsorted, build_sysv_answer, build_gnu_answer}
use Rattle.rebuild_model.specs.hash_model.Reordered.{reordered}
use Rattle.rebuild_model.specs.Laws.{IsShape}
use Rattle.rebuild_model.specs.Rehashed.{dynamic_symbols, gnu_section, sysv_section, with_gnu, with_sysv, where_there, laid_out, rehashed_at, rehashed}
use Rattle.rebuild_model.specs.Rehashed.RehashFault.{NoDynamicHash}
use Rattle.law_hash.proofs.TypeLaws.{apart_types}
use Rattle.law_hash.proofs.SameLaws.{SameStrings, content_by, strings_stay, strings_both}
use Rattle.law_hash.proofs.RenumberedLaws.{SameTables, tables_items}
use Rattle.law_hash.proofs.ReorderedLaws.{owned, owned_is, own_step, reordered_strings, unmoved}
use Rattle.law_hash.proofs.RehashedLaws.{no_fault, table_type, gnu_type, sysv_type, tables_stay, laid_out_stays, gnu_aside, sysv_aside, gnu_made_of, sysv_made_of}

-- ---- What is built goes by the table

-- a table of symbols with the same names in both objects
pub record SameTable (o p : Object) (s : ℕ) : Type 0 where
  pub class : p.header.class ≡ o.header.class
  pub order : p.header.order ≡ o.header.order
  pub lent : lend_refusal p kinds.Sym s 0 ≡ lend_refusal o kinds.Sym s 0
  pub items : items_at p s 0 ≡ items_at o s 0
  pub names : listed_names p s ≡ listed_names o s

same_table : (o p : Object) (s : ℕ) → SameTables o p s → SameTable o p s
same_table o p s same =
    let kept = tables_items o p s same in
    record {
      class = ap (λ (h : Ehdr). h.class) same.strings.header;
      order = ap (λ (h : Ehdr). h.order) same.strings.header;
      lent = kept.lent;
      items = kept.items;
      names = kept.names;
    }

module _ (o p : Object) (s : ℕ) (same : SameTable o p s) where
  hash_same : hash_refusal p s ≡ hash_refusal o s
  unfolding hash_refusal count_at
  hash_same =
      ap (λ (r : Option ElfError). first_refusal
      (r ∷ refused_if (nat_le (2 ^ 32) (items_count (items_at p s 0))) TooMany ∷ [])) same.lent
      ∙ ap (λ (l : Items). first_refusal
      (lend_refusal o kinds.Sym s 0 ∷ refused_if (nat_le (2 ^ 32) (items_count l)) TooMany ∷ []))
      same.items

  unsorted_same : (nbuckets : ℕ) → unsorted p s nbuckets ≡ unsorted o s nbuckets
  unfolding unsorted
  unsorted_same nbuckets =
      ap (λ (l : List (Option (List ℕ))).
      option_map Unsorted (first_unsorted (buckets_of gnu_hash nbuckets l))) same.names

  pub sysv_same : (nbucket : ℕ) → build_sysv_answer p s nbucket ≡ build_sysv_answer o s nbucket
  unfolding build_sysv_answer
  sysv_same nbucket =
      ap (λ (r : Option ElfError).
      answered r (sysv_words (sysv_built nbucket (listed_names p s)))) hash_same
      ∙ ap (λ (l : List (Option (List ℕ))).
      answered (hash_refusal o s) (sysv_words (sysv_built nbucket l))) same.names

  pub gnu_same : (shape : GnuShape) → build_gnu_answer p s shape ≡ build_gnu_answer o s shape
  unfolding build_gnu_answer
  gnu_same shape =
      let made : Option ElfError → Option ElfError → Class → Order → List (Option (List ℕ))
      → Result (List ℕ) ElfError = λ hash order_refusal class order names.
      answered (first_refusal (hash ∷ order_refusal ∷ []))
      (gnu_bytes class order (gnu_built class shape names)) in
      let n = shape.nbuckets in
      ap (λ (r : Option ElfError). made r (unsorted p s n) p.header.class p.header.order
      (listed_names p s)) hash_same
      ∙ ap (λ (r : Option ElfError). made (hash_refusal o s) r p.header.class p.header.order
      (listed_names p s)) (unsorted_same n)
      ∙ ap (λ (c : Class). made (hash_refusal o s) (unsorted o s n) c p.header.order
      (listed_names p s)) same.class
      ∙ ap (λ (r : Order). made (hash_refusal o s) (unsorted o s n) o.header.class r
      (listed_names p s)) same.order
      ∙ ap (made (hash_refusal o s) (unsorted o s n) o.header.class o.header.order) same.names

-- ---- The sections

-- GNU's hash section has bytes of its own in place of those that it had
pub record RebuiltGnu (before o : Object) (s g : ℕ) : Type 0 where
  pub shape : GnuShape
  pub usable : IsShape shape
  pub later : 0 < g
  pub content : no_content before g 0 ≡ None
  pub bytes : List ℕ
  pub section : section_at o g ≡ owned (section_at before g) (items.Bytes bytes)
  pub built : build_gnu_answer o s shape ≡ Ok bytes

-- and the one of words has words
pub record RebuiltSysv (before o : Object) (s h : ℕ) : Type 0 where
  pub nbucket : ℕ
  pub some : 0 < nbucket
  pub few : nbucket < 2 ^ 32
  pub later : 0 < h
  pub content : no_content before h 0 ≡ None
  pub words : List ℕ
  pub section : section_at o h ≡ owned (section_at before h) (items.Word words)
  pub built : build_sysv_answer o s nbucket ≡ Ok words

gnu_stays : (before o p : Object) (s g : ℕ) → SameTables o p s
    → section_at p g ≡ section_at o g → RebuiltGnu before o s g → RebuiltGnu before p s g
gnu_stays before o p s g same here is = record {
  shape = is.shape;
  usable = is.usable;
  later = is.later;
  content = is.content;
  bytes = is.bytes;
  section = here ∙ is.section;
  built = gnu_same o p s (same_table o p s same) is.shape ∙ is.built;
}

sysv_stays : (before o p : Object) (s h : ℕ) → SameTables o p s
    → section_at p h ≡ section_at o h → RebuiltSysv before o s h → RebuiltSysv before p s h
sysv_stays before o p s h same here is = record {
  nbucket = is.nbucket;
  some = is.some;
  few = is.few;
  later = is.later;
  content = is.content;
  words = is.words;
  section = here ∙ is.section;
  built = sysv_same o p s (same_table o p s same) is.nbucket ∙ is.built;
}

-- ---- GNU's section

-- it is built, and those of words stay
record GnuStep (o p : Object) (s g : ℕ) : Type 0 where
  rebuilt : RebuiltGnu o p s g
  strings : SameStrings o p
  others : (h : ℕ) → (header_at o h).stype ≡ SHT_HASH → section_at p h ≡ section_at o h

gnu_step : (o p : Object) (s g : ℕ) → (header_at o s).stype ≡ SHT_DYNSYM
    → gnu_section o s ≡ Some g → with_gnu o s g ≡ Ok p → GnuStep o p s g
gnu_step o p s g is_table found is =
    let made = gnu_made_of o p s g is in
    let order : List ℕ = gnu_order_of made.shape.nbuckets (listed_names o s) in
    let sorted : Object = reordered o s order in
    let left : Items = items.Bytes made.bytes in
    let type = gnu_type o g s found in
    let strings = reordered_strings o s order is_table made.passed in
    let inside : g < length (reordered o s order).sections =
    omega (arith, type.1, strings.count) in
    let is_gnu : (header_at (reordered o s order) g).stype ≡ SHT_GNU_HASH =
    strings.stype g ∙ type.0 in
    let step = own_step sorted g left inside
    (λ named. apart_types SHT_GNU_HASH SHT_STRTAB refl (header_at sorted g).stype is_gnu named) in
    let stays = tables_stay sorted s g SHT_GNU_HASH left inside is_gnu gnu_aside
    (strings.stype s ∙ is_table) in
    subst (λ (q : Object). GnuStep o q s g) (sym made.made) (record {
      rebuilt = record {
        shape = made.shape;
        usable = made.usable;
        later = made.later;
        content = made.content;
        bytes = made.bytes;
        section = owned_is sorted g left inside
            ∙ ap (λ (c : Section). owned c left)
            (unmoved o s order is_table made.passed g SHT_GNU_HASH type.0 refl refl refl refl);
        built = gnu_same sorted (with_own sorted g 0 left) s
            (same_table sorted (with_own sorted g 0 left) s stays) made.shape
            ∙ made.built;
      };
      strings = strings_both o sorted (with_own sorted g 0 left) strings stays.strings;
      others = λ h word.
          step.others h (λ same. apart_types SHT_HASH SHT_GNU_HASH refl (header_at o h).stype word
          (ap (λ (k : ℕ). (header_at o k).stype) same ∙ type.0))
          ∙ unmoved o s order is_table made.passed h SHT_HASH word refl refl refl refl;
    })

-- ---- The section of words

content_same : (o p : Object) (t : ℕ) → p.header ≡ o.header → section_at p t ≡ section_at o t
    → no_content p t 0 ≡ no_content o t 0
unfolding no_content content piece_at
content_same o p t header section =
    let by : Ehdr → Section → Option ElfError = λ h c.
    elim ((get_or c.pieces 0 home_piece).own) [
      | None ↦ err_of (content_by t c.home.out c.home.kind h.class h.order c.raw)
      | Some items ↦ None
    ] in
    ap (λ (h : Ehdr). by h (section_at p t)) header ∙ ap (by o.header) section

-- it is built, the table stays, and so does GNU's section
record SysvStep (before o p : Object) (s h : ℕ) : Type 0 where
  rebuilt : RebuiltSysv before p s h
  same : SameTables o p s
  others : (g : ℕ) → (header_at o g).stype ≡ SHT_GNU_HASH → section_at p g ≡ section_at o g

sysv_step : (before o p : Object) (s h : ℕ) → (header_at before s).stype ≡ SHT_DYNSYM
    → sysv_section before s ≡ Some h → SameStrings before o
    → section_at o h ≡ section_at before h → with_sysv o s h ≡ Ok p → SysvStep before o p s h
sysv_step before o p s h is_table found strings here is =
    let made = sysv_made_of o p s h is in
    let left : Items = items.Word made.words in
    let type = sysv_type before h s found in
    let inside : h < length o.sections = omega (arith, type.1, strings.count) in
    let is_words : (header_at o h).stype ≡ SHT_HASH = strings.stype h ∙ type.0 in
    let step = own_step o h left inside
    (λ named. apart_types SHT_HASH SHT_STRTAB refl (header_at o h).stype is_words named) in
    let stays = tables_stay o s h SHT_HASH left inside is_words sysv_aside
    (strings.stype s ∙ is_table) in
    subst (λ (q : Object). SysvStep before o q s h) (sym made.made) (record {
      rebuilt = record {
        nbucket = made.nbucket;
        some = made.some;
        few = made.few;
        later = made.later;
        content = sym (content_same before o h strings.header here) ∙ made.content;
        words = made.words;
        section = owned_is o h left inside ∙ ap (λ (c : Section). owned c left) here;
        built = sysv_same o (with_own o h 0 left) s
            (same_table o (with_own o h 0 left) s stays) made.nbucket
            ∙ made.built;
      };
      same = stays;
      others = λ g gnu.
          step.others g (λ same. apart_types SHT_HASH SHT_GNU_HASH refl (header_at o h).stype
          is_words (ap (λ (k : ℕ). (header_at o k).stype) (sym same) ∙ gnu));
    })

-- ---- ELF_F_LAYOUT

laid_section : (o : Object) (t : ℕ) → section_at (laid_out o) t ≡ section_at o t
unfolding section_at
laid_section o t = by (is_program o)
  where
    by : (b : Bool) → section_at (if b then with_layout o true else o) t ≡ section_at o t
    by true = refl
    by false = refl

-- ---- Both

-- the sections that are there
abbrev AreRebuilt : Object → Object → ℕ → Option ℕ → Option ℕ → Type 0
AreRebuilt before o s g h =
    (IfSome g (λ n. RebuiltGnu before o s n)) × (IfSome h (λ n. RebuiltSysv before o s n))

module _ (o p : Object) (s : ℕ) (is_table : (header_at o s).stype ≡ SHT_DYNSYM) where
  laid : (q : Object) (g h : Option ℕ) → AreRebuilt o q s g h → laid_out q ≡ p
      → AreRebuilt o p s g h
  laid q g h are is =
      subst (λ (r : Object). AreRebuilt o r s g h) is (by_gnu g are.0, by_sysv h are.1)
    where
      by_gnu : (g : Option ℕ) → IfSome g (λ n. RebuiltGnu o q s n)
          → IfSome g (λ n. RebuiltGnu o (laid_out q) s n)
      by_gnu None are = are
      by_gnu (Some n) are =
          gnu_stays o q (laid_out q) s n (laid_out_stays q s) (laid_section q n) are

      by_sysv : (h : Option ℕ) → IfSome h (λ n. RebuiltSysv o q s n)
          → IfSome h (λ n. RebuiltSysv o (laid_out q) s n)
      by_sysv None are = are
      by_sysv (Some n) are =
          sysv_stays o q (laid_out q) s n (laid_out_stays q s) (laid_section q n) are

  same_ok : (q r : Object) → ◌≡◌ {A = Result Object ElfError} (Ok q) (Ok r) → q ≡ r
  same_ok q r is = cc

  -- the steps of those that there are
  abbrev Steps : Option ℕ → Option ℕ → Type 0
  Steps g h = (where_there (λ p n. with_gnu p s n) g o >>= λ p.
      where_there (λ q n. with_sysv q s n) h p >>= λ q. Ok (laid_out q)) ≡ Ok p

  words_alone : (h : ℕ) → sysv_section o s ≡ Some h → Steps None (Some h)
      → AreRebuilt o p s None (Some h)
  words_alone h is_sysv is =
      let made = bind_ok (with_sysv o s h) _ p is in
      let step = sysv_step o o made.0 s h is_table is_sysv (strings_stay o) refl made.1 in
      laid made.0 None (Some h) (tt, step.rebuilt) (same_ok (laid_out made.0) p made.2)

  gnu_alone : (g : ℕ) → gnu_section o s ≡ Some g → Steps (Some g) None
      → AreRebuilt o p s (Some g) None
  gnu_alone g is_gnu is =
      let made = bind_ok (with_gnu o s g) _ p is in
      let step = gnu_step o made.0 s g is_table is_gnu made.1 in
      laid made.0 (Some g) None (step.rebuilt, tt) (same_ok (laid_out made.0) p made.2)

  both_made : (g h : ℕ) → gnu_section o s ≡ Some g → sysv_section o s ≡ Some h
      → Steps (Some g) (Some h) → AreRebuilt o p s (Some g) (Some h)
  both_made g h is_gnu is_sysv is =
      let first = bind_ok (with_gnu o s g) _ p is in
      let one = gnu_step o first.0 s g is_table is_gnu first.1 in
      let second = bind_ok (with_sysv first.0 s h) _ p first.2 in
      let here = one.others h (sysv_type o h s is_sysv).0 in
      let other = sysv_step o first.0 second.0 s h is_table is_sysv one.strings here second.1 in
      let is_there = other.others g (one.strings.stype g ∙ (gnu_type o g s is_gnu).0) in
      laid second.0 (Some g) (Some h) (
        gnu_stays o first.0 second.0 s g other.same is_there one.rebuilt,
        other.rebuilt,
      ) (same_ok (laid_out second.0) p second.2)

  at_both : (g h : Option ℕ) → gnu_section o s ≡ g → sysv_section o s ≡ h
      → rehashed_at o s g h ≡ Ok p → AreRebuilt o p s g h
  unfolding rehashed_at
  at_both None None is_gnu is_sysv is = cc
  at_both None (Some h) is_gnu is_sysv is = words_alone h is_sysv (no_fault _ p is)
  at_both (Some g) None is_gnu is_sysv is = gnu_alone g is_gnu (no_fault _ p is)
  at_both (Some g) (Some h) is_gnu is_sysv is =
      both_made g h is_gnu is_sysv (no_fault _ p is)

-- in what rehash makes both hold what is built, where they are there
pub record HasRebuilt (before o : Object) (s : ℕ) : Type 0 where
  pub gnu : (g : ℕ) → gnu_section before s ≡ Some g → RebuiltGnu before o s g
  pub sysv : (h : ℕ) → sysv_section before s ≡ Some h → RebuiltSysv before o s h

pub rehash_rebuilds : (o p : Object) (s : ℕ) → dynamic_symbols o ≡ Some s → rehashed o ≡ Ok p
    → HasRebuilt o p s
unfolding rehashed
rehash_rebuilds o p s table is =
    let made = sym (ap (λ (found : Option ℕ). elim found [
      | None ↦ Err NoDynamicHash
      | Some n ↦ rehashed_at o n (gnu_section o n) (sysv_section o n)
    ]) table) ∙ is in
    let both = at_both o p s (table_type o s table) (gnu_section o s) (sysv_section o s) refl refl
    made in
    record {
      gnu = λ g there.
          subst (λ (x : Option ℕ). IfSome x (λ n. RebuiltGnu o p s n)) there both.0;
      sysv = λ h there.
          subst (λ (x : Option ℕ). IfSome x (λ n. RebuiltSysv o p s n)) there both.1;
    }
