-- Where no section is removed, the items of a section that is made anew are its bytes, encoded.
use Rattle.std.proofs.Common.{◌≡◌, ◌≢◌, ℕ, ◌+◌, ◌<◌, Bool, true, false, not, ◌&&◌, ◌||◌, List, [], ◌∷◌, length, take, drop, get_or, Option, Some, None, Result, Ok, Err, refl, sym, ap, ◌∙◌, subst, arith}
use Rattle.std.specs.Prelude.{IfSome, nat_lt, if◌then◌else◌, ◌==◌, filter}
use Rattle.std.proofs.lemmas.Bool.{and_left, and_parts, eq-eqb, eqb-true}
use Rattle.std.proofs.lemmas.List.{length-map, get_or-map}
use Rattle.std.proofs.lemmas.List.Elements.{filter_passes}
use Rattle.std.proofs.lemmas.Option.{get_or_from_slice_get, slice_get_within}
use Rattle.elf_types.specs.Answers.{err_of}
use Rattle.elf_types.specs.Kinds.{section_kind}
use Rattle.elf_types.specs.declared.records.Class.{Class}
use Rattle.elf_types.specs.declared.records.Order.{Order}
use Rattle.elf_types.specs.declared.records.Kind.{Kind}
use Rattle.elf_types.specs.declared.records.Kind.TheVariants as kinds
use Rattle.elf_types.specs.declared.records.Shdr.{Shdr}
use Rattle.elf_types.specs.declared.records.Sym.{Sym}
use Rattle.elf_types.specs.declared.errors.ElfError.{ElfError}
use Rattle.elf_types.specs.declared.errors.ElfError.TheVariants.{OutOfFile, Ragged}
use Rattle.elf_types.specs.declared.constants.TheConstants.{SHT_SYMTAB, SHT_GROUP, SHT_SYMTAB_SHNDX}
use Rattle.law_object.specs.elf_xlate.declared.content.Items.{Items}
use Rattle.law_object.specs.elf_xlate.declared.content.Items.TheVariants as items
use Rattle.law_object.specs.elf_xlate.Translation.{decoded, encoded, items_kind, EncodesAsDecoded}
use Rattle.law_object.proofs.elf_xlate.Decoded.{decoded_kind}
use Rattle.law_object.specs.elf_ident.declared.fronts.Front.{Front}
use Rattle.law_object.specs.elf_ident.Front.{front, zero_shdr}
use Rattle.law_object.specs.elf_object.Object.{Object, Section, Piece, section_at, piece_at, absent_section, home_piece}
use Rattle.law_object.specs.elf_object.Open.{home_len, home_of, home_bytes, opened_section, begun, begun_or_refused, opened}
use Rattle.law_object.specs.elf_object.Answers.{content, or_empty, items_at, words_of, syms_of, same_kind, no_section, no_data, no_content, raw_refusal, data_refusal}
use Rattle.law_object.specs.elf_object.Valid.{IsObject}
use Rattle.law_object.proofs.elf_object.PassedLaws.{none_first, none_rest}
use Rattle.law_object.proofs.elf_object.StepLaws.{same_kind-true}
use Rattle.law_object.proofs.KeepLaws.{section_at_is}
use Rattle.law_object.specs.elf_object.Sections.{is_allocated, is_of, is_loose, first_of, header_at}
use Rattle.rebuild_model.specs.Followed.{renumbering, has_indexes_of, extended_table, is_the, kept_from_1, followed_syms, followed_words, followed_group, symbols_follow, members_follow, indexes_follow, words_for, syms_in}
use Rattle.rebuild_model.specs.Rebuilt.{items_follow, kept_items, kept_refusal}
use Rattle.law_rebuild.proofs.strip.MadeSections.{bytes_encoded}
use Rattle.law_rebuild.proofs.copy.NoneRemoved.{all_same, syms_same, group_same, words_same}

-- ---- What is opened

-- a section is as its header, as opened, gives it
pub record IsOpenedAt (o : Object) (s : ℕ) : Type 0 where
  pub kind : (section_at o s).home.kind ≡ section_kind (header_at o s)
  pub len : (section_at o s).home.len ≡ home_len (header_at o s)
  pub pieces : (section_at o s).pieces ≡ home_piece ∷ []

begun_from : (r : Result Front ElfError) (image : List ℕ) (o : Object)
    → begun_or_refused r image ≡ Ok o → (f : Front) × (begun f image ≡ o)
begun_from (Ok f) image o h = (f, cc)
begun_from (Err e) image o h = cc

begun_section : (f : Front) (image : List ℕ) (s : ℕ) → s < length (begun f image).sections
    → section_at (begun f image) s ≡ opened_section image (header_at (begun f image) s)
unfolding section_at begun opened_section
begun_section f image s below =
    let count = length-map f.shdrs (opened_section image) in
    let at = get_or-map (opened_section image) f.shdrs s zero_shdr absent_section
    (omega (arith, below, count)) in
    at ∙ ap (λ (c : Section). opened_section image c.header) (sym at)

begun_at : (f : Front) (image : List ℕ) (s : ℕ) → s < length (begun f image).sections
    → IsOpenedAt (begun f image) s
unfolding opened_section home_of
begun_at f image s below =
    let at = begun_section f image s below in
    record {
      kind = ap (λ (c : Section). c.home.kind) at;
      len = ap (λ (c : Section). c.home.len) at;
      pieces = ap (λ (c : Section). c.pieces) at;
    }

pub opened_at : (image : List ℕ) (o : Object) (s : ℕ) → opened image ≡ Ok o
    → s < length o.sections → IsOpenedAt o s
unfolding opened
opened_at image o s e below =
    let found = begun_from (front image) image o e in
    let small : s < length (begun found.0 image).sections =
    omega (arith, below, ap (λ (q : Object). length q.sections) found.1) in
    subst (λ (q : Object). IsOpenedAt q s) found.1 (begun_at found.0 image s small)

-- whose bytes are as many as its header says lies in the file
inside_by_length : (image : List ℕ) (h : Shdr)
    → length (home_bytes (home_of (length image) h) image) ≡ home_len h
    → (home_of (length image) h).out ≡ false
unfolding home_bytes home_of
inside_by_length image h long =
    by_out (not (home_len h == 0) && nat_lt (length image) (h.offset + home_len h)) refl long
  where
    by_out : (b : Bool)
        → (not (home_len h == 0) && nat_lt (length image) (h.offset + home_len h)) ≡ b
        → length (if b then [] else take (home_len h) (drop h.offset image)) ≡ home_len h
        → b ≡ false
    by_out false e size = refl
    by_out true e size =
        let none : (not (home_len h == 0) && nat_lt (length image) (h.offset + home_len h))
        ≡ false =
        and_left (not (home_len h == 0)) (nat_lt (length image) (h.offset + home_len h))
        (ap not (eq-eqb (home_len h) 0 (sym size))) in
        sym e ∙ none

begun_inside : (f : Front) (image : List ℕ) (s : ℕ) → s < length (begun f image).sections
    → length (section_at (begun f image) s).raw ≡ home_len (header_at (begun f image) s)
    → (section_at (begun f image) s).home.out ≡ false
unfolding opened_section
begun_inside f image s below long =
    let at = begun_section f image s below in
    ap (λ (c : Section). c.home.out) at
    ∙ inside_by_length image (header_at (begun f image) s)
    (sym (ap (λ (c : Section). length c.raw) at) ∙ long)

pub opened_inside : (image : List ℕ) (o : Object) (s : ℕ) → opened image ≡ Ok o
    → s < length o.sections → length (section_at o s).raw ≡ home_len (header_at o s)
    → (section_at o s).home.out ≡ false
unfolding opened
opened_inside image o s e below =
    let found = begun_from (front image) image o e in
    let small : s < length (begun found.0 image).sections =
    omega (arith, below, ap (λ (q : Object). length q.sections) found.1) in
    subst (λ (q : Object). length (section_at q s).raw ≡ home_len (header_at q s)
    → (section_at q s).home.out ≡ false) found.1 (begun_inside found.0 image s small)

-- ---- Items that are read are written as they were

ok_of : {A : Type 0} (r : Result A ElfError) → err_of r ≡ None → (x : A) × (r ≡ Ok x)
ok_of (Ok x) h = (x, refl)
ok_of (Err e) h = cc

content_decoded : (o : Object) (s : ℕ) (l : Items) → content o s ≡ Ok l
    → decoded (section_at o s).home.kind o.header.class o.header.order (section_at o s).raw
    ≡ Some l
unfolding content
content_decoded o s l e =
    by_out (section_at o s).home.out
    (decoded (section_at o s).home.kind o.header.class o.header.order (section_at o s).raw) e
  where
    by_out : (b : Bool) (d : Option Items)
        → ◌≡◌ {A = Result Items ElfError} (if b then Err (OutOfFile s) else (elim d [
          | None ↦ Err (Ragged s)
          | Some found ↦ Ok found
        ])) (Ok l)
        → d ≡ Some l
    by_out true d h = cc
    by_out false None h = cc
    by_out false (Some found) h = let same : found ≡ l = cc in ap (λ (x : Items). Some x) same

-- the items of the home piece
pub record HasItems (o : Object) (s : ℕ) (stated : Kind) : Type 0 where
  pub kind : items_kind (items_at o s 0) ≡ stated
  pub same : encoded o.header.class o.header.order (items_at o s 0) ≡ (section_at o s).raw

own_none : (o : Object) (s : ℕ) (l : Items) → (section_at o s).pieces ≡ home_piece ∷ []
    → content o s ≡ Ok l → items_at o s 0 ≡ l
unfolding items_at piece_at
own_none o s l pieces e =
    ap (λ (ps : List Piece).
    let found : Items = elim ((get_or ps 0 home_piece).own) [
      | None ↦ or_empty (content o s)
      | Some own ↦ own
    ] in found) pieces
    ∙ ap or_empty e

passed_content : (o : Object) (s : ℕ) → (section_at o s).pieces ≡ home_piece ∷ []
    → no_content o s 0 ≡ None → err_of (content o s) ≡ None
unfolding no_content piece_at
passed_content o s pieces e =
    sym (ap (λ (ps : List Piece).
    let found : Option ElfError = elim ((get_or ps 0 home_piece).own) [
      | None ↦ err_of (content o s)
      | Some own ↦ None
    ] in found) pieces) ∙ e

pub home_items :
    (back : (kind : Kind) (class : Class) (order : Order) (bytes : List ℕ)
    → EncodesAsDecoded kind class order bytes)
    (o : Object) (s : ℕ) (kind : Kind) → IsObject o → IsOpenedAt o s
    → section_kind (header_at o s) ≡ kind → kind ≢ kinds.Empty
    → data_refusal o s 0 ≡ None → HasItems o s kind
unfolding data_refusal
home_items back o s kind ok at is full passed =
    let last = none_rest (no_data o s 0) (no_content o s 0 ∷ [])
    (none_rest (no_section o s) (no_data o s 0 ∷ no_content o s 0 ∷ []) passed) in
    let read = ok_of (content o s)
    (passed_content o s at.pieces (none_first (no_content o s 0) [] last)) in
    let known = content_decoded o s read.0 read.1 in
    let own = own_none o s read.0 at.pieces read.1 in
    let same_kind_is = at.kind ∙ is in
    let law = back (section_at o s).home.kind o.header.class o.header.order (section_at o s).raw
    (λ none. full (sym same_kind_is ∙ none)) (section_at_is o s ok).home.bytes in
    record {
      kind = ap items_kind own
          ∙ decoded_kind (section_at o s).home.kind o.header.class o.header.order
          (section_at o s).raw read.0 known
          ∙ same_kind_is;
      same = ap (encoded o.header.class o.header.order) own
          ∙ subst (λ (d : Option Items).
          IfSome d (λ l. encoded o.header.class o.header.order l ≡ (section_at o s).raw)) known law;
    }

syms_back : (l : Items) → items_kind l ≡ kinds.Sym → items.Sym (syms_of l) ≡ l
syms_back items.Empty h = cc
syms_back (items.Bytes l) h = cc
syms_back (items.Half l) h = cc
syms_back (items.Word l) h = cc
syms_back (items.Addr l) h = cc
syms_back (items.Sym l) h = refl
syms_back (items.Rel l) h = cc
syms_back (items.Rela l) h = cc
syms_back (items.Dyn l) h = cc

words_back : (l : Items) → items_kind l ≡ kinds.Word → items.Word (words_of l) ≡ l
words_back items.Empty h = cc
words_back (items.Bytes l) h = cc
words_back (items.Half l) h = cc
words_back (items.Word l) h = refl
words_back (items.Addr l) h = cc
words_back (items.Sym l) h = cc
words_back (items.Rel l) h = cc
words_back (items.Rela l) h = cc
words_back (items.Dyn l) h = cc

-- ---- Which items follow

loose_kind : (stype : ℕ) (kind : Kind) (h : Shdr) → is_loose stype kind h ≡ true
    → section_kind h ≡ kind
unfolding is_loose is_of
loose_kind stype kind h e =
    let same = same_kind (section_kind h) kind in
    let loose = and_parts (h.stype == stype && same) (not (is_allocated h)) e in
    let of = and_parts (h.stype == stype) same loose.0 in
    same_kind-true (section_kind h) kind of.1

symbols_kind : (o : Object) (s : ℕ) → symbols_follow o s ≡ true
    → section_kind (header_at o s) ≡ kinds.Sym
unfolding symbols_follow
symbols_kind o s e = loose_kind SHT_SYMTAB kinds.Sym (header_at o s) e

members_kind : (o : Object) (s : ℕ) → members_follow o s ≡ true
    → section_kind (header_at o s) ≡ kinds.Word
unfolding members_follow
members_kind o s e = loose_kind SHT_GROUP kinds.Word (header_at o s) e

the_kind : (o : Object) (removed : List ℕ) (table s : ℕ)
    → is_the s (extended_table o removed table) ≡ true
    → section_kind (header_at o s) ≡ kinds.Word
unfolding extended_table
the_kind o removed table s e =
    by_found (first_of (λ t. has_indexes_of table (header_at o t)) (kept_from_1 o removed)) refl e
  where
    by_found : (found : Option ℕ)
        → first_of (λ t. has_indexes_of table (header_at o t)) (kept_from_1 o removed) ≡ found
        → is_the s found ≡ true → section_kind (header_at o s) ≡ kinds.Word
    by_found None is h = cc
    by_found (Some m) is h =
        let passing =
        filter (λ t. has_indexes_of table (header_at o t)) (kept_from_1 o removed) in
        let test : has_indexes_of table (header_at o m) ≡ true =
        ap (λ (t : ℕ). has_indexes_of table (header_at o t))
        (sym (get_or_from_slice_get passing 0 m 0 is))
        ∙ filter_passes (λ t. has_indexes_of table (header_at o t)) (kept_from_1 o removed) 0 0
        (slice_get_within passing 0 m is) in
        let loose = and_parts (is_loose SHT_SYMTAB_SHNDX kinds.Word (header_at o m))
        ((header_at o m).link == table) test in
        ap (λ (t : ℕ). section_kind (header_at o t)) (eqb-true s m h)
        ∙ loose_kind SHT_SYMTAB_SHNDX kinds.Word (header_at o m) loose.0

indexes_kind : (o : Object) (removed : List ℕ) (s : ℕ) → indexes_follow o removed s ≡ true
    → section_kind (header_at o s) ≡ kinds.Word
unfolding indexes_follow
indexes_kind o removed s e =
    the_kind o removed (header_at o s).link s (and_parts _ _ e).1

data_passed : (o : Object) (removed : List ℕ) (s : ℕ) → kept_refusal o removed s ≡ None
    → items_follow o removed s ≡ true → data_refusal o s 0 ≡ None
unfolding kept_refusal
data_passed o removed s passed follows =
    let last = none_rest (raw_refusal o s)
    ((if items_follow o removed s then data_refusal o s 0 else None) ∷ []) passed in
    let here = none_first (if items_follow o removed s then data_refusal o s 0 else None) [] last in
    sym (ap (λ (b : Bool).
    let r : Option ElfError = if b then data_refusal o s 0 else None in r) follows) ∙ here

word_full : kinds.Word ≢ kinds.Empty
word_full h = cc

sym_full : kinds.Sym ≢ kinds.Empty
sym_full h = cc

-- ---- The items that are kept

pub kept_same :
    (back : (kind : Kind) (class : Class) (order : Order) (bytes : List ℕ)
    → EncodesAsDecoded kind class order bytes)
    (o : Object) (s : ℕ) → IsObject o → IsOpenedAt o s → kept_refusal o [] s ≡ None
    → encoded o.header.class o.header.order (kept_items o [] s) ≡ (section_at o s).raw
unfolding kept_items
kept_same back o s ok at passed =
    by_tests (symbols_follow o s) (members_follow o s) (indexes_follow o [] s) refl refl refl
  where
    passes : (a b c : Bool) → symbols_follow o s ≡ a → members_follow o s ≡ b
        → indexes_follow o [] s ≡ c → (a || b || c) ≡ true → data_refusal o s 0 ≡ None
    passes a b c x y z e =
        data_passed o [] s passed
        (ap (λ (t : Bool). t || members_follow o s || indexes_follow o [] s) x
        ∙ ap (λ (t : Bool). a || t || indexes_follow o [] s) y
        ∙ ap (λ (t : Bool). a || b || t) z ∙ e)

    by_tests : (syms members indexes : Bool) → symbols_follow o s ≡ syms
        → members_follow o s ≡ members → indexes_follow o [] s ≡ indexes
        → encoded o.header.class o.header.order (if syms
        then items.Sym (followed_syms (renumbering o []) (words_for o [] s) (syms_in o s))
        else (if members
        then items.Word (followed_group (renumbering o []) (words_of (items_at o s 0)))
        else (if indexes
        then items.Word (followed_words (renumbering o []) (syms_in o (header_at o s).link)
        (words_of (items_at o s 0)))
        else items.Bytes (section_at o s).raw))) ≡ (section_at o s).raw
    by_tests true members indexes x y z =
        let has = home_items back o s kinds.Sym ok at (symbols_kind o s x) sym_full
        (passes true members indexes x y z refl) in
        ap (λ (l : List Sym).
        encoded o.header.class o.header.order (items.Sym l))
        (syms_same (renumbering o []) (words_for o [] s) (syms_in o s) (all_same o))
        ∙ ap (encoded o.header.class o.header.order) (syms_back (items_at o s 0) has.kind)
        ∙ has.same
    by_tests false true indexes x y z =
        let has = home_items back o s kinds.Word ok at (members_kind o s y) word_full
        (passes false true indexes x y z refl) in
        ap (λ (l : List ℕ). encoded o.header.class o.header.order (items.Word l))
        (group_same (renumbering o []) (words_of (items_at o s 0)) (all_same o))
        ∙ ap (encoded o.header.class o.header.order) (words_back (items_at o s 0) has.kind)
        ∙ has.same
    by_tests false false true x y z =
        let has = home_items back o s kinds.Word ok at (indexes_kind o [] s z) word_full
        (passes false false true x y z refl) in
        ap (λ (l : List ℕ). encoded o.header.class o.header.order (items.Word l))
        (words_same (renumbering o []) (syms_in o (header_at o s).link)
        (words_of (items_at o s 0)) (all_same o))
        ∙ ap (encoded o.header.class o.header.order) (words_back (items_at o s 0) has.kind)
        ∙ has.same
    by_tests false false false x y z =
        bytes_encoded o.header.class o.header.order (section_at o s).raw
        (section_at_is o s ok).home.bytes
