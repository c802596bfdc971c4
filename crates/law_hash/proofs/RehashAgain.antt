-- What rehash writes of an image, opened again, keeps what a lookup finds.
use Rattle.std.proofs.Common.{◌≡◌, ◌<◌, ◌⊎◌, inl, inr, ◌==◌, ◌||◌, ℕ, Bool, true, false, not, List, length, get_or, All, Some, None, refl, sym, ap, ◌∙◌, subst, arith}
use Rattle.std.specs.Prelude.{slice_get}
use Rattle.std.specs.List.{position}
use Rattle.std.proofs.lemmas.Bool.{cases_eq}
use Rattle.elf_types.specs.Answers.{err_of}
use Rattle.elf_types.specs.declared.constants.TheConstants.{SHT_NULL, SHT_NOBITS, SHT_STRTAB, SHT_DYNSYM, SHT_REL, SHT_RELA}
use Rattle.elf_types.specs.declared.records.Kind.TheVariants as kinds
use Rattle.elf_types.specs.declared.records.Shdr.{Shdr}
use Rattle.elf_types.specs.declared.records.Phdr.{Phdr}
use Rattle.elf_xlate.specs.declared.content.Items.{Items}
use Rattle.elf_xlate.specs.Headers.{IsPhdr}
use Rattle.elf_xlate.specs.Translation.{items_kind}
use Rattle.rebuild_model.specs.elf_object.Object.{Object, Piece, section_at, piece_at, occupies_file, home_piece}
use Rattle.rebuild_model.specs.elf_object.Answers.{content, items_at, syms_of, kind_at, no_content, lend_refusal}
use Rattle.rebuild_model.specs.elf_object.Refusal.{refusal}
use Rattle.rebuild_model.specs.elf_object.Settled.{settle}
use Rattle.rebuild_model.specs.elf_object.Strings.{readable, string_answer, is_name}
use Rattle.rebuild_model.specs.elf_object.Valid.{IsObject, as_opened}
use Rattle.rebuild_model.proofs.elf_object.AnswerLaws.{lend_passed}
use Rattle.law_rebuild.specs.law_object.Laws.{ReopenLaw, SettlingKeepsItems}
use Rattle.law_rebuild.proofs.law_object.LawsHold.{beginnings_are}
use Rattle.law_rebuild.proofs.strip.RehashLaws.{rehashed_is_object}
use Rattle.law_rebuild.proofs.strip.WrittenLaws.{written_known, settled_again}
use Rattle.rebuild_model.specs.elf_object.Sections.{header_at}
use Rattle.rebuild_model.specs.hash_model.Listed.{listed_names}
use Rattle.rebuild_model.specs.Laws.{IsRehashed, symbol_at, rel_symbol, rela_symbol, RehashLaw}
use Rattle.law_hash.specs.Rehash.{HasStringsApart, WrittenKeepsLookup, RehashWrites}
use Rattle.law_hash.proofs.SameLaws.{no_string_at, StringsAlike, names_alike}
use Rattle.law_hash.proofs.RenumberedLaws.{looks_up, still_named, rel_in, rela_in}
use Rattle.law_hash.proofs.TypeLaws.{apart_types, there_by_type}
use Rattle.law_hash.proofs.ReorderedItems.{IsOwnOrSame}
use Rattle.law_hash.proofs.RehashedLaws.{IsDirtyRehash, rehash_ends, table_type}
use Rattle.law_hash.proofs.RebuiltLaws.{SameTable}
use Rattle.law_hash.proofs.ReopenedSections.{IsHomeAlone, again_class, again_order, again_count, again_clean, again_kind, again_link}
use Rattle.law_hash.proofs.WrittenSections.{IsOpened, opened_at, type_again, kind_before, lent_by, same_string, stands_again, stands_there, stands_kind, told}

-- ---- Lookups in it

-- a section of one of these types occupies the file
pub occupies_by : (h : Shdr) (stype : ℕ) → h.stype ≡ stype
    → (stype == SHT_NULL || stype == SHT_NOBITS) ≡ false → occupies_file h ≡ true
occupies_by h stype is some =
    ap (λ (n : ℕ). not (n == SHT_NULL || n == SHT_NOBITS)) is ∙ ap (λ (b : Bool). not b) some

module _ (before o : Object) (s : ℕ) (ok_before : IsObject before) (ok : IsObject o)
    (table : (header_at before s).stype ≡ SHT_DYNSYM) (positive : 0 < s)
    (done : IsDirtyRehash before o s) (passed : refusal o ≡ None) (keeps : SettlingKeepsItems o)
    (was : (t : ℕ) → t < length before.sections → IsOpened (section_at before t)) where
  abbrev written : Object
  written = as_opened (settle o)

  count : length o.sections ≡ length before.sections
  count = done.way.strings.count

  -- a section of a type, which is not section 0
  items_by_type : (t stype : ℕ) → 0 < t → (header_at before t).stype ≡ stype
      → (stype == SHT_NULL) ≡ false → (stype == SHT_NULL || stype == SHT_NOBITS) ≡ false
      → IsOwnOrSame before o t → items_at written t 0 ≡ items_at o t 0
  items_by_type t stype later is some full stands =
      stands_again before o ok_before ok done.dirty passed keeps count was t later
      (there_by_type before t stype is some)
      (occupies_by (header_at before t) stype is full) stands

  -- ---- The table

  inside : s < length before.sections
  inside = there_by_type before s SHT_DYNSYM table refl

  occupies : occupies_file (section_at before s).header ≡ true
  occupies = occupies_by (header_at before s) SHT_DYNSYM table refl

  at_hand : occupies_file (section_at o s).header ≡ true
  at_hand =
      stands_there before o ok_before ok done.dirty passed keeps count was s positive inside
      occupies done.way.table

  table_clean : IsHomeAlone (section_at written s)
  table_clean = again_clean o ok done.dirty passed s positive (omega (arith, inside, count)) at_hand

  lent_before : lend_refusal o kinds.Sym s 0 ≡ None
  lent_before = done.way.renumbered.lent ∙ done.lent

  kind_is : kind_at written s 0 ≡ kinds.Sym
  unfolding kind_at piece_at
  kind_is =
      ap (λ (l : List Piece). elim ((get_or l 0 home_piece).own) [
        | None ↦ (section_at written s).home.kind
        | Some items ↦ items_kind items
      ]) table_clean
      ∙ again_kind o ok done.dirty passed s positive (omega (arith, inside, count)) at_hand
      ∙ stands_kind before o ok_before ok done.dirty passed keeps count was s positive inside
      occupies done.way.table
      ∙ sym (kind_before before o ok_before ok done.dirty passed keeps count was s positive inside
      occupies)
      ∙ (lend_passed before kinds.Sym s 0 done.lent).2

  content_is : no_content written s 0 ≡ None
  unfolding no_content piece_at
  content_is =
      ap (λ (l : List Piece). elim ((get_or l 0 home_piece).own) [
        | None ↦ err_of (content written s)
        | Some items ↦ None
      ]) table_clean
      ∙ told before o ok_before ok done.dirty passed keeps count was s positive inside occupies
      done.way.table (lend_passed o kinds.Sym s 0 lent_before).3

  lent_after : lend_refusal written kinds.Sym s 0 ≡ None
  lent_after =
      lent_by written kinds.Sym s
      (omega (arith, inside, count, again_count o ok done.dirty passed)) table_clean kind_is
      content_is

  symbols_same : items_at written s 0 ≡ items_at o s 0
  symbols_same = items_by_type s SHT_DYNSYM positive table refl refl done.way.table

  -- ---- Its names

  -- of strings that are not those of section 0
  string_same : (t offset : ℕ) → ((header_at before t).stype ≡ SHT_STRTAB → 0 < t)
      → readable (string_answer written t offset) ≡ readable (string_answer o t offset)
  string_same t offset later = by (cases_eq (header_at o t).stype SHT_STRTAB)
    where
      by : ((header_at o t).stype ≡ SHT_STRTAB) ⊎ ((header_at o t).stype ≡ SHT_STRTAB → ⊥)
          → readable (string_answer written t offset) ≡ readable (string_answer o t offset)
      by (inl is) =
          let type : (header_at before t).stype ≡ SHT_STRTAB =
          sym (done.way.strings.stype t) ∙ is in
          same_string before o ok_before ok done.dirty passed keeps count was t (later type)
          (there_by_type before t SHT_STRTAB type refl)
          (occupies_by (header_at before t) SHT_STRTAB type refl)
          (done.way.strings.strings t type) is offset
      by (inr other) =
          no_string_at written t offset
          (λ is. other
          (sym (type_again before o ok_before ok done.dirty passed keeps count was t) ∙ is))
          ∙ sym (no_string_at o t offset other)

  module _ (apart : HasStringsApart before s) where
    later_strings : (header_at before (header_at o s).link).stype ≡ SHT_STRTAB
        → 0 < (header_at o s).link
    later_strings is = by (cases_eq (header_at o s).link 0)
      where
        by : ((header_at o s).link ≡ 0) ⊎ ((header_at o s).link ≡ 0 → ⊥)
            → 0 < (header_at o s).link
        by (inl first) =
            absurd (apart (sym (done.way.strings.link s) ∙ first)
            (sym (ap (λ (t : ℕ). (header_at before t).stype) first) ∙ is))
        by (inr other) = omega (arith, other)

    alike : StringsAlike o written s
    alike = record {
      link = again_link o ok done.dirty passed s positive (omega (arith, inside, count)) at_hand;
      strings = λ offset. string_same (header_at o s).link offset later_strings;
    }

    names_kept : listed_names written s ≡ listed_names o s
    names_kept = names_alike o written s alike symbols_same

    pub table_kept : SameTable o written s
    table_kept = record {
      class = again_class o ok done.dirty passed;
      order = again_order o ok done.dirty passed;
      lent = lent_after ∙ sym lent_before;
      items = symbols_same;
      names = names_kept;
    }

  symbols_kept : (i : ℕ) → i < length (syms_of (items_at before s 0))
      → symbol_at written s (done.way.new i) ≡ symbol_at before s i
  symbols_kept i below =
      ap (λ (l : Items). slice_get (syms_of l) (done.way.new i)) symbols_same
      ∙ done.way.renumbered.symbols i below

  pub kept_in_image : WrittenKeepsLookup before written s
  kept_in_image = record {
    lookups = λ apart name. looks_up before written s done.way.new symbols_kept
        (lent_after ∙ sym done.lent) name
        (ap (position (is_name name)) (names_kept apart) ∙ done.way.renumbered.found name);
    rels = λ n i later type link. still_named before written s done.way.new symbols_kept
        (rel_symbol before n i) (rel_symbol written n i)
        (ap (λ (l : Items). rel_in l i)
        (items_by_type n SHT_REL later type refl refl (done.way.rels n type link))
        ∙ done.way.renumbered.rels n i type link);
    relas = λ n i later type link. still_named before written s done.way.new symbols_kept
        (rela_symbol before n i) (rela_symbol written n i)
        (ap (λ (l : Items). rela_in l i)
        (items_by_type n SHT_RELA later type refl refl (done.way.relas n type link))
        ∙ done.way.renumbered.relas n i type link);
  }

-- ---- What is written of an image

-- what is known of what rehash edits, and of what is opened of its image
pub record IsWrittenOf (before after edited : Object) (s : ℕ) : Type 0 where
  pub ok_before : IsObject before
  pub ok : IsObject edited
  pub table : (header_at before s).stype ≡ SHT_DYNSYM
  pub done : IsDirtyRehash before edited s
  pub passed : refusal edited ≡ None
  pub was : (t : ℕ) → t < length before.sections → IsOpened (section_at before t)
  pub is : as_opened (settle edited) ≡ after

pub written_of : ((o : Object) → ReopenLaw o) → (before after : Object) (s : ℕ)
    (is : IsRehashed before after s) → IsWrittenOf before after is.edited s
written_of reopens before after s is =
    let ok = beginnings_are.from_image is.image before is.bytes is.is_before in
    let done = rehash_ends before is.edited s is.table is.is_edited in
    let made_ok = rehashed_is_object before is.edited ok is.is_edited in
    let phdrs : All IsPhdr is.edited.phdrs =
    subst (λ (l : List Phdr). All IsPhdr l) (sym done.way.strings.phdrs)
    (beginnings_are.phdrs is.image before is.bytes is.is_before) in
    record {
      ok_before = ok;
      ok = made_ok;
      table = table_type before s is.table;
      done = done;
      passed = (written_known is.edited is.out is.is_out).0;
      was = opened_at is.image before is.is_before;
      is = sym (settled_again reopens is.edited after is.out made_ok phdrs done.dirty is.is_out
          is.is_after);
    }

pub rehash_writes : ((o : Object) → ReopenLaw o) → ((o : Object) → SettlingKeepsItems o)
    → RehashWrites
rehash_writes reopens keeps before after s is later =
    let w = written_of reopens before after s is in
    subst (λ (p : Object). WrittenKeepsLookup before p s) w.is
    (kept_in_image before is.edited s w.ok_before w.ok w.table later w.done w.passed
    (keeps is.edited) w.was)

-- ---- Where section 0 is as it has to be

not_first : (o : Object) (t stype : ℕ) → (header_at o 0).stype ≡ SHT_NULL
    → (header_at o t).stype ≡ stype → (stype == SHT_NULL) ≡ false → 0 < t
not_first o t stype zeroth is some = by (cases_eq t 0)
  where
    by : (t ≡ 0) ⊎ (t ≡ 0 → ⊥) → 0 < t
    by (inl first) =
        absurd (apart_types stype SHT_NULL some (header_at o t).stype is
        (ap (λ (k : ℕ). (header_at o k).stype) first ∙ zeroth))
    by (inr other) = omega (arith, other)

pub rehash_law : RehashWrites → RehashLaw
rehash_law writes before after s is zeroth =
    let table = table_type before s is.table in
    let kept = writes before after s is (not_first before s SHT_DYNSYM zeroth table refl) in
    record {
      lookups = kept.lookups
          (λ first named. apart_types SHT_NULL SHT_STRTAB refl (header_at before 0).stype zeroth
          named);
      rels = λ n i type link.
          kept.rels n i (not_first before n SHT_REL zeroth type refl) type link;
      relas = λ n i type link.
          kept.relas n i (not_first before n SHT_RELA zeroth type refl) type link;
    }
