-- What the debug half of an image, written and opened again, has of it (`DebugHalfKeeps`).
use Rattle.std.proofs.Common.{◌≡◌, ℕ, ◌-◌, ◌^◌, ◌<◌, ◌≤◌, Bool, true, false, List, [], ◌∷◌, length, get_or, None, Ok, refl, sym, ap, ◌∙◌, subst, arith}
use Rattle.std.specs.Prelude.{All, if◌then◌else◌, map}
use Rattle.std.proofs.lemmas.Bool.{ne_eqb}
use Rattle.std.proofs.lemmas.List.Elements.{All-nil}
use Rattle.std.proofs.lemmas.List.FromFn.{length-map-range_with_len, get_or-map-range_with_len}
use Rattle.elf_types.specs.Answers.{first_refusal}
use Rattle.elf_types.specs.Lists.{AreBytes}
use Rattle.elf_types.specs.declared.records.Phdr.{Phdr}
use Rattle.elf_types.specs.declared.constants.TheConstants.{SHT_NOBITS}
use Rattle.elf_xlate.specs.declared.content.Items.TheVariants as items
use Rattle.elf_xlate.specs.Headers.{IsPhdr}
use Rattle.elf_ident.proofs.Refusals.{answered_ok}
use Rattle.elf_object.specs.Object.{Object, Section, absent_section, new_section, section_at, occupies_file}
use Rattle.elf_object.specs.Open.{opened}
use Rattle.elf_object.specs.Answers.{raw_refusal}
use Rattle.elf_object.specs.Layout.{section_numbers}
use Rattle.elf_object.specs.Calls.{newphdr_refusal}
use Rattle.elf_object.specs.Valid.{as_opened}
use Rattle.elf_object.proofs.PassedLaws.{none_first, none_rest}
use Rattle.law_rebuild.specs.law_object.Laws.{ReopenLaw}
use Rattle.law_rebuild.proofs.law_object.OpenLaws.{opened_is, opened_phdrs}
use Rattle.elf_object.specs.Sections.{header_at}
use Rattle.rebuild_model.specs.Arranged.{over_base}
use Rattle.rebuild_model.specs.Rebuilt.{made_section, index_refusal}
use Rattle.rebuild_model.specs.Split.{is_loaded_from_file, debug_section, debug_sections, debug_half, debug_raw_refusal, debug_refusal, debug_of}
use Rattle.rebuild_model.specs.Files.{file_of}
use Rattle.rebuild_model.specs.KeepingLaws.{SameHeader}
use Rattle.law_rebuild.proofs.strip.HalfLaws.{debug_is_object, halves_are_writable}
use Rattle.law_rebuild.proofs.strip.MadeSections.{bytes_encoded}
use Rattle.law_split.specs.Halves.{without_place, IsDebugHalf, DebugHalfKeeps}
use Rattle.law_split.proofs.Again.{IsWrittenAs, ReopensAs, IsFiled, settled_anew, written_reopened, reopened_as, front_reopened, header_reopened, with_size_same, section_filed}
use Rattle.law_split.proofs.Placed.{HasFrontOf, assembled_front}
use Rattle.law_split.proofs.Whole.{HasRaw, inside_from, raw_opened, opened_fits, same_headers, numbers_pass}

-- ---- What is not refused, and what is made then

pub record IsDebugOf (o p : Object) : Type 0 where
  pub raw : first_refusal (map (debug_raw_refusal o) (section_numbers o)) ≡ None
  pub index : index_refusal o (debug_sections o) o.header.shstrndx ≡ None
  pub is : debug_half o ≡ p

pub debug_made : (o p : Object) → debug_of o ≡ Ok p → IsDebugOf o p
unfolding debug_of debug_refusal
debug_made o p e =
    let index = index_refusal o (debug_sections o) o.header.shstrndx ∷ [] in
    let raw = first_refusal (map (debug_raw_refusal o) (section_numbers o)) ∷ index in
    let value = answered_ok (first_refusal (newphdr_refusal (length o.phdrs) ∷ raw))
    (debug_half o) p e in
    let rest = none_rest (newphdr_refusal (length o.phdrs)) raw value.0 in
    let last = none_rest (first_refusal (map (debug_raw_refusal o) (section_numbers o))) index rest
    in
    record {
      raw = none_first
          (first_refusal (map (debug_raw_refusal o) (section_numbers o))) index rest;
      index = none_first (index_refusal o (debug_sections o) o.header.shstrndx) [] last;
      is = value.1;
    }

-- a section that keeps its bytes has a home in the file
pub raw_passed : (o : Object) (s : ℕ)
    → first_refusal (map (debug_raw_refusal o) (section_numbers o)) ≡ None
    → 1 ≤ s → s < length o.sections → is_loaded_from_file (header_at o s) ≡ false
    → raw_refusal o s ≡ None
raw_passed o s passed from below stays =
    sym (ap (λ (b : Bool). if b then None else raw_refusal o s) stays)
    ∙ numbers_pass (debug_raw_refusal o) 1 (length o.sections - 1) s passed from
    (omega (arith, from, below))

-- ---- Its front, and its sections by number

half_front : (o : Object) → HasFrontOf o o.header.shstrndx (debug_sections o) (debug_half o)
unfolding debug_half over_base
half_front o = assembled_front o None o.header.shstrndx (debug_sections o)

pub half_count : (o : Object) → length (debug_half o).sections ≡ length o.sections
half_count o =
    ap (λ (l : List Section). length l) (half_front o).sections_are
    ∙ length-map-range_with_len (debug_section o) 0 (length o.sections)

half_at : (o : Object) (s : ℕ) → s < length o.sections
    → section_at (debug_half o) s ≡ debug_section o s
unfolding section_at
half_at o s below =
    ap (λ (l : List Section). get_or l s absent_section) (half_front o).sections_are
    ∙ get_or-map-range_with_len (debug_section o) 0 (length o.sections) s s absent_section below
    (omega arith)

half_made : (o : Object) (s : ℕ) (loaded : Bool) → 1 ≤ s
    → is_loaded_from_file (header_at o s) ≡ loaded
    → debug_section o s ≡ (if loaded
    then made_section (record (header_at o s) { stype = SHT_NOBITS }) (items.Bytes [])
    else made_section (header_at o s) (items.Bytes (section_at o s).raw))
unfolding debug_section
half_made o s loaded from is =
    ap (λ (b : Bool). if b then new_section
    else (if is_loaded_from_file (header_at o s)
    then made_section (record (header_at o s) { stype = SHT_NOBITS }) (items.Bytes [])
    else made_section (header_at o s) (items.Bytes (section_at o s).raw)))
    (ne_eqb s 0 (λ none. omega (arith, from, none)))
    ∙ ap (λ (b : Bool). if b
    then made_section (record (header_at o s) { stype = SHT_NOBITS }) (items.Bytes [])
    else made_section (header_at o s) (items.Bytes (section_at o s).raw)) is

-- ---- Written and opened again

pub debug_half_written : (whole : Object) (image : List ℕ) (half : Object) (out : List ℕ)
    → AreBytes image → opened image ≡ Ok whole → debug_of whole ≡ Ok half → file_of half ≡ Ok out
    → IsWrittenAs half out
debug_half_written whole image half out bytes is_whole is_half is_out =
    let ok = opened_is image whole bytes is_whole in
    let made = debug_made whole half is_half in
    let fits = opened_fits image whole bytes is_whole in
    let same : whole.phdrs ≡ half.phdrs =
    sym (half_front whole).phdrs ∙ ap (λ (x : Object). x.phdrs) made.is in
    record {
      ok = debug_is_object whole half ok is_half;
      phdrs = subst (λ (l : List Phdr). All IsPhdr l) same
          (opened_phdrs image whole bytes is_whole);
      dirty = (halves_are_writable.debug whole half ok fits.segments is_half).dirty;
      written = is_out;
    }

pub half_reopened : (whole debug : Object) (is : IsDebugHalf whole debug)
    → ReopensAs is.half is.out debug
half_reopened whole debug is =
    written_reopened is.half is.out debug
    (debug_half_written whole is.image is.half is.out is.bytes is.is_whole is.is_half is.is_out)
    is.is_debug

-- what is loaded of the file
pub loaded_filed : (q whole debug : Object) (s : ℕ) → q ≡ debug_half whole
    → debug ≡ as_opened (settled_anew q) → 1 ≤ s → s < length whole.sections
    → is_loaded_from_file (header_at whole s) ≡ true
    → IsFiled q debug s (record (header_at whole s) { stype = SHT_NOBITS }) []
loaded_filed q whole debug s is again from below loaded =
    section_filed q debug s (record (header_at whole s) { stype = SHT_NOBITS }) (items.Bytes []) []
    again from
    (omega (arith, below, half_count whole, ap (λ (x : Object). length x.sections) is))
    (ap (λ (x : Object). section_at x s) is ∙ half_at whole s below
    ∙ half_made whole s true from loaded)
    (bytes_encoded q.header.class q.header.order [] (All-nil (λ n. n < 2 ^ 8)))

-- and what is not
pub other_filed : (q whole debug : Object) (s : ℕ) → q ≡ debug_half whole
    → debug ≡ as_opened (settled_anew q) → 1 ≤ s → s < length whole.sections
    → is_loaded_from_file (header_at whole s) ≡ false → HasRaw whole s
    → IsFiled q debug s (header_at whole s) (section_at whole s).raw
other_filed q whole debug s is again from below other raw =
    section_filed q debug s (header_at whole s) (items.Bytes (section_at whole s).raw)
    (section_at whole s).raw again from
    (omega (arith, below, half_count whole, ap (λ (x : Object). length x.sections) is))
    (ap (λ (x : Object). section_at x s) is ∙ half_at whole s below
    ∙ half_made whole s false from other)
    (bytes_encoded q.header.class q.header.order (section_at whole s).raw raw.bytes)

-- bytes where there are any
pub raw_or_none : (o : Object) (s : ℕ) → HasRaw o s
    → (if occupies_file (header_at o s) then (section_at o s).raw else []) ≡ (section_at o s).raw
raw_or_none o s raw = by_test (occupies_file (header_at o s)) raw.empty
  where
    by_test : (b : Bool) → (b ≡ false → (section_at o s).raw ≡ [])
        → (if b then (section_at o s).raw else []) ≡ (section_at o s).raw
    by_test true empty = refl
    by_test false empty = sym (empty refl)

-- ---- The law

pub debug_half_keeps : ((o : Object) → ReopenLaw o) → DebugHalfKeeps
debug_half_keeps reopens whole debug is =
    let made = debug_made whole is.half is.is_half in
    let written = half_reopened whole debug is in
    let again = reopened_as reopens is.half is.out debug written in
    let front = front_reopened is.half debug again in
    let header = header_reopened is.half debug written.ok front in
    record {
      header = same_headers whole.header is.half.header debug.header
          (subst (λ (x : Object). SameHeader whole.header x.header) made.is
          (half_front whole).header)
          header;
      phdrs = front.phdrs ∙ sym (ap (λ (x : Object). x.phdrs) made.is) ∙ (half_front whole).phdrs;
      count = front.count ∙ sym (ap (λ (x : Object). length x.sections) made.is)
          ∙ half_count whole;
      headers = λ s from below.
          by_loaded s (is_loaded_from_file (header_at whole s)) refl made again from below;
      raw = λ s from below other.
          let raw = has_raw s made from below other in
          (other_filed is.half whole debug s (sym made.is) again from below other raw).raw
          ∙ raw_or_none whole s raw;
    }
  where
    has_raw : (s : ℕ) → IsDebugOf whole is.half → 1 ≤ s → s < length whole.sections
        → is_loaded_from_file (header_at whole s) ≡ false → HasRaw whole s
    has_raw s made from below other =
        raw_opened is.image whole s (opened_is is.image whole is.bytes is.is_whole) is.is_whole
        below (inside_from whole s (raw_passed whole s made.raw from below other))

    by_loaded : (s : ℕ) (b : Bool) → is_loaded_from_file (header_at whole s) ≡ b
        → IsDebugOf whole is.half → debug ≡ as_opened (settled_anew is.half)
        → 1 ≤ s → s < length whole.sections
        → without_place (header_at debug s)
        ≡ without_place (if b then record (header_at whole s) { stype = SHT_NOBITS }
        else header_at whole s)
    by_loaded s true e made again from below =
        (loaded_filed is.half whole debug s (sym made.is) again from below e).header
    by_loaded s false e made again from below =
        let raw = has_raw s made from below e in
        (other_filed is.half whole debug s (sym made.is) again from below e raw).header
        ∙ with_size_same (header_at whole s) (section_at whole s).raw raw.filled
