-- What the headers that C hands over tell of each object that has them.
use Rattle.std.proofs.Common.{◌≡◌, inr, ℕ, ◌<◌, ◌≤◌, Bool, true, false, not, ◌&&◌, ◌||◌, List, [], ◌∷◌, length, get_or, Option, Some, None, Result, Err, refl, sym, ap, ◌∙◌, subst, arith}
use Rattle.std.specs.Prelude.{map, ◌^◌, ◌==◌, nat_lt, nat_le, if◌then◌else◌}
use Rattle.std.specs.List.{position}
use Rattle.std.specs.Option.{option_map}
use Rattle.std.proofs.lemmas.Bool.{le-ltb}
use Rattle.std.proofs.lemmas.List.{length-map, get_or-map}
use Rattle.std.proofs.lemmas.List.Elements.{All-get_or}
use Rattle.elf_types.specs.Answers.{refused_if, first_refusal, answered}
use Rattle.elf_types.specs.declared.constants.TheConstants.{MAX_SECTIONS, MAX_SEGMENTS, PN_XNUM, SHN_LORESERVE}
use Rattle.elf_types.specs.declared.errors.ElfError.{ElfError}
use Rattle.elf_types.specs.declared.errors.ElfError.TheVariants.{Memory, TooMany, Unfit}
use Rattle.elf_types.specs.declared.records.Class.{Class}
use Rattle.elf_types.specs.declared.records.Ehdr.{Ehdr}
use Rattle.elf_types.specs.declared.records.Part.TheVariants as part
use Rattle.elf_types.specs.declared.records.Phdr.{Phdr}
use Rattle.elf_types.specs.declared.records.Shdr.{Shdr}
use Rattle.elf_xlate.specs.Headers.{phdr_fits}
use Rattle.elf_object.specs.elf_ident.Front.{zero_shdr}
use Rattle.elf_object.specs.Object.{Object, Section, header_of, section_at, absent_section, occupies_file, has_file_bytes, is_dirty}
use Rattle.elf_object.specs.Joined.{file_bytes}
use Rattle.elf_object.specs.Refusal.{too_many, unfit_segment, unfit_item, missing_home, content_refusal, placing_refusal, refusal}
use Rattle.elf_object.specs.Valid.{IsSection}
use Rattle.law_object.proofs.ImageLaws.{joined-none}
use Rattle.elf_update_plan.specs.Placing.{IsRefused}
use Rattle.elf_update_plan.proofs.PlacingLaws.{refused_from, wants_as}
use Rattle.c_records.specs.declared.headers.EhdrRecord.{EhdrRecord}
use Rattle.c_records.specs.declared.headers.PhdrRecord.{PhdrRecord}
use Rattle.c_records.specs.declared.headers.ShdrRecord.{ShdrRecord}
use Rattle.rebuild_image.specs.declared.listed.listed.HeaderListing.{HeaderListing}
use Rattle.rebuild_image.specs.Listed.Listing.{IsHeaderListing}
use Rattle.rebuild_image.specs.Planning.{IsLaidOut}
use Rattle.c_calls.proofs.layout.PassLaws.{position_of}
use Rattle.c_calls.specs.Editing.From.{phdr_from_record, shdr_from_record}
use Rattle.c_calls.specs.Translation.Numbers.{class_from}
use Rattle.c_calls.specs.Layout.Stated.{IsStated}
use Rattle.c_calls.specs.Layout.Listed.{first_occupies, counts_refusal, segments_refusal, size_listed, ListsHeaders}

-- ---- Refusals of an object

-- the first of four tests in a row, and all of them passed
first_of : (a b c d : Option ElfError) (e : ElfError) → a ≡ Some e
    → first_refusal (a ∷ b ∷ c ∷ d ∷ []) ≡ Some e
first_of a b c d e is =
    ap (λ (r : Option ElfError). first_refusal (r ∷ b ∷ c ∷ d ∷ [])) is

second_of : (a b c d : Option ElfError) (e : ElfError) → a ≡ None → b ≡ Some e
    → first_refusal (a ∷ b ∷ c ∷ d ∷ []) ≡ Some e
second_of a b c d e none is =
    ap (λ (r : Option ElfError). first_refusal (r ∷ b ∷ c ∷ d ∷ [])) none
    ∙ ap (λ (r : Option ElfError). first_refusal (r ∷ c ∷ d ∷ [])) is

none_of : (a b c d : Option ElfError) → a ≡ None → b ≡ None → c ≡ None → d ≡ None
    → first_refusal (a ∷ b ∷ c ∷ d ∷ []) ≡ None
none_of a b c d first second third fourth =
    ap (λ (r : Option ElfError). first_refusal (r ∷ b ∷ c ∷ d ∷ [])) first
    ∙ ap (λ (r : Option ElfError). first_refusal (r ∷ c ∷ d ∷ [])) second
    ∙ ap (λ (r : Option ElfError). first_refusal (r ∷ d ∷ [])) third
    ∙ ap (λ (r : Option ElfError). first_refusal (r ∷ [])) fourth

refused_by_content : (o : Object) (e : ElfError) → is_dirty o ≡ true → content_refusal o ≡ Some e
    → IsRefused o e
unfolding refusal
refused_by_content o e dirty is =
    inr (ap (λ (b : Bool).
    if b then first_refusal (content_refusal o ∷ placing_refusal o ∷ []) else None) dirty
    ∙ ap (λ (r : Option ElfError). first_refusal (r ∷ placing_refusal o ∷ [])) is)

-- ---- What is stated

module _ (o : Object) (ehdr : EhdrRecord) (pad : List ℕ) (phdrs : List PhdrRecord)
    (shdrs : List ShdrRecord) (base : ℕ) (is : IsStated o ehdr pad phdrs shdrs base) where
  segment_count : length o.phdrs ≡ length phdrs
  segment_count =
      ap (λ (l : List Phdr). length l) is.segments ∙ length-map phdrs phdr_from_record

  section_count : length o.sections ≡ length shdrs
  section_count =
      sym (length-map o.sections (λ (c : Section). c.header))
      ∙ ap (λ (l : List Shdr). length l) is.sections
      ∙ length-map shdrs shdr_from_record

  pub class_is : class_from ehdr.class ≡ o.header.class
  unfolding header_of
  class_is = sym (ap (λ (h : Ehdr). h.class) is.header)

  -- ---- The counts

  within_limits : (nat_lt MAX_SEGMENTS (length phdrs) || nat_lt MAX_SECTIONS (length shdrs)) ≡ false
  within_limits =
      let segments : nat_lt MAX_SEGMENTS (length phdrs) ≡ false =
      le-ltb MAX_SEGMENTS (length phdrs)
      (subst (λ (n : ℕ). n ≤ MAX_SEGMENTS) segment_count is.object.phdr_count) in
      let sections : nat_lt MAX_SECTIONS (length shdrs) ≡ false =
      le-ltb MAX_SECTIONS (length shdrs)
      (subst (λ (n : ℕ). n ≤ MAX_SECTIONS) section_count is.object.section_count) in
      ap (λ (b : Bool). b || nat_lt MAX_SECTIONS (length shdrs)) segments ∙ sections

  first_is : first_occupies shdrs ≡ occupies_file (section_at o 0).header
  unfolding section_at zero_shdr
  first_is = by_lists o.sections shdrs is.sections
    where
      by_lists : (cs : List Section) (hs : List ShdrRecord)
          → map (λ c. c.header) cs ≡ map shdr_from_record hs
          → first_occupies hs ≡ occupies_file (get_or cs 0 absent_section).header
      by_lists [] [] same = refl
      by_lists [] (h ∷ hs) same = cc
      by_lists (c ∷ cs) [] same = cc
      by_lists (c ∷ cs) (h ∷ hs) same =
          let first : c.header ≡ shdr_from_record h =
          ap (λ (l : List Shdr). get_or l 0 zero_shdr) same in
          ap occupies_file (sym first)

  pub counts_are : counts_refusal phdrs shdrs ≡ too_many o
  unfolding counts_refusal too_many
  counts_are =
      ap (λ (b : Bool). refused_if
      (b || ((nat_le PN_XNUM (length phdrs) && length shdrs == 0)
      || (nat_le SHN_LORESERVE (length shdrs) && first_occupies shdrs))) TooMany) within_limits
      ∙ ap (λ (n : ℕ). refused_if
      ((nat_le PN_XNUM n && length shdrs == 0)
      || (nat_le SHN_LORESERVE (length shdrs) && first_occupies shdrs)) TooMany)
      (sym segment_count)
      ∙ ap (λ (n : ℕ). refused_if
      ((nat_le PN_XNUM (length o.phdrs) && n == 0)
      || (nat_le SHN_LORESERVE n && first_occupies shdrs)) TooMany)
      (sym section_count)
      ∙ ap (λ (b : Bool). refused_if
      ((nat_le PN_XNUM (length o.phdrs) && length o.sections == 0)
      || (nat_le SHN_LORESERVE (length o.sections) && b)) TooMany) first_is

  pub segments_are : segments_refusal (class_from ehdr.class) phdrs ≡ unfit_segment o
  unfolding segments_refusal unfit_segment
  segments_are =
      ap (λ (class : Class). option_map (Unfit part.Segments)
      (position (λ p. not (phdr_fits class (phdr_from_record p))) phdrs)) class_is
      ∙ ap (option_map (Unfit part.Segments))
      (sym (position_of phdr_from_record (λ p. not (phdr_fits o.header.class p)) phdrs))
      ∙ ap (λ (l : List Phdr). option_map (Unfit part.Segments)
      (position (λ p. not (phdr_fits o.header.class p)) l)) (sym is.segments)

  -- ---- What is refused

  pub refused_counts : (e : ElfError)
      → ◌≡◌ {A = Result (Unit {0}) ElfError} (Err e) (answered (counts_refusal phdrs shdrs) tt)
      → IsRefused o e
  unfolding content_refusal
  refused_counts e told =
      refused_by_content o e is.dirty
      (first_of (too_many o) (unfit_segment o) (unfit_item o) (missing_home o) e
      (sym counts_are ∙ refused_from (counts_refusal phdrs shdrs) e told))

  pub refused_segments : (e : ElfError) → counts_refusal phdrs shdrs ≡ None
      → ◌≡◌ {A = Result (Unit {0}) ElfError} (Err e)
      (answered (segments_refusal (class_from ehdr.class) phdrs) tt)
      → IsRefused o e
  unfolding content_refusal
  refused_segments e counts told =
      refused_by_content o e is.dirty
      (second_of (too_many o) (unfit_segment o) (unfit_item o) (missing_home o) e
      (sym counts_are ∙ counts)
      (sym segments_are ∙ refused_from (segments_refusal (class_from ehdr.class) phdrs) e told))

  module _ (counts : counts_refusal phdrs shdrs ≡ None)
      (segments : segments_refusal (class_from ehdr.class) phdrs ≡ None) where
    content_is : content_refusal o ≡ None
    unfolding content_refusal
    content_is =
        none_of (too_many o) (unfit_segment o) (unfit_item o) (missing_home o)
        (sym counts_are ∙ counts) (sym segments_are ∙ segments) is.fit is.there

    pub wants : (e : ElfError) → e ≡ Memory → IsRefused o e
    wants e want = wants_as o e is.dirty content_is want

    -- ---- The listed headers are the object's

    module _ (x : HeaderListing) (lists : ListsHeaders ehdr (length phdrs) shdrs x) where
      headers_are : x.headers ≡ map (λ c. c.header) o.sections
      headers_are = lists.headers ∙ sym is.sections

      count_is : length x.headers ≡ length o.sections
      count_is =
          ap (λ (l : List Shdr). length l) headers_are
          ∙ length-map o.sections (λ (c : Section). c.header)

      header_at : (s : ℕ) → s < length o.sections
          → get_or x.headers s zero_shdr ≡ (section_at o s).header
      unfolding section_at
      header_at s there =
          ap (λ (l : List Shdr). get_or l s zero_shdr) headers_are
          ∙ get_or-map (λ (c : Section). c.header) o.sections s absent_section zero_shdr there

      -- what is listed of a section is how many bytes it has
      listed_size : (s : ℕ) → size_listed s (section_at o s).header ≡ length (file_bytes o s)
      unfolding has_file_bytes
      listed_size s = by_bytes (has_file_bytes s (section_at o s)) refl
        where
          some : (b : Bool) → (s == 0) ≡ b → has_file_bytes s (section_at o s) ≡ true
              → (if b then 0 else (if occupies_file (section_at o s).header
              then (section_at o s).header.size else 0)) ≡ (section_at o s).header.size
          some true first e =
              let clash : false ≡ true =
              sym (ap (λ (t : Bool). not t && occupies_file (section_at o s).header) first) ∙ e in
              cc
          some false first e =
              let occupies : occupies_file (section_at o s).header ≡ true =
              sym (ap (λ (t : Bool). not t && occupies_file (section_at o s).header) first) ∙ e in
              ap (λ (t : Bool). if t then (section_at o s).header.size else 0) occupies

          none : (b : Bool) → (s == 0) ≡ b → has_file_bytes s (section_at o s) ≡ false
              → (if b then 0 else (if occupies_file (section_at o s).header
              then (section_at o s).header.size else 0)) ≡ 0
          none true first e = refl
          none false first e =
              let occupies : occupies_file (section_at o s).header ≡ false =
              sym (ap (λ (t : Bool). not t && occupies_file (section_at o s).header) first) ∙ e in
              ap (λ (t : Bool). if t then (section_at o s).header.size else 0) occupies

          by_bytes : (b : Bool) → has_file_bytes s (section_at o s) ≡ b
              → size_listed s (section_at o s).header ≡ length (file_bytes o s)
          by_bytes true e = some (s == 0) refl e ∙ sym (is.sizes s e)
          by_bytes false e =
              none (s == 0) refl e ∙ sym (ap (λ (l : List ℕ). length l) (joined-none o s e))

      size_at : (s : ℕ) → s < length o.sections → get_or x.sizes s 0 ≡ length (file_bytes o s)
      size_at s there =
          let within : s < length x.headers = omega (arith, there, count_is) in
          lists.sizes.each s within
          ∙ ap (size_listed s) (header_at s there) ∙ listed_size s

      small_at : (s : ℕ) → s < length o.sections → length (file_bytes o s) < 2 ^ 64
      unfolding section_at
      small_at s there = by_bytes (has_file_bytes s (section_at o s)) refl
        where
          by_bytes : (b : Bool) → has_file_bytes s (section_at o s) ≡ b
              → length (file_bytes o s) < 2 ^ 64
          by_bytes true e =
              let section =
              All-get_or (IsSection o.header.class) o.sections s absent_section there
              is.object.sections in
              subst (λ (n : ℕ). n < 2 ^ 64) (sym (is.sizes s e)) section.header.size
          by_bytes false e =
              let none : length (file_bytes o s) ≡ 0 =
              ap (λ (l : List ℕ). length l) (joined-none o s e) in
              omega (arith, none)

      listing : IsHeaderListing o x
      listing = record {
        header = lists.header
            ∙ sym is.header;
        count = count_is;
        sized = lists.sizes.count ∙ count_is;
        headers = header_at;
        sizes = size_at;
        small = small_at;
      }

      pub laid_out : IsLaidOut o x true base
      laid_out = record {
        object = is.object;
        dirty = is.dirty;
        content = content_is;
        listed = listing;
        layout_is = is.layout;
        base_is = is.base_is;
      }
