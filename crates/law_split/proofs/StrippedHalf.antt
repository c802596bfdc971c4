-- What is made of an image without some sections, written and opened again, has of the image
-- (`StrippedHalfKeeps`).
use Rattle.std.proofs.Common.{◌≡◌, ℕ, zero, suc, ◌-◌, ◌<◌, ◌≤◌, Bool, true, false, not, List, [], ◌∷◌, length, get_or, Option, None, Ok, refl, sym, ap, ◌∙◌, subst, arith}
use Rattle.std.specs.Prelude.{All, if◌then◌else◌, ◌==◌, map}
use Rattle.std.proofs.lemmas.Bool.{ne_eqb}
use Rattle.std.proofs.lemmas.List.{length-map, get_or-map}
use Rattle.std.proofs.lemmas.List.Elements.{All-get_or}
use Rattle.elf_types.specs.Answers.{first_refusal}
use Rattle.elf_types.specs.Lists.{AreBytes}
use Rattle.elf_types.specs.declared.records.Ehdr.{Ehdr}
use Rattle.elf_types.specs.declared.records.Phdr.{Phdr}
use Rattle.elf_types.specs.declared.records.Shdr.{Shdr}
use Rattle.elf_types.specs.declared.errors.ElfError.{ElfError}
use Rattle.elf_xlate.specs.declared.content.Items.{Items}
use Rattle.elf_xlate.specs.Headers.{IsPhdr}
use Rattle.elf_xlate.specs.Translation.{encoded}
use Rattle.elf_object.specs.Object.{Object, Section, absent_section, new_section, section_at, occupies_file}
use Rattle.elf_object.specs.Open.{opened}
use Rattle.elf_object.specs.Derived.{derived_header}
use Rattle.elf_object.specs.Layout.{places_of, segments_place, placed_header}
use Rattle.elf_object.specs.Object.{header_of}
use Rattle.elf_object.specs.Steps.{with_ehdr, with_phdrs}
use Rattle.elf_object.specs.Answers.{raw_refusal, data_refusal}
use Rattle.elf_object.specs.Valid.{as_opened}
use Rattle.elf_object.proofs.PassedLaws.{none_first, none_rest}
use Rattle.law_rebuild.specs.law_object.Laws.{ReopenLaw}
use Rattle.law_rebuild.proofs.law_object.OpenLaws.{opened_is, opened_phdrs}
use Rattle.elf_object.specs.Sections.{is_allocated, is_program, header_at, is_among}
use Rattle.rebuild_model.specs.Followed.{kept_sections, kept_from_1, followed_header}
use Rattle.rebuild_model.specs.Arranged.{Rebuilt, placed_from}
use Rattle.rebuild_model.specs.Rebuilt.{rebuilt_index, items_follow, kept_refusal, made_section, rebuilt_items, rebuilt_header, rebuilt_section, rebuilt_sections, rebuilt_tail, rebuilt_object, rebuilt, assembled}
use Rattle.rebuild_model.specs.Files.{file_of}
use Rattle.rebuild_model.specs.KeepingLaws.{SameHeader}
use Rattle.law_rebuild.proofs.strip.ArrangedLaws.{arranged_keeps}
use Rattle.law_rebuild.proofs.strip.KeptLaws.{IsInRange, kept_few, kept_first, kept_in_range}
use Rattle.law_rebuild.proofs.strip.MadeSections.{allocated_items, allocated_kept, bytes_encoded}
use Rattle.law_rebuild.proofs.strip.PlaceLaws.{segments_place_stays}
use Rattle.law_rebuild.proofs.strip.RebuiltLaws.{rebuilt_known, rebuilt_is_object}
use Rattle.law_rebuild.proofs.strip.WritableLaws.{rebuilt_is_writable}
use Rattle.law_split.specs.Halves.{without_place, without_index, without_links, origin_number, IsStrippedHalf, StrippedHalfKeeps}
use Rattle.law_split.proofs.Again.{IsWrittenAs, ReopensAs, HasFront, IsFiled, settled_anew, with_size, with_size_same, written_reopened, reopened_as, front_reopened, header_reopened, section_filed}
use Rattle.law_split.proofs.DebugHalf.{raw_or_none}
use Rattle.law_split.proofs.Placed.{HasFrontOf, IsMadeAs, assembled_front, assembled_laid, placed_front, made_as, made_as_when_placed}
use Rattle.law_split.proofs.Whole.{HasRaw, inside_from, raw_opened, opened_fits, same_headers, reindexed}

-- ---- Which section is made of which

-- each kept refusal that did not come
kept_passes : (f : ℕ → Option ElfError) (l : List ℕ) (i d : ℕ) → first_refusal (map f l) ≡ None
    → i < length l → f (get_or l i d) ≡ None
kept_passes f l i d none below = by_list l i none below
  where
    by_list : (l : List ℕ) (i : ℕ) → first_refusal (map f l) ≡ None → i < length l
        → f (get_or l i d) ≡ None
    by_list [] i none below = absurd (omega (arith, below))
    by_list (x ∷ l) zero none below = none_first (f x) (map f l) none
    by_list (x ∷ l) (suc i) none below =
        by_list l i (none_rest (f x) (map f l) none) (omega (arith, below))

raw_first : (o : Object) (removed : List ℕ) (s : ℕ) → kept_refusal o removed s ≡ None
    → raw_refusal o s ≡ None
unfolding kept_refusal
raw_first o removed s passed =
    none_first (raw_refusal o s)
    ((if items_follow o removed s then data_refusal o s 0 else None) ∷ []) passed

-- a kept section by its new number
pub record IsOrigin (o : Object) (removed : List ℕ) (t : ℕ) : Type 0 where
  pub from : 1 ≤ origin_number o removed t
  pub below : origin_number o removed t < length o.sections
  pub passed : raw_refusal o (origin_number o removed t) ≡ None

pub kept_number : (o : Object) (removed : List ℕ) (t : ℕ) → is_among removed 0 ≡ false
    → first_refusal (map (kept_refusal o removed) (kept_from_1 o removed)) ≡ None
    → 1 ≤ t → t < length (kept_sections o removed) → IsOrigin o removed t
kept_number o removed t stays passed from below =
    let few = kept_few o removed in
    let first = kept_first o removed stays (omega (arith, few, below)) in
    let long = ap length first in
    let inside : t - 1 < length (kept_from_1 o removed) = omega (arith, from, below, long) in
    let next : t ≡ suc (t - 1) = omega (arith, from) in
    let at : get_or (kept_sections o removed) t 0 ≡ get_or (kept_from_1 o removed) (t - 1) 0 =
    ap (λ (l : List ℕ). get_or l t 0) first
    ∙ ap (λ (i : ℕ). get_or (0 ∷ kept_from_1 o removed) i 0) next in
    let within = All-get_or (λ s. IsInRange 1 (length o.sections) s) (kept_from_1 o removed) (t - 1)
    0 inside (kept_in_range o removed) in
    let raw = raw_first o removed (get_or (kept_from_1 o removed) (t - 1) 0)
    (kept_passes (kept_refusal o removed) (kept_from_1 o removed) (t - 1) 0 passed inside) in
    record {
      from = subst (λ (n : ℕ). 1 ≤ n) (sym at) within.0;
      below = subst (λ (n : ℕ). n < length o.sections) (sym at) within.1;
      passed = subst (λ (n : ℕ). raw_refusal o n ≡ None) (sym at) raw;
    }

section_rebuilt : (o : Object) (removed : List ℕ) (s : ℕ) → 1 ≤ s
    → rebuilt_section o removed s
    ≡ made_section (rebuilt_header o removed s) (rebuilt_items o removed s)
unfolding rebuilt_section
section_rebuilt o removed s from =
    ap (λ (b : Bool). if b then new_section
    else made_section (rebuilt_header o removed s) (rebuilt_items o removed s))
    (ne_eqb s 0 (λ none. omega (arith, from, none)))

rebuilt_at : (o : Object) (removed : List ℕ) (t : ℕ) → t < length (kept_sections o removed)
    → section_at (rebuilt_object o removed) t
    ≡ rebuilt_section o removed (origin_number o removed t)
unfolding section_at rebuilt_object rebuilt_sections assembled with_ehdr with_phdrs
rebuilt_at o removed t below =
    get_or-map (rebuilt_section o removed) (kept_sections o removed) t 0 absent_section below

-- ---- What is made, with its places or without

pub record IsMadeWithout (o : Object) (removed : List ℕ) (q : Object) : Type 0 where
  pub header : SameHeader (without_index o.header) (without_index q.header)
  pub phoff : q.header.phoff ≡ o.header.phoff
  pub phdrs : q.phdrs ≡ o.phdrs
  pub count : length q.sections ≡ length (kept_sections o removed)
  pub layout : is_program o ≡ true → q.layout ≡ true
  pub sections : (t : ℕ) → 1 ≤ t → t < length (kept_sections o removed)
      → 1 ≤ origin_number o removed t
      → IsMadeAs (Unit {0}) (section_at q t) (rebuilt_header o removed (origin_number o removed t))
      (rebuilt_items o removed (origin_number o removed t))

rebuilt_front : (o : Object) (removed : List ℕ)
    → HasFrontOf o (rebuilt_index o removed) (rebuilt_sections o removed)
    (rebuilt_object o removed)
unfolding rebuilt_object
rebuilt_front o removed =
    assembled_front o (rebuilt_tail o removed) (rebuilt_index o removed)
    (rebuilt_sections o removed)

rebuilt_laid : (o : Object) (removed : List ℕ) → is_program o ≡ true
    → (rebuilt_object o removed).layout ≡ true
unfolding rebuilt_object rebuilt_tail
rebuilt_laid o removed program =
    assembled_laid o (map (section_at o) (kept_sections o removed)) (rebuilt_index o removed)
    (rebuilt_sections o removed) program

unindexed : (a b : Ehdr) → SameHeader a b → SameHeader (without_index a) (without_index b)
unindexed a b same = reindexed a b 0 0 same refl

rebuilt_count : (o : Object) (removed : List ℕ)
    → length (rebuilt_object o removed).sections ≡ length (kept_sections o removed)
unfolding rebuilt_object rebuilt_sections assembled with_ehdr with_phdrs
rebuilt_count o removed = length-map (kept_sections o removed) (rebuilt_section o removed)

rebuilt_made : (o : Object) (removed : List ℕ) → IsMadeWithout o removed (rebuilt_object o removed)
rebuilt_made o removed =
    let front = rebuilt_front o removed in
    record {
      header = unindexed (record o.header { shstrndx = rebuilt_index o removed })
          (rebuilt_object o removed).header front.header;
      phoff = front.phoff;
      phdrs = front.phdrs;
      count = rebuilt_count o removed;
      layout = rebuilt_laid o removed;
      sections = λ t from below number.
          subst (λ (c : Section). IsMadeAs (Unit {0}) c
          (rebuilt_header o removed (origin_number o removed t))
          (rebuilt_items o removed (origin_number o removed t)))
          (sym (rebuilt_at o removed t below
          ∙ section_rebuilt o removed (origin_number o removed t) number))
          (made_as (Unit {0}) (rebuilt_header o removed (origin_number o removed t))
          (rebuilt_items o removed (origin_number o removed t)));
    }

placed_made : (o : Object) (removed : List ℕ) (q : Object) (tail : ℕ) → IsMadeWithout o removed q
    → IsMadeWithout o removed (placed_from q tail)
placed_made o removed q tail made =
    let front = placed_front q tail in
    record {
      header = same_headers (without_index o.header) (without_index q.header)
          (without_index (placed_from q tail).header) made.header
          (unindexed q.header (placed_from q tail).header front.header);
      phoff = front.phoff ∙ made.phoff;
      phdrs = front.phdrs ∙ made.phdrs;
      count = front.count ∙ made.count;
      layout = λ program. front.layout ∙ made.layout program;
      sections = λ t from below number.
          made_as_when_placed (Unit {0}) q tail t (rebuilt_header o removed (origin_number o removed t))
          (rebuilt_items o removed (origin_number o removed t)) (omega (arith, below, made.count))
          (made.sections t from below number);
    }

pub made_without : (o : Object) (removed : List ℕ) (r : Rebuilt) → rebuilt o removed ≡ Ok r
    → IsMadeWithout o removed r.object
made_without o removed r e =
    let known = rebuilt_known o removed r e in
    arranged_keeps (IsMadeWithout o removed)
    (record { object = rebuilt_object o removed; tail = rebuilt_tail o removed }) r known.is
    (rebuilt_made o removed)
    (λ tail stated passed. placed_made o removed (rebuilt_object o removed) tail
    (rebuilt_made o removed))

-- ---- Written and opened again

pub stripped_written : (removed : List ℕ) (whole : Object) (image : List ℕ) (r : Rebuilt)
    (out : List ℕ) → AreBytes image → opened image ≡ Ok whole → is_among removed 0 ≡ false
    → rebuilt whole removed ≡ Ok r → file_of r.object ≡ Ok out → IsWrittenAs r.object out
stripped_written removed whole image r out bytes is_whole stays is_made is_out =
    let ok = opened_is image whole bytes is_whole in
    let fits = opened_fits image whole bytes is_whole in
    let made = made_without whole removed r is_made in
    record {
      ok = rebuilt_is_object whole removed r ok is_made;
      phdrs = subst (λ (l : List Phdr). All IsPhdr l) (sym made.phdrs)
          (opened_phdrs image whole bytes is_whole);
      dirty = (rebuilt_is_writable whole removed r ok fits stays is_made).dirty;
      written = is_out;
    }

pub stripped_reopened : (removed : List ℕ) (whole stripped : Object)
    (is : IsStrippedHalf removed whole stripped) → ReopensAs is.made.object is.out stripped
stripped_reopened removed whole stripped is =
    written_reopened is.made.object is.out stripped
    (stripped_written removed whole is.image is.made is.out is.bytes is.is_whole is.first_stays
    is.is_made is.is_out)
    is.is_stripped

-- ---- Headers

header_flags : (o : Object) (removed : List ℕ) (s place : ℕ) (bytes : List ℕ)
    → (with_size (record (rebuilt_header o removed s) { offset = place }) bytes).flags
    ≡ (header_at o s).flags
unfolding rebuilt_header followed_header
header_flags o removed s place bytes = refl

header_links : (o : Object) (removed : List ℕ) (s place : ℕ) (bytes : List ℕ)
    → (occupies_file (header_at o s) ≡ true → length bytes ≡ (header_at o s).size)
    → without_links (without_place
    (with_size (record (rebuilt_header o removed s) { offset = place }) bytes))
    ≡ without_links (header_at o s)
unfolding rebuilt_header followed_header
header_links o removed s place bytes long =
    ap (λ (h : Shdr). without_links h) (with_size_same (header_at o s) bytes long)

type_kept : (o : Object) (removed : List ℕ) (s place : ℕ)
    → occupies_file (record (rebuilt_header o removed s) { offset = place })
    ≡ occupies_file (header_at o s)
unfolding rebuilt_header followed_header
type_kept o removed s place = refl

offset_same : (o : Object) (removed : List ℕ) (s : ℕ)
    → (rebuilt_header o removed s).offset ≡ (header_at o s).offset
unfolding rebuilt_header followed_header
offset_same o removed s = refl

-- ---- The law

module _ (whole stripped q : Object) (removed : List ℕ) (made : IsMadeWithout whole removed q)
    (again : stripped ≡ as_opened (settled_anew q)) (t : ℕ) (from : 1 ≤ t)
    (below : t < length (kept_sections whole removed)) (kept : IsOrigin whole removed t) where
  abbrev number : ℕ
  number = origin_number whole removed t

  abbrev origin : IsMadeAs (Unit {0}) (section_at q t) (rebuilt_header whole removed number)
      (rebuilt_items whole removed number)
  origin = made.sections t from below kept.from

  pub filed : (bytes : List ℕ)
      → encoded q.header.class q.header.order (rebuilt_items whole removed number) ≡ bytes
      → IsFiled q stripped t
      (record (rebuilt_header whole removed number) { offset = origin.place })
      bytes
  filed bytes coded =
      section_filed q stripped t
      (record (rebuilt_header whole removed number) { offset = origin.place })
      (rebuilt_items whole removed number) bytes again from (omega (arith, below, made.count))
      origin.is coded

  flags_again : (header_at stripped t).flags ≡ (header_at whole number).flags
  flags_again =
      let bytes = encoded q.header.class q.header.order (rebuilt_items whole removed number) in
      ap (λ (h : Shdr). h.flags) (filed bytes refl).header
      ∙ header_flags whole removed number origin.place bytes

  allocated_filed : is_allocated (header_at whole number) ≡ true → HasRaw whole number
      → IsFiled q stripped t
      (record (rebuilt_header whole removed number) { offset = origin.place })
      (section_at whole number).raw
  allocated_filed allocated raw =
      filed (section_at whole number).raw
      (ap (λ (l : Items). encoded q.header.class q.header.order l)
      (allocated_items whole removed number allocated)
      ∙ bytes_encoded q.header.class q.header.order (section_at whole number).raw raw.bytes)

  header_kept : is_allocated (header_at whole number) ≡ true → HasRaw whole number
      → without_links (header_at stripped t) ≡ without_links (header_at whole number)
  header_kept allocated raw =
      ap (λ (h : Shdr). without_links h) (allocated_filed allocated raw).header
      ∙ header_links whole removed number origin.place (section_at whole number).raw raw.filled

  raw_kept : is_allocated (header_at whole number) ≡ true → HasRaw whole number
      → (section_at stripped t).raw ≡ (section_at whole number).raw
  raw_kept allocated raw =
      (allocated_filed allocated raw).raw
      ∙ ap (λ (b : Bool). if b then (section_at whole number).raw else [])
      (type_kept whole removed number origin.place)
      ∙ raw_or_none whole number raw

  place_kept : is_program whole ≡ true → is_allocated (header_at whole number) ≡ true
      → HasRaw whole number
      → (header_at stripped t).offset ≡ (header_at whole number).offset
  place_kept program allocated raw =
      (allocated_filed allocated raw).place (made.layout program)
      ∙ origin.stays tt (allocated_kept whole removed number ∙ allocated)
      ∙ offset_same whole removed number

-- the place of the program headers
pub phoff_again : (q p : Object) → HasFront q p → (length q.phdrs == 0) ≡ false → q.layout ≡ true
    → p.header.phoff ≡ q.header.phoff
unfolding placed_header derived_header header_of
phoff_again q p front some layout =
    ap (λ (h : Ehdr). h.phoff) front.header
    ∙ ap (λ (b : Bool). if b then 0 else segments_place (places_of q)) some
    ∙ segments_place_stays q layout

pub stripped_half_keeps : ((o : Object) → ReopenLaw o) → StrippedHalfKeeps
stripped_half_keeps reopens removed whole stripped is =
    let ok = opened_is is.image whole is.bytes is.is_whole in
    let known = rebuilt_known whole removed is.made is.is_made in
    let made = made_without whole removed is.made is.is_made in
    let written = stripped_reopened removed whole stripped is in
    let again = reopened_as reopens is.made.object is.out stripped written in
    let front = front_reopened is.made.object stripped again in
    let header = header_reopened is.made.object stripped written.ok front in
    let count : length stripped.sections ≡ length (kept_sections whole removed) =
    front.count ∙ made.count in
    let below : (t : ℕ) → t < length stripped.sections → t < length (kept_sections whole removed) =
    λ t inside. omega (arith, inside, count) in
    let kept : (t : ℕ) → 1 ≤ t → t < length stripped.sections → IsOrigin whole removed t =
    λ t from inside.
    kept_number whole removed t is.first_stays known.kept from (below t inside) in
    let raw : (t : ℕ) → 1 ≤ t → t < length stripped.sections
    → HasRaw whole (origin_number whole removed t) =
    λ t from inside.
    let k = kept t from inside in
    raw_opened is.image whole (origin_number whole removed t) ok is.is_whole k.below
    (inside_from whole (origin_number whole removed t) k.passed) in
    record {
      header = same_headers (without_index whole.header) (without_index is.made.object.header)
          (without_index stripped.header) made.header
          (unindexed is.made.object.header stripped.header header);
      phoff = λ program. phoff_again is.made.object stripped front
          (ap (λ (l : List Phdr). length l == 0) made.phdrs ∙ not_true (length whole.phdrs == 0)
          program)
          (made.layout program)
          ∙ made.phoff;
      phdrs = front.phdrs ∙ made.phdrs;
      count = count;
      flags = λ t from inside.
          flags_again whole stripped is.made.object removed made again t from (below t inside)
          (kept t from inside);
      headers = λ t from inside allocated.
          header_kept whole stripped is.made.object removed made again t from (below t inside)
          (kept t from inside) allocated (raw t from inside);
      raw = λ t from inside allocated.
          raw_kept whole stripped is.made.object removed made again t from (below t inside)
          (kept t from inside) allocated (raw t from inside);
      places = λ t from inside program allocated.
          place_kept whole stripped is.made.object removed made again t from (below t inside)
          (kept t from inside) program allocated (raw t from inside);
    }
  where
    not_true : (b : Bool) → not b ≡ true → b ≡ false
    not_true true e = cc
    not_true false e = refl
