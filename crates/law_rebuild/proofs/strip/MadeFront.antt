-- The ELF header of what is made of a program is that of the program, but for e_shoff, e_shnum and
-- e_shstrndx.
use Rattle.std.proofs.Common.{◌≡◌, ℕ, ◌*◌, ◌<◌, Bool, true, false, not, ◌&&◌, ◌||◌, List, length, take, drop, None, refl, sym, ap, ◌∙◌, inl, inr, subst, arith}
use Rattle.std.specs.Prelude.{nat_le, slice_index, if◌then◌else◌, ◌==◌}
use Rattle.std.proofs.lemmas.Bool.{cases_lt, lt-ltb, leb-false, eqb-true, ne_eqb, not-false}
use Rattle.std.proofs.lemmas.List.{length-map}
use Rattle.elf_types.specs.declared.records.Class.{Class}
use Rattle.elf_types.specs.declared.errors.ElfError.TheVariants as error
use Rattle.elf_types.specs.declared.constants.TheConstants.{PN_XNUM, SHN_XINDEX}
use Rattle.hash_model.specs.elf_xlate.Headers.{ehdr_size, phdr_size, shdr_size, phdr_of}
use Rattle.hash_model.proofs.elf_xlate.Pieces.{length_items_of}
use Rattle.hash_model.specs.elf_ident.declared.counts.Counts.{Counts}
use Rattle.hash_model.specs.elf_ident.declared.fronts.Head.{Head}
use Rattle.hash_model.specs.elf_ident.declared.fronts.Front.{Front}
use Rattle.hash_model.specs.elf_ident.Front.{needs_first, first_section, true_phnum, true_counts, lies_in, count_refusal, phdrs_at, front_at}
use Rattle.hash_model.specs.elf_ident.Reading.{IsFittingFront}
use Rattle.hash_model.specs.elf_object.Object.{Object, header_of}
use Rattle.hash_model.specs.elf_object.Open.{standing_header, opened_section, begun}
use Rattle.hash_model.specs.elf_object.Derived.{where_any, derived_header, written_phnum, written_header}
use Rattle.hash_model.specs.elf_object.Layout.{places_of, segments_place, placed_header}
use Rattle.hash_model.proofs.elf_object.PassedLaws.{passed_one}
use Rattle.law_object.proofs.OpenLaws.{IsFrontOf}
use Rattle.law_object.proofs.StandLaws.{where_some}
use Rattle.hash_model.specs.elf_object.Sections.{is_among}
use Rattle.rebuild_model.specs.Followed.{kept_sections}
use Rattle.rebuild_model.specs.Laws.{IsUsual}
use Rattle.rebuild_model.specs.Rebuilt.{rebuilt_section, rebuilt_sections}
use Rattle.law_rebuild.proofs.strip.KeptLaws.{kept_few, kept_first}
use Rattle.law_rebuild.proofs.strip.MadeObject.{stripped_over, front_kept, length-stripped}
use Rattle.law_rebuild.proofs.strip.PlaceLaws.{segments_place_stays}
use Rattle.law_rebuild.proofs.strip.HeaderBytes.{AgreeBeside}

-- ---- The count of the program headers as it is written

-- e_phnum is not PN_XNUM, and it and e_phentsize are as they are derived
record CountsStand (f : Front) : Type 0 where
  phnum : slice_index f.written 0 ≡ length f.phdrs
  phentsize : f.ehdr.phentsize ≡ phdr_size f.ehdr.class

-- where no number stands in section 0, e_phnum is the count
plain_phnum : (shoff_none index zero_count extended : Bool)
    → (not shoff_none && (zero_count || index || extended)) ≡ false
    → (extended && shoff_none) ≡ false → extended ≡ false
plain_phnum true index zero_count true h g = cc
plain_phnum false true true true h g = cc
plain_phnum false true false true h g = cc
plain_phnum false false true true h g = cc
plain_phnum false false false true h g = cc
plain_phnum shoff_none index zero_count false h g = refl

counts_of_head : (image : List ℕ) (head : Head)
    → head.counts ≡ true_counts head.header (first_section head.header image)
    → count_refusal head.header head.counts (length image) ≡ None
    → needs_first (standing_header (front_at head image)) ≡ false
    → 0 < length (front_at head image).phdrs → CountsStand (front_at head image)
unfolding front_at standing_header phdrs_at count_refusal true_phnum
counts_of_head image head counts late plain some =
    let h = head.header in
    let first = passed_one (not (lies_in (length image) head.header.shoff head.counts.shnum
    (shdr_size head.header.class))) error.ShTable _ late in
    let second = passed_one (not (head.header.phnum == 0)
    && not (head.header.phentsize == phdr_size head.header.class)) error.PhTable _ first.1 in
    let third = passed_one (head.header.phnum == PN_XNUM && head.header.shoff == 0) error.PhTable _
    second.1 in
    let count = length_items_of (phdr_of head.header.class head.header.order)
    (phdr_size head.header.class) head.counts.phnum
    (take (head.counts.phnum * phdr_size head.header.class) (drop head.header.phoff image)) in
    let extended : (head.header.phnum == PN_XNUM) ≡ false =
    plain_phnum (head.header.shoff == 0) (head.header.shstrndx == SHN_XINDEX)
    (head.header.shnum == 0) (head.header.phnum == PN_XNUM) plain third.0 in
    let stated : head.counts.phnum ≡ head.header.phnum =
    ap (λ (c : Counts). c.phnum) counts
    ∙ ap (λ (b : Bool). if b then (first_section head.header image).info else head.header.phnum)
    extended in
    let any : (head.header.phnum == 0) ≡ false =
    ne_eqb head.header.phnum 0 (λ none. omega (arith, some, count, stated, none)) in
    let sized : (not false && not (head.header.phentsize == phdr_size head.header.class)) ≡ false =
    ap (λ (b : Bool). not b && not (head.header.phentsize == phdr_size head.header.class))
    (sym any) ∙ second.0 in
    record {
      phnum = sym stated ∙ sym count;
      phentsize = eqb-true head.header.phentsize (phdr_size head.header.class)
          (not-false (head.header.phentsize == phdr_size head.header.class) sized);
    }

counts_stand : (image : List ℕ) (f : Front) → IsFrontOf image f
    → needs_first (standing_header f) ≡ false → 0 < length f.phdrs → CountsStand f
counts_stand image f is =
    subst (λ (x : Front). needs_first (standing_header x) ≡ false → 0 < length x.phdrs
    → CountsStand x) (sym is.whole)
    (λ plain some. counts_of_head image is.head is.counts is.late plain some)

-- ---- Whether there are sections

same_any : (m n size : ℕ) → (m ≡ 0 → n ≡ 0) → (0 < m → 0 < n)
    → where_any m size ≡ where_any n size
same_any m n size none some = elim (cases_lt 0 m) [
  | inl any ↦ where_some m size any ∙ sym (where_some n size (some any))
  | inr low ↦ let empty : m ≡ 0 = omega (arith, low) in
      ap (λ (k : ℕ). where_any k size) empty
      ∙ sym (ap (λ (k : ℕ). where_any k size) (none empty))
]

module _ (o : Object) (removed : List ℕ) (stays : is_among removed 0 ≡ false) where
  none_made : length o.sections ≡ 0 → length (rebuilt_sections o removed) ≡ 0
  unfolding rebuilt_sections
  none_made none =
      omega (
        arith,
        none,
        kept_few o removed,
        length-map (kept_sections o removed) (rebuilt_section o removed),
      )

  pub some_made : 0 < length o.sections → 0 < length (rebuilt_sections o removed)
  unfolding rebuilt_sections
  some_made some =
      omega (
        arith,
        length-map (kept_sections o removed) (rebuilt_section o removed),
        ap length (kept_first o removed stays some),
      )

-- ---- The header

written_few : (n : ℕ) → nat_le PN_XNUM n ≡ false → written_phnum n ≡ n
written_few n few =
    ap (λ (b : Bool). if b then n else PN_XNUM) (lt-ltb n PN_XNUM (leb-false PN_XNUM n few))

pub header_agrees : (f : Front) (image : List ℕ) (removed : List ℕ) (tail : ℕ)
    → IsFrontOf image f → IsFittingFront f → IsUsual f → is_among removed 0 ≡ false
    → nat_le PN_XNUM (length f.phdrs) ≡ false → 0 < length f.phdrs
    → AgreeBeside (standing_header f) (written_header (placed_header
    (places_of (stripped_over (begun f image) removed tail))
    (stripped_over (begun f image) removed tail)))
unfolding begun standing_header written_header placed_header derived_header header_of
header_agrees f image removed tail is fit usual stays few some =
    let q = stripped_over (begun f image) removed tail in
    let kept = front_kept (begun f image) removed tail in
    let counts = counts_stand image f is usual.numbers some in
    let as_many = ap length kept.phdrs in
    let any : 0 < length (stripped_over (begun f image) removed tail).phdrs =
    omega (arith, some, as_many) in
    let sections = length-stripped (begun f image) removed tail in
    let old = length-map f.shdrs (opened_section image) in
    record {
      class = sym kept.class;
      order = sym kept.order;
      osabi = sym kept.osabi;
      abiversion = sym kept.abiversion;
      etype = sym kept.etype;
      machine = sym kept.machine;
      version = fit.version;
      entry = sym kept.entry;
      phoff = sym (where_some (length q.phdrs) (segments_place (places_of q)) any
          ∙ segments_place_stays q kept.layout ∙ kept.phoff);
      flags = sym kept.flags;
      ehsize = usual.ehsize ∙ ap (λ (c : Class). ehdr_size c) (sym kept.class);
      phentsize = counts.phentsize ∙ ap (λ (c : Class). phdr_size c) (sym kept.class)
          ∙ sym (where_some (length q.phdrs) (phdr_size q.header.class) any);
      phnum = counts.phnum ∙ sym (ap (λ (n : ℕ). written_phnum n) as_many
          ∙ written_few (length f.phdrs) few);
      shentsize = usual.shentsize
          ∙ ap (λ (c : Class). where_any (length f.shdrs) (shdr_size c)) (sym kept.class)
          ∙ same_any (length f.shdrs) (length q.sections) (shdr_size q.header.class)
          (λ none. sections ∙ none_made (begun f image) removed stays (old ∙ none))
          (λ more. omega (
            arith,
            sections,
            some_made (begun f image) removed stays (omega (arith, more, old)),
          ));
    }
