-- The two halves of an image are combined to what answers as the image (`HalvesCombine`).
use Rattle.std.proofs.Common.{◌≡◌, ◌≢◌, ℕ, ◌<◌, ◌≤◌, Bool, true, false, not, List, [], ◌∷◌, length, None, Ok, refl, sym, ap, ◌∙◌, subst, arith, ⊎_elim}
use Rattle.std.specs.Prelude.{All, ◌==◌, map}
use Rattle.std.proofs.lemmas.Bool.{ne_eqb, cases_lt}
use Rattle.elf_types.specs.Kinds.{section_kind}
use Rattle.elf_types.specs.declared.records.Phdr.{Phdr}
use Rattle.elf_types.specs.declared.records.Shdr.{Shdr}
use Rattle.elf_xlate.specs.declared.content.Items.TheVariants as items
use Rattle.elf_xlate.specs.Headers.{IsPhdr}
use Rattle.elf_ident.specs.Front.{zero_shdr}
use Rattle.elf_object.specs.Object.{Object, Section, absent_section, home_piece, section_at}
use Rattle.elf_object.specs.Open.{home_of, opened_section, opened}
use Rattle.elf_object.specs.Answers.{raw_refusal}
use Rattle.elf_object.specs.Derived.{numbered_shdr}
use Rattle.elf_object.specs.Layout.{places_of, placed_shdr}
use Rattle.elf_object.specs.Calls.{newphdr_refusal}
use Rattle.elf_object.specs.Settled.{settled_section, settle}
use Rattle.elf_object.specs.Valid.{as_opened}
use Rattle.law_rebuild.specs.law_object.Laws.{ReopenLaw}
use Rattle.law_rebuild.proofs.law_object.OpenLaws.{opened_is, opened_phdrs}
use Rattle.law_rebuild.proofs.law_object.StandLaws.{section_at-past}
use Rattle.elf_object.specs.Sections.{is_allocated, is_program, header_at, is_among}
use Rattle.rebuild_model.specs.Arranged.{Rebuilt}
use Rattle.rebuild_model.specs.Split.{allocated, combine_fault, unstripped}
use Rattle.rebuild_model.specs.Files.{file_of}
use Rattle.rebuild_model.specs.KeepingLaws.{IsSplit, SameSection, SameButPlaces}
use Rattle.law_rebuild.proofs.strip.HalfLaws.{combined_is_object, halves_are_writable}
use Rattle.law_rebuild.proofs.strip.MadeSections.{bytes_encoded}
use Rattle.law_rebuild.proofs.strip.RebuiltLaws.{rebuilt_known}
use Rattle.law_rebuild.proofs.strip.WrittenLaws.{opens_again}
use Rattle.law_split.specs.Halves.{origin_number, KeepsForDebug, DebugHalfKeeps, KeepsAllocated, StrippedHalfKeeps, HalvesCombine}
use Rattle.law_split.proofs.Again.{IsWrittenAs, settled_anew, written_reopened, reopened_as, front_reopened, header_reopened, section_reopened, with_size_same, section_filed}
use Rattle.law_split.proofs.Combined.{IsMadeWhole, arranged_whole}
use Rattle.law_split.proofs.CombinedSections.{not_loaded}
use Rattle.law_split.proofs.CombineFaults.{raw_none, index_none, no_fault, fault_is, made_is}
use Rattle.law_split.proofs.Counterparts.{counterpart_some, counterpart_inside}
use Rattle.law_split.proofs.DebugHalf.{debug_made, raw_passed, half_reopened, raw_or_none}
use Rattle.law_split.proofs.Inside.{reopened_bytes, debug_passes, stripped_passes}
use Rattle.law_split.proofs.Matching.{matched, debug_of_split, stripped_of_split, debug_allocated, stripped_allocated, debug_loaded, same_allocated}
use Rattle.law_split.proofs.StrippedHalf.{kept_number, stripped_reopened, phoff_again}
use Rattle.law_split.proofs.Whole.{HasRaw, section_opened, inside_from, raw_opened, opened_fits, same_headers}

-- ---- What is known of the two halves

pub record AreHalves (removed : List ℕ) (whole stripped debug : Object) : Type 0 where
  pub split : IsSplit removed whole stripped debug
  pub stays : is_among removed 0 ≡ false
  pub kept : KeepsAllocated removed whole stripped
  pub half : KeepsForDebug whole debug
  pub listed : map (origin_number whole removed) (allocated stripped) ≡ allocated debug
  pub numbers : (t : ℕ) → 1 ≤ t → t < length stripped.sections
      → (1 ≤ origin_number whole removed t)
      × (origin_number whole removed t < length whole.sections)
  pub passed : (t : ℕ) → 1 ≤ t → t < length stripped.sections
      → raw_refusal whole (origin_number whole removed t) ≡ None

pub halves_known : DebugHalfKeeps → StrippedHalfKeeps → (removed : List ℕ)
    (whole stripped debug : Object) → IsSplit removed whole stripped debug
    → is_among removed 0 ≡ false → AreHalves removed whole stripped debug
halves_known debug_keeps stripped_keeps removed whole stripped debug is stays =
    let kept = stripped_keeps removed whole stripped
    (stripped_of_split removed whole stripped debug is stays) in
    let half = debug_keeps whole debug (debug_of_split removed whole stripped debug is) in
    let known = rebuilt_known whole removed is.made is.is_made in
    let count = kept.count in
    record {
      split = is;
      stays = stays;
      kept = kept;
      half = half;
      listed = stripped_allocated removed whole stripped kept stays is.allocated_stay
          ∙ sym (debug_allocated whole debug half);
      numbers = λ t from below.
          let number = kept_number whole removed t stays known.kept from
          (omega (arith, below, count)) in
          (number.from, number.below);
      passed = λ t from below.
          (kept_number whole removed t stays known.kept from (omega (arith, below, count))).passed;
    }

-- the bytes of each section of the image are there
pub whole_raw : (removed : List ℕ) (whole stripped debug : Object)
    → AreHalves removed whole stripped debug → (s : ℕ) → 1 ≤ s → s < length whole.sections
    → HasRaw whole s
whole_raw removed whole stripped debug are s from below =
    raw_opened split.image whole s (opened_is split.image whole split.bytes split.is_whole)
    split.is_whole below
    (inside_from whole s (by_flags (is_allocated (header_at whole s)) refl))
  where
    split : IsSplit removed whole stripped debug
    split = are.split

    flags : is_allocated (header_at debug s) ≡ is_allocated (header_at whole s)
    flags = same_allocated (header_at debug s) (header_at whole s)
        (debug_loaded (header_at debug s) (header_at whole s)
        (are.half.headers s from below)).flags

    by_flags : (b : Bool) → is_allocated (header_at whole s) ≡ b → raw_refusal whole s ≡ None
    by_flags true e =
        let count = are.half.count in
        let other = counterpart_some removed whole stripped debug s are.listed from
        (omega (arith, below, count)) (flags ∙ e) in
        subst (λ (n : ℕ). raw_refusal whole n ≡ None) other.origin
        (are.passed other.number other.from other.below)
    by_flags false e =
        raw_passed whole s (debug_made whole split.half split.is_half).raw from below
        (not_loaded (header_at whole s) e)

-- ---- Nothing but a place is refused

pub fault_none : ((o : Object) → ReopenLaw o) → (removed : List ℕ) (whole stripped debug : Object)
    → AreHalves removed whole stripped debug → combine_fault stripped debug ≡ None
fault_none reopens removed whole stripped debug are =
    let split = are.split in
    let known = rebuilt_known whole removed split.made split.is_made in
    let one = stripped_of_split removed whole stripped debug split are.stays in
    let other = debug_of_split removed whole stripped debug split in
    let written = stripped_reopened removed whole stripped one in
    let ok = opened_is split.out stripped
    (reopened_bytes split.made.object split.out stripped written) split.is_stripped in
    let count = are.half.count in
    no_fault stripped debug
    (matched removed whole stripped debug are.kept are.half are.stays split.allocated_stay
    are.numbers)
    (ap (λ (l : List Phdr). newphdr_refusal (length l)) are.kept.phdrs ∙ known.segments)
    (λ s from below.
    raw_none stripped debug s
    (debug_passes reopens whole debug s other from (omega (arith, below, count)))
    (λ t is.
    let at = counterpart_inside stripped debug s t is in
    stripped_passes reopens removed whole stripped t one at.0 at.1))
    (index_none whole stripped debug ok are.half.count (sym are.half.header.shstrndx)
    (debug_made whole split.half split.is_half).index)

-- ---- What is written, opened again

combined_written : (removed : List ℕ) (whole stripped debug : Object) (r : Rebuilt)
    (out : List ℕ) → AreHalves removed whole stripped debug
    → unstripped stripped debug ≡ Ok r → file_of r.object ≡ Ok out
    → whole.phdrs ≡ r.object.phdrs → IsWrittenAs r.object out
combined_written removed whole stripped debug r out are e written phdrs =
    let split = are.split in
    let one = stripped_reopened removed whole stripped
    (stripped_of_split removed whole stripped debug split are.stays) in
    let other = half_reopened whole debug (debug_of_split removed whole stripped debug split) in
    let bytes = reopened_bytes split.made.object split.out stripped one in
    let debug_bytes = reopened_bytes split.half split.debug_out debug other in
    let ok = opened_is split.out stripped bytes split.is_stripped in
    let debug_ok = opened_is split.debug_out debug debug_bytes split.is_debug in
    let fits = opened_fits split.out stripped bytes split.is_stripped in
    record {
      ok = combined_is_object stripped debug r ok debug_ok e;
      phdrs = subst (λ (l : List Phdr). All IsPhdr l) phdrs
          (opened_phdrs split.image whole split.bytes split.is_whole);
      dirty = (halves_are_writable.combined stripped debug r ok debug_ok fits.segments e).dirty;
      written = written;
    }

-- section 0 has nothing but numbers
stored_zero : (q : Object)
    → record (placed_shdr (places_of q) q 0 zero_shdr) { size = 0; link = 0; info = 0 } ≡ zero_shdr
unfolding placed_shdr numbered_shdr zero_shdr
stored_zero q = refl

absent_zero : record absent_section.header { size = 0; link = 0; info = 0 } ≡ zero_shdr
unfolding zero_shdr
absent_zero = refl

first_again : (whole q p : Object) → IsMadeWhole whole q → p ≡ as_opened (settled_anew q)
    → record (header_at p 0) { size = 0; link = 0; info = 0 } ≡ zero_shdr
unfolding settled_section
first_again whole q p made again = ⊎_elim
    (λ some.
    ap (λ (c : Section). record c.header { size = 0; link = 0; info = 0 })
    (section_reopened q p 0 again some)
    ∙ ap (λ (h : Shdr).
    record (placed_shdr (places_of q) q 0 h) { size = 0; link = 0; info = 0 }) made.first
    ∙ stored_zero q)
    (λ none.
    let count = (front_reopened q p again).count in
    ap (λ (c : Section). record c.header { size = 0; link = 0; info = 0 })
    (section_at-past p 0 (omega (arith, none, count)))
    ∙ absent_zero)
    (cases_lt 0 (length q.sections))

kind_opened : (image : List ℕ) (h : Shdr) → (opened_section image h).home.kind ≡ section_kind h
unfolding opened_section home_of
kind_opened image h = refl

pieces_opened : (image : List ℕ) (h : Shdr) → (opened_section image h).pieces ≡ home_piece ∷ []
unfolding opened_section
pieces_opened image h = refl

kind_anywhere : (h : Shdr) (place : ℕ)
    → section_kind (record h { offset = place }) ≡ section_kind h
unfolding section_kind
kind_anywhere h place = refl

section_combined : (image : List ℕ) (whole q p : Object) (s : ℕ) → opened image ≡ Ok whole
    → IsMadeWhole whole q → p ≡ as_opened (settled_anew q) → HasRaw whole s
    → 1 ≤ s → s < length whole.sections
    → SameSection (is_program whole) (section_at whole s) (section_at p s)
section_combined image whole q p s is_whole made again raw from below =
    let origin = made.sections s from below in
    let here = section_opened image whole s is_whole below in
    let filed = section_filed q p s (record (header_at whole s) { offset = origin.place })
    (items.Bytes (section_at whole s).raw) (section_at whole s).raw again from
    (omega (arith, below, made.count)) origin.is
    (bytes_encoded q.header.class q.header.order (section_at whole s).raw raw.bytes) in
    record {
      header = sym (filed.header
          ∙ with_size_same (header_at whole s) (section_at whole s).raw raw.filled);
      place = λ program allocated.
          sym (filed.place (made.layout program) ∙ origin.stays program allocated);
      kind = ap (λ (c : Section). c.home.kind) here
          ∙ kind_opened image (header_at whole s)
          ∙ sym (kind_anywhere (header_at whole s) origin.place)
          ∙ sym filed.kind;
      raw = sym (filed.raw ∙ raw_or_none whole s raw);
      pieces = ap (λ (c : Section). c.pieces) here
          ∙ pieces_opened image (header_at whole s)
          ∙ sym filed.pieces;
    }

-- program headers make a program
some_program : (l : List Phdr) → l ≢ [] → (length l == 0) ≡ false
some_program [] some = absurd (some refl)
some_program (p ∷ l) some = ne_eqb (length (p ∷ l)) 0 (λ none. omega (arith, none))

pub whole_again : ((o : Object) → ReopenLaw o) → (removed : List ℕ)
    (whole stripped debug : Object) (r : Rebuilt) (out : List ℕ) (o : Object)
    → AreHalves removed whole stripped debug → unstripped stripped debug ≡ Ok r
    → file_of r.object ≡ Ok out → opened out ≡ Ok o → IsMadeWhole whole r.object
    → SameButPlaces whole o
whole_again reopens removed whole stripped debug r out o are e written again made =
    let reopened = written_reopened r.object out o
    (combined_written removed whole stripped debug r out are e written (sym made.phdrs)) again in
    let settled = reopened_as reopens r.object out o reopened in
    let front = front_reopened r.object o settled in
    let header = header_reopened r.object o reopened.ok front in
    record {
      header = same_headers whole.header r.object.header o.header made.header header;
      phoff = λ some.
          let any = some_program whole.phdrs some in
          let program : is_program whole ≡ true = ap not any in
          sym (phoff_again r.object o front
          (ap (λ (l : List Phdr). length l == 0) made.phdrs ∙ any) (made.layout program)
          ∙ made.phoff program);
      phdrs = sym (front.phdrs ∙ made.phdrs);
      count = sym (front.count ∙ made.count);
      first = first_again whole r.object o made settled;
      sections = λ s from below.
          section_combined are.split.image whole r.object o s are.split.is_whole made settled
          (whole_raw removed whole stripped debug are s from below) from below;
    }

-- ---- The law

pub halves_combine : ((o : Object) → ReopenLaw o) → DebugHalfKeeps → StrippedHalfKeeps
    → HalvesCombine
halves_combine reopens debug_keeps stripped_keeps removed whole stripped debug is stays =
    let are = halves_known debug_keeps stripped_keeps removed whole stripped debug is stays in
    let none = fault_none reopens removed whole stripped debug are in
    let made : (r : Rebuilt) → unstripped stripped debug ≡ Ok r → IsMadeWhole whole r.object =
    λ r e. arranged_whole removed whole stripped debug r are.kept are.half are.listed
    (made_is stripped debug r none e) in
    record {
      refused = λ fault e. fault_is stripped debug fault none e;
      opens = λ r out e written.
          let w = combined_written removed whole stripped debug r out are e written
          (sym (made r e).phdrs) in (
            as_opened (settle r.object),
            opens_again reopens r.object out w.ok w.phdrs w.dirty written,
          );
      same = λ r out o e written again.
          whole_again reopens removed whole stripped debug r out o are e written again (made r e);
    }
