-- Each byte that is loaded is the same in what strip writes (`LoadableBytesStay`).
use Rattle.std.proofs.Common.{◌≡◌, ℕ, zero, suc, ◌+◌, ◌<◌, ◌≤◌, Bool, true, false, not, List, [], ◌∷◌, ◌++◌, length, get_or, Option, Some, None, Result, Ok, refl, sym, ap, ◌∙◌, subst, arith}
use Rattle.std.specs.Prelude.{nat_le, if◌then◌else◌, ◌==◌, map}
use Rattle.std.proofs.lemmas.Bool.{ne_eqb, or_from}
use Rattle.std.proofs.lemmas.List.{get_or-map}
use Rattle.std.proofs.lemmas.Option.{slice_get_within, get_or_from_slice_get}
use Rattle.elf_types.specs.Answers.{answered}
use Rattle.elf_types.specs.declared.records.Phdr.{Phdr}
use Rattle.elf_types.specs.declared.errors.ElfError.{ElfError}
use Rattle.elf_types.specs.declared.errors.ElfError.TheVariants.{TooMany}
use Rattle.elf_types.specs.declared.constants.TheConstants.{PN_XNUM, PT_NULL, PT_LOAD}
use Rattle.hash_model.specs.elf_ident.declared.fronts.Front.{Front}
use Rattle.hash_model.specs.elf_ident.Front.{front}
use Rattle.hash_model.proofs.elf_ident.Refusals.{answered_ok, bind_ok}
use Rattle.hash_model.specs.elf_object.Object.{Object, Section, section_at, is_dirty}
use Rattle.hash_model.specs.elf_object.Open.{begun, begun_or_refused, opened}
use Rattle.hash_model.specs.elf_object.Image.{image as image_of}
use Rattle.hash_model.proofs.elf_object.PassedLaws.{not_refused}
use Rattle.law_object.proofs.OpenLaws.{front_known, known_fits, opened_is}
use Rattle.law_object.specs.Writing.Based.{BeginningsAreBased}
use Rattle.hash_model.specs.elf_object.Sections.{greatest}
use Rattle.rebuild_model.specs.Removed.{removed_sections}
use Rattle.rebuild_model.specs.Followed.{kept_sections}
use Rattle.rebuild_model.specs.Arranged.{Rebuilt, segment_end, loaded_end, base_end, tail_of, placed_from, tail_refusal, arranged}
use Rattle.rebuild_model.specs.Rebuilt.{rebuilt, rebuilt_tail, rebuilt_object, stripped}
use Rattle.rebuild_model.specs.Files.{file_of}
use Rattle.rebuild_model.specs.Laws.{IsLoaded, LoadableBytesStay}
use Rattle.law_rebuild.proofs.strip.KeptLaws.{first_stays}
use Rattle.law_rebuild.proofs.strip.RebuiltLaws.{rebuilt_known}
use Rattle.law_rebuild.proofs.strip.WritableLaws.{rebuilt_is_writable, begun_fits_class}
use Rattle.law_rebuild.proofs.strip.MadeObject.{stripped_over, rebuilt_over}
use Rattle.law_rebuild.proofs.strip.LoadedParts.{stripped_from, made_byte}
use Rattle.law_rebuild.proofs.strip.WrittenLaws.{written_known}

-- ---- What is loaded stands before the tail

greatest_at : (l : List ℕ) (i : ℕ) → get_or l i 0 ≤ greatest l
unfolding greatest
greatest_at [] i = omega arith
greatest_at (n ∷ l) zero = omega arith
greatest_at (n ∷ l) (suc i) = omega (arith, greatest_at l i)

greatest_front : (l m : List ℕ) → greatest l ≤ greatest (l ++ m)
unfolding greatest
greatest_front [] m = omega arith
greatest_front (n ∷ l) m = omega (arith, greatest_front l m)

-- the end of a segment that is loaded and has the place
segment_reaches : (p : Phdr) (k : ℕ) → p.ptype ≡ PT_LOAD → p.offset ≤ k
    → k < p.offset + p.filesz → k < segment_end p
segment_reaches p k load from below =
    let null : (p.ptype == PT_NULL) ≡ false =
    ne_eqb p.ptype PT_NULL (λ none. omega (arith, load, none)) in
    let empty : (p.filesz == 0) ≡ false =
    ne_eqb p.filesz 0 (λ none. omega (arith, from, below, none)) in
    let end : segment_end p ≡ p.offset + p.filesz =
    ap (λ (b : Bool). if b then 0 else p.offset + p.filesz)
    (or_from (p.ptype == PT_NULL) (p.filesz == 0) null empty) in
    omega (arith, end, below)

loaded_before : (f : Front) (image : List ℕ) (kept : List Section) (k : ℕ)
    → IsLoaded f.phdrs k → k < length image → k < base_end (begun f image) kept
unfolding base_end greatest begun
loaded_before f image kept k loaded inside =
    let there = slice_get_within f.phdrs loaded.segment loaded.phdr loaded.there in
    let end : get_or (map segment_end f.phdrs) loaded.segment 0 ≡ segment_end loaded.phdr =
    get_or-map segment_end f.phdrs loaded.segment loaded.phdr 0 there
    ∙ ap segment_end
    (get_or_from_slice_get f.phdrs loaded.segment loaded.phdr loaded.phdr loaded.there) in
    omega (
      arith,
      inside,
      end,
      segment_reaches loaded.phdr k loaded.load loaded.from loaded.below,
      greatest_at (map segment_end f.phdrs) loaded.segment,
      greatest_front (map segment_end f.phdrs) (map loaded_end kept),
    )

base_end_within : (o : Object) (kept : List Section) → base_end o kept ≤ length o.base
unfolding base_end
base_end_within o kept = omega arith

-- ---- What strip makes

-- the tail of a program
tail_is : (o : Object) (removed : List ℕ) → 0 < length o.phdrs
    → rebuilt_tail o removed
    ≡ Some (base_end o (map (section_at o) (kept_sections o removed)))
unfolding rebuilt_tail tail_of
tail_is o removed some =
    ap (λ (b : Bool).
    if not b then Some (base_end o (map (section_at o) (kept_sections o removed))) else None)
    (ne_eqb (length o.phdrs) 0 (λ none. omega (arith, some, none)))

-- the object with its places
arranged_over : (o : Object) (removed : List ℕ) (tail : ℕ) (r : Rebuilt)
    → rebuilt_tail o removed ≡ Some tail
    → arranged (record { object = rebuilt_object o removed; tail = rebuilt_tail o removed })
    ≡ Ok r
    → r.object ≡ stripped_over o removed tail
unfolding arranged
arranged_over o removed tail r is made =
    let from : answered (tail_refusal (rebuilt_object o removed) tail)
    (record { object = placed_from (rebuilt_object o removed) tail; tail = Some tail })
    ≡ Ok r =
    sym (ap (λ (t : Option ℕ).
    arranged (record { object = rebuilt_object o removed; tail = t })) is) ∙ made in
    let value = answered_ok (tail_refusal (rebuilt_object o removed) tail)
    (record { object = placed_from (rebuilt_object o removed) tail; tail = Some tail }) r from in
    sym (ap (λ (x : Rebuilt). x.object) value.1)
    ∙ ap (λ (x : Object). placed_from x tail) (rebuilt_over o removed tail is)

opened_as : (f : Front) (image : List ℕ) → front image ≡ Ok f → opened image ≡ Ok (begun f image)
unfolding opened
opened_as f image is = ap (λ (x : Result Front ElfError). begun_or_refused x image) is

made_from : (debug_only : Bool) (names : List (List ℕ)) (o : Object) (r : Rebuilt)
    → stripped debug_only names o ≡ Ok r
    → rebuilt o (removed_sections debug_only names o) ≡ Ok r
unfolding stripped
made_from debug_only names o r e = e

segments_begun : (f : Front) (image : List ℕ) → (begun f image).phdrs ≡ f.phdrs
unfolding begun
segments_begun f image = refl

base_begun : (f : Front) (image : List ℕ) → (begun f image).base ≡ image
unfolding begun
base_begun f image = refl

-- ---- The law

pub loadable_bytes_stay : BeginningsAreBased → LoadableBytesStay
loadable_bytes_stay based image f debug_only names out are is usual written k loaded inside fixed =
    let removed = removed_sections debug_only names (begun f image) in
    let known_front = front_known image f is in
    let fits = known_fits image f are known_front in
    let begins = opened_as f image is in
    let ok = opened_is image (begun f image) are begins in
    let made = bind_ok (stripped debug_only names (begun f image)) (λ r. file_of r.object) out
    written in
    let r = made.0 in
    let rebuilt_as = made_from debug_only names (begun f image) r made.1 in
    let image_is = (written_known r.object out made.2).1 in
    let known = rebuilt_known (begun f image) removed r rebuilt_as in
    let stays = first_stays.strip debug_only names (begun f image) in
    let there = slice_get_within f.phdrs loaded.segment loaded.phdr loaded.there in
    let segments = ap length (segments_begun f image) in
    let some : 0 < length f.phdrs = omega (arith, there) in
    let kept = map (section_at (begun f image)) (kept_sections (begun f image) removed) in
    let tail = base_end (begun f image) kept in
    let tail_as = tail_is (begun f image) removed (omega (arith, some, segments)) in
    let object = arranged_over (begun f image) removed tail r tail_as known.is in
    let writable = rebuilt_is_writable (begun f image) removed r ok
    (begun_fits_class f image fits.0) stays rebuilt_as in
    let few = not_refused (nat_le PN_XNUM (length (begun f image).phdrs)) TooMany known.segments in
    let both = made_byte f image removed tail k (record {
      ok = ok;
      based = based.from_image image (begun f image) are begins;
      front = known_front;
      fit = fits.0;
      usual = usual;
      stays = stays;
      few = ap (λ (l : List Phdr). nat_le PN_XNUM (length l)) (sym (segments_begun f image)) ∙ few;
      kept = known.kept;
      some = some;
      dirty = subst (λ (x : Object). is_dirty x ≡ true) object writable.dirty;
      before = loaded_before f image kept k loaded inside;
      within = omega (arith, base_end_within (begun f image) kept, ap length (base_begun f image));
      fixed = fixed;
    }) in
    let same : image_of (stripped_from f image removed tail) ≡ out =
    ap image_of (sym object) ∙ image_is in (
      omega (arith, both.0, ap length same),
      ap (λ (l : List ℕ). get_or l k 0) (sym same) ∙ both.1,
    )
