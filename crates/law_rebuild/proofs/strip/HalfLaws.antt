-- The debug half of an object, and what two halves are combined to, are objects, and an update
-- refuses them for their places alone.
use Rattle.std.proofs.Common.{◌≡◌, ℕ, zero, suc, ◌^◌, ◌<◌, Bool, true, false, not, ◌&&◌, List, [], ◌∷◌, length, get_or, Option, Some, None, Result, Ok, Err, refl, ap, ◌∙◌, subst, arith, lit<}
use Rattle.std.specs.Prelude.{IsTrue, if◌then◌else◌, ◌==◌, map}
use Rattle.std.specs.List.{range_with_len}
use Rattle.std.specs.Option.{option_map}
use Rattle.std.proofs.lemmas.Bool.{and_parts, not-false}
use Rattle.std.proofs.lemmas.List.FromFn.{length-map-range_with_len}
use Rattle.elf_types.specs.Answers.{refused_if, first_refusal}
use Rattle.elf_types.specs.declared.records.Class.{Class}
use Rattle.elf_types.specs.declared.records.Class.TheVariants.{C32, C64}
use Rattle.elf_types.specs.declared.records.Shdr.{Shdr}
use Rattle.elf_types.specs.declared.errors.ElfError.{ElfError}
use Rattle.elf_types.specs.declared.constants.TheConstants.{SHT_NOBITS}
use Rattle.hash_model.specs.elf_xlate.declared.content.Items.TheVariants as items
use Rattle.hash_model.specs.elf_xlate.Headers.{IsShdr, shdr_fits}
use Rattle.hash_model.specs.elf_xlate.Translation.{first_unfit}
use Rattle.hash_model.proofs.elf_ident.Refusals.{answered_ok, bind_ok}
use Rattle.hash_model.specs.elf_ident.Front.{zero_shdr}
use Rattle.hash_model.specs.elf_object.Object.{Object, Section, absent_section, new_section, section_at, occupies_file}
use Rattle.hash_model.specs.elf_object.Due.{all_sections}
use Rattle.hash_model.specs.elf_object.Layout.{section_numbers}
use Rattle.hash_model.specs.elf_object.Calls.{newphdr_refusal}
use Rattle.hash_model.specs.elf_object.Refusal.{unfit_segment}
use Rattle.hash_model.specs.elf_object.Valid.{IsSection, IsObject}
use Rattle.hash_model.proofs.elf_object.PassedLaws.{none_first, none_rest}
use Rattle.law_object.proofs.KeepLaws.{new_section_is, section_at_is}
use Rattle.law_object.proofs.PlacedLaws.{shdr_fits_each, shdr_fits_all}
use Rattle.law_object.proofs.RangeLaws.{each_made}
use Rattle.hash_model.specs.elf_object.Sections.{header_at}
use Rattle.rebuild_model.specs.Arranged.{Rebuilt, over_base, arranged}
use Rattle.rebuild_model.specs.Rebuilt.{made_section, assembled, index_refusal}
use Rattle.rebuild_model.specs.Split.{is_loaded_from_file, debug_section, debug_sections, debug_half, debug_raw_refusal, debug_refusal, debug_of, same_class, same_header, matches, counterpart, loaded_header, combined_section, combined_sections, combined_tail, combined_object, combined_raw_refusal, combine_fault, or_elf, unstripped}
use Rattle.rebuild_model.specs.Split.UnstripFault.{Elf, Debug, Mismatch}
use Rattle.law_rebuild.specs.Strip.Made.{IsWritable, HalvesAreWritable}
use Rattle.law_rebuild.proofs.strip.SectionLaws.{made_section_is}
use Rattle.law_rebuild.proofs.strip.ArrangedLaws.{arranged_keeps, placed_from_is}
use Rattle.law_rebuild.proofs.strip.RebuiltLaws.{over_base_is}
use Rattle.law_rebuild.proofs.strip.WritableLaws.{HasOwnPieces, HasContent, made_owned, new_owned, over_base_content, placed_content, is_writable}

-- ---- Sections by number

-- a section made of each section of another object, of which section 0 is new
module _ (f : ℕ → Section) where
  first_is_empty : (n : ℕ) → f 0 ≡ new_section
      → occupies_file (get_or (map f (range_with_len 0 n)) 0 absent_section).header ≡ false
  unfolding zero_shdr
  first_is_empty zero is = refl
  first_is_empty (suc n) is = ap (λ (c : Section). occupies_file c.header) is

-- ---- The debug half

-- a header of another type
typed_is : (class : Class) (h : Shdr) (stype : ℕ) → IsShdr h → IsTrue (shdr_fits class h)
    → stype < 2 ^ 32
    → IsShdr (record h { stype = stype }) × IsTrue (shdr_fits class (record h { stype = stype }))
unfolding shdr_fits
typed_is class h stype is fitting small = (
  record {
    name = is.name;
    stype = small;
    flags = is.flags;
    addr = is.addr;
    offset = is.offset;
    size = is.size;
    link = is.link;
    info = is.info;
    addralign = is.addralign;
    entsize = is.entsize;
  },
  fitting,
)

debug_section_is : (o : Object) (s : ℕ) → IsObject o
    → IsSection o.header.class (debug_section o s)
unfolding debug_section
debug_section_is o s ok = by_tests (s == 0) (is_loaded_from_file (header_at o s))
  where
    is : IsSection o.header.class (section_at o s)
    is = section_at_is o s ok

    by_tests : (first loaded : Bool) → IsSection o.header.class
        (if first then new_section
        else (if loaded
        then made_section (record (header_at o s) { stype = SHT_NOBITS }) (items.Bytes [])
        else made_section (header_at o s) (items.Bytes (section_at o s).raw)))
    by_tests true loaded = new_section_is o.header.class
    by_tests false true =
        let header = typed_is o.header.class (header_at o s) SHT_NOBITS is.header is.fitting
        (lit< tt) in
        made_section_is o.header.class (record (header_at o s) { stype = SHT_NOBITS })
        (items.Bytes []) header.0 header.1
    by_tests false false =
        made_section_is o.header.class (header_at o s) (items.Bytes (section_at o s).raw)
        is.header is.fitting

debug_section_owned : (o : Object) (s : ℕ) → HasOwnPieces o.header.class (debug_section o s)
unfolding debug_section first_unfit
debug_section_owned o s = by_tests (s == 0) (is_loaded_from_file (header_at o s))
  where
    by_tests : (first loaded : Bool) → HasOwnPieces o.header.class
        (if first then new_section
        else (if loaded
        then made_section (record (header_at o s) { stype = SHT_NOBITS }) (items.Bytes [])
        else made_section (header_at o s) (items.Bytes (section_at o s).raw)))
    by_tests true loaded = new_owned o.header.class
    by_tests false true =
        made_owned o.header.class (record (header_at o s) { stype = SHT_NOBITS })
        (items.Bytes []) refl
    by_tests false false =
        made_owned o.header.class (header_at o s) (items.Bytes (section_at o s).raw) refl

debug_first : (o : Object) → debug_section o 0 ≡ new_section
unfolding debug_section
debug_first o = refl

-- what is not refused, and what is made then
record IsDebug (o p : Object) : Type 0 where
  segments : newphdr_refusal (length o.phdrs) ≡ None
  index : index_refusal o (debug_sections o) o.header.shstrndx ≡ None
  is : assembled (over_base o None) o o.header.shstrndx (debug_sections o) ≡ p

debug_known : (o p : Object) → debug_of o ≡ Ok p → IsDebug o p
unfolding debug_of debug_refusal debug_half over_base
debug_known o p e =
    let index = index_refusal o (debug_sections o) o.header.shstrndx ∷ [] in
    let raw = first_refusal (map (debug_raw_refusal o) (section_numbers o)) ∷ index in
    let value = answered_ok (first_refusal (newphdr_refusal (length o.phdrs) ∷ raw))
    (debug_half o) p e in
    let rest = none_rest (newphdr_refusal (length o.phdrs)) raw value.0 in
    let last = none_rest (first_refusal (map (debug_raw_refusal o) (section_numbers o))) index rest
    in
    record {
      segments = none_first (newphdr_refusal (length o.phdrs)) raw value.0;
      index = none_first (index_refusal o (debug_sections o) o.header.shstrndx) [] last;
      is = value.1;
    }

pub debug_is_object : (o p : Object) → IsObject o → debug_of o ≡ Ok p → IsObject p
debug_is_object o p ok e =
    let known = debug_known o p e in
    let count = length-map-range_with_len (debug_section o) 0 (length o.sections) in
    let few = ok.section_count in
    subst IsObject known.is
    (over_base_is o None o.header.shstrndx (debug_sections o) ok
    (each_made (IsSection o.header.class) (debug_section o) (all_sections o)
    (λ s. debug_section_is o s ok))
    (omega (arith, count, few)) ok.header.shstrndx known.index)

debug_can_be_written : (o p : Object) → IsObject o → unfit_segment o ≡ None
    → debug_of o ≡ Ok p → IsWritable p
debug_can_be_written o p ok segments e =
    let known = debug_known o p e in
    is_writable p (subst HasContent known.is
    (over_base_content o None o.header.shstrndx (debug_sections o) known.segments
    (first_is_empty (debug_section o) (length o.sections) (debug_first o)) segments
    (each_made (HasOwnPieces o.header.class) (debug_section o) (all_sections o)
    (debug_section_owned o))))

-- ---- The two combined

class_is_same : (a b : Class) → same_class a b ≡ true → b ≡ a
class_is_same C32 C32 e = refl
class_is_same C32 C64 e = cc
class_is_same C64 C32 e = cc
class_is_same C64 C64 e = refl

-- halves that match are of one class
matched_class : (o d : Object) → matches o d ≡ true → d.header.class ≡ o.header.class
unfolding matches same_header
matched_class o d same =
    class_is_same o.header.class d.header.class
    (first_of_eight (same_class o.header.class d.header.class) _ _ _ _ _ _ _
    (and_parts _ _ (and_parts _ _ same).0).0)
  where
    first_of_eight : (a b c d e f g h : Bool)
        → (a && b && c && d && e && f && g && h) ≡ true → a ≡ true
    first_of_eight true b c d e f g h is = refl
    first_of_eight false b c d e f g h is = cc

-- the header of the debug half, with type and place of the stripped one
loaded_is : (class : Class) (h g : Shdr) → IsShdr h → IsTrue (shdr_fits class h) → IsShdr g
    → IsTrue (shdr_fits class g)
    → IsShdr (loaded_header h g) × IsTrue (shdr_fits class (loaded_header h g))
loaded_is class h g is fitting other others =
    let each = shdr_fits_each class h fitting in
    let place = shdr_fits_each class g others in (
      record {
        name = is.name;
        stype = other.stype;
        flags = is.flags;
        addr = is.addr;
        offset = other.offset;
        size = is.size;
        link = is.link;
        info = is.info;
        addralign = is.addralign;
        entsize = is.entsize;
      },
      shdr_fits_all class (loaded_header h g) (record {
        flags = each.flags;
        addr = each.addr;
        offset = place.offset;
        size = each.size;
        addralign = each.addralign;
        entsize = each.entsize;
      }),
    )

module _ (o d : Object) where
  combined_section_is : (s : ℕ) → IsObject o → IsObject d → d.header.class ≡ o.header.class
      → IsSection o.header.class (combined_section o d s)
  unfolding combined_section
  combined_section_is s ok debug same = by_tests (s == 0) (counterpart o d s)
    where
      here : IsSection o.header.class (section_at d s)
      here = subst (λ (c : Class). IsSection c (section_at d s)) same (section_at_is d s debug)

      by_tests : (first : Bool) (found : Option ℕ) → IsSection o.header.class
          (if first then new_section
          else (elim found [
            | None ↦ made_section (header_at d s) (items.Bytes (section_at d s).raw)
            | Some t ↦ made_section
                (loaded_header (header_at d s) (header_at o t))
                (items.Bytes (section_at o t).raw)
          ]))
      by_tests true found = new_section_is o.header.class
      by_tests false None =
          made_section_is o.header.class (header_at d s) (items.Bytes (section_at d s).raw)
          here.header here.fitting
      by_tests false (Some t) =
          let other = section_at_is o t ok in
          let header = loaded_is o.header.class (header_at d s) (header_at o t) here.header
          here.fitting other.header other.fitting in
          made_section_is o.header.class (loaded_header (header_at d s) (header_at o t))
          (items.Bytes (section_at o t).raw) header.0 header.1

  combined_section_owned : (s : ℕ) → HasOwnPieces o.header.class (combined_section o d s)
  unfolding combined_section first_unfit
  combined_section_owned s = by_tests (s == 0) (counterpart o d s)
    where
      by_tests : (first : Bool) (found : Option ℕ) → HasOwnPieces o.header.class
          (if first then new_section
          else (elim found [
            | None ↦ made_section (header_at d s) (items.Bytes (section_at d s).raw)
            | Some t ↦ made_section
                (loaded_header (header_at d s) (header_at o t))
                (items.Bytes (section_at o t).raw)
          ]))
      by_tests true found = new_owned o.header.class
      by_tests false None =
          made_owned o.header.class (header_at d s) (items.Bytes (section_at d s).raw) refl
      by_tests false (Some t) =
          made_owned o.header.class (loaded_header (header_at d s) (header_at o t))
          (items.Bytes (section_at o t).raw) refl

  combined_first : combined_section o d 0 ≡ new_section
  unfolding combined_section
  combined_first = refl

-- what is not refused, and what is arranged then
record IsCombined (o d : Object) (r : Rebuilt) : Type 0 where
  same : d.header.class ≡ o.header.class
  segments : newphdr_refusal (length o.phdrs) ≡ None
  index : index_refusal o (combined_sections o d) d.header.shstrndx ≡ None
  is : arranged (record { object = combined_object o d; tail = combined_tail o }) ≡ Ok r

-- faults that did not come
next_passed : {E : Type 0} (r : Option E) (rs : List (Option E)) → first_refusal (r ∷ rs) ≡ None
    → (r ≡ None) × (first_refusal rs ≡ None)
next_passed None rs h = (refl, h)
next_passed (Some e) rs h = cc

test_passed : {E : Type 0} (b : Bool) (e : E) → refused_if b e ≡ None → b ≡ false
test_passed true e h = cc
test_passed false e h = refl

as_fault : {E F : Type 0} (f : E → F) (r : Option E) → option_map f r ≡ None → r ≡ None
as_fault f None h = refl
as_fault f (Some e) h = cc

or_elf_ok : {A : Type 0} (r : Result A ElfError) (x : A) → or_elf r ≡ Ok x → r ≡ Ok x
or_elf_ok (Ok y) x e = cc
or_elf_ok (Err d) x e = cc

combined_known : (o d : Object) (r : Rebuilt) → unstripped o d ≡ Ok r → IsCombined o d r
unfolding unstripped combine_fault
combined_known o d r e =
    let made : Rebuilt = record { object = combined_object o d; tail = combined_tail o } in
    let index = option_map Debug (index_refusal o (combined_sections o d) d.header.shstrndx) ∷ []
    in
    let raw = first_refusal (map (combined_raw_refusal o d) (section_numbers d)) ∷ index in
    let segments = option_map Elf (newphdr_refusal (length o.phdrs)) ∷ raw in
    let whole = bind_ok _ (λ x. or_elf (arranged x)) r e in
    let value = answered_ok (first_refusal (refused_if (not (matches o d)) Mismatch ∷ segments))
    made whole.0 whole.1 in
    let first = next_passed (refused_if (not (matches o d)) Mismatch) segments value.0 in
    let second = next_passed (option_map Elf (newphdr_refusal (length o.phdrs))) raw first.1 in
    let third = next_passed
    (first_refusal (map (combined_raw_refusal o d) (section_numbers d))) index second.1 in
    let last = next_passed
    (option_map Debug (index_refusal o (combined_sections o d) d.header.shstrndx)) [] third.1 in
    record {
      same = matched_class o d
          (not-false (matches o d) (test_passed (not (matches o d)) Mismatch first.0));
      segments = as_fault Elf (newphdr_refusal (length o.phdrs)) second.0;
      index = as_fault Debug
          (index_refusal o (combined_sections o d) d.header.shstrndx) last.0;
      is = ap arranged value.1 ∙ or_elf_ok (arranged whole.0) r whole.2;
    }

pub combined_is_object : (o d : Object) (r : Rebuilt) → IsObject o → IsObject d
    → unstripped o d ≡ Ok r → IsObject r.object
unfolding combined_object
combined_is_object o d r ok debug e =
    let known = combined_known o d r e in
    let count = length-map-range_with_len (combined_section o d) 0 (length d.sections) in
    let few = debug.section_count in
    let is = over_base_is o (combined_tail o) d.header.shstrndx (combined_sections o d) ok
    (each_made (IsSection o.header.class) (combined_section o d) (all_sections d)
    (λ s. combined_section_is o d s ok debug known.same))
    (omega (arith, count, few)) debug.header.shstrndx known.index in
    arranged_keeps IsObject
    (record { object = combined_object o d; tail = combined_tail o }) r known.is is
    (λ tail stated passed. placed_from_is (combined_object o d) tail is passed)

combined_can_be_written : (o d : Object) (r : Rebuilt) → IsObject o → IsObject d
    → unfit_segment o ≡ None → unstripped o d ≡ Ok r → IsWritable r.object
unfolding combined_object
combined_can_be_written o d r ok debug segments e =
    let known = combined_known o d r e in
    let is = over_base_content o (combined_tail o) d.header.shstrndx (combined_sections o d)
    known.segments
    (first_is_empty (combined_section o d) (length d.sections) (combined_first o d)) segments
    (each_made (HasOwnPieces o.header.class) (combined_section o d) (all_sections d)
    (combined_section_owned o d)) in
    is_writable r.object
    (arranged_keeps HasContent
    (record { object = combined_object o d; tail = combined_tail o }) r known.is is
    (λ tail stated passed. placed_content (combined_object o d) tail is))

pub halves_are_writable : HalvesAreWritable
halves_are_writable = record { debug = debug_can_be_written; combined = combined_can_be_written }
