-- Headers that fit their class, and the front that is held of them.
use Rattle.std.proofs.Common.{◌≡◌, ◌⊎◌, inl, inr, ℕ, ◌+◌, ◌-◌, ◌<◌, true, false, List, [], ◌∷◌, length, get_or, refl, sym, ap, ◌∙◌, subst, arith}
use Rattle.std.specs.Prelude.{map}
use Rattle.std.specs.List.{range_with_len}
use Rattle.std.proofs.lemmas.List.{get_or_default, length-append}
use Rattle.std.proofs.lemmas.List.Elements.{All-get_or}
use Rattle.std.proofs.lemmas.List.FromFn.{length-map-range_with_len}
use Rattle.elf_types.specs.declared.records.Class.{Class}
use Rattle.elf_types.specs.declared.records.Ehdr.{Ehdr}
use Rattle.elf_types.specs.declared.records.Phdr.{Phdr}
use Rattle.elf_types.specs.declared.records.Shdr.{Shdr}
use Rattle.elf_types.specs.declared.errors.ElfError.{ElfError}
use Rattle.elf_types.specs.declared.errors.ElfError.TheVariants.{Memory}
use Rattle.rebuild_model.specs.elf_ident.Front.{zero_shdr}
use Rattle.elf_layout.specs.declared.parts.Places.{Places}
use Rattle.elf_xlate.specs.Headers.{ehdr_fits, phdr_fits, shdr_fits}
use Rattle.rebuild_model.specs.elf_object.Object.{Object, header_of, section_at, absent_section, no_phdr}
use Rattle.rebuild_model.specs.elf_object.Derived.{derived_header}
use Rattle.rebuild_model.specs.elf_object.Layout.{section_part, table_part, parts_of, places_of, placed, placed_by, placed_header}
use Rattle.rebuild_model.specs.elf_object.Valid.{IsObject, IsSection}
use Rattle.elf_update_to.proofs.law_object.ImageLaws.{placed-dirty}
use Rattle.elf_update_to.proofs.law_object.PlacedLaws.{placed_is}
use Rattle.elf_update_to.specs.law_object.Writing.Ready.{IsReady}
use Rattle.elf_update_to.specs.elf_update_plan.Placing.{IsRefused}
use Rattle.elf_update_to.specs.declared.updates.PlannedParts.{PlannedParts}
use Rattle.elf_update_to.specs.Updates.{IsPlanned}
use Rattle.elf_update_to.proofs.FrontLaws.{object_header_is}
use Rattle.elf_update_to.proofs.StoredLaws.{phdr_fits_at}
use Rattle.elf_update_to.proofs.UpdateLaws.{places_count, wants_passed}
use Rattle.rebuild_image.specs.declared.listed.listed.HeaderListing.{HeaderListing}
use Rattle.rebuild_image.specs.Listed.Listing.{IsHeaderListing}
use Rattle.rebuild_image.specs.declared.holding.FrontRanges.{FrontRanges}
use Rattle.rebuild_image.specs.Holding.{HoldsFront}
use Rattle.rebuild_image.specs.Streams.{IsStreamed, IsNoFront}
use Rattle.rebuild_image.proofs.HoldLaws.{held_fronts_are_stored}

-- ---- Headers of an object fit

listed_class : (q : Object) (x : HeaderListing) → IsHeaderListing q x → x.header.class ≡ q.header.class
unfolding header_of
listed_class q x is = ap (λ (h : Ehdr). h.class) is.header

pub no_unfit_header : (q : Object) (x : HeaderListing) → IsObject q → IsHeaderListing q x
    → ehdr_fits x.header ≡ false → ⊥
no_unfit_header q x object is unfit =
    let same : x.header ≡ q.header = is.header ∙ object_header_is q object in
    let clash : false ≡ true =
    sym unfit ∙ ap (λ (h : Ehdr). ehdr_fits h) same ∙ object.fitting in
    cc

pub no_unfit_section : (q : Object) (x : HeaderListing) (i : ℕ) (headers : List Shdr) (d : Shdr)
    → headers ≡ x.headers → i < length headers → IsObject q → IsHeaderListing q x
    → shdr_fits x.header.class (get_or headers i d) ≡ false → ⊥
unfolding section_at
no_unfit_section q x i headers d same there object is unfit =
    let long = ap (λ (l : List Shdr). length l) same in
    let within : i < length q.sections = omega (arith, there, long, is.count) in
    let at : get_or headers i d ≡ (section_at q i).header =
    ap (λ (l : List Shdr). get_or l i d) same
    ∙ get_or_default x.headers i d zero_shdr (omega (arith, there, long)) ∙ is.headers i within in
    let fits : shdr_fits q.header.class (get_or q.sections i absent_section).header ≡ true =
    (All-get_or (IsSection q.header.class) q.sections i absent_section within
    object.sections).fitting in
    let clash : false ≡ true =
    sym unfit ∙ ap (λ (c : Class). shdr_fits c (get_or headers i d)) (listed_class q x is)
    ∙ ap (shdr_fits q.header.class) at ∙ fits in
    cc

pub no_unfit_segment : (o : Object) (class : Class) (phdrs : List Phdr) (i : ℕ) (d : Phdr)
    → i < length phdrs → phdr_fits class (get_or phdrs i d) ≡ false → IsReady o
    → class ≡ o.header.class → phdrs ≡ o.phdrs → ⊥
no_unfit_segment o class phdrs i d there unfit ready same are =
    let long = ap (λ (l : List Phdr). length l) are in
    let within : i < length o.phdrs = omega (arith, there, long) in
    let clash : false ≡ true =
    sym unfit ∙ ap (λ (c : Class). phdr_fits c (get_or phdrs i d)) same
    ∙ ap (λ (l : List Phdr). phdr_fits o.header.class (get_or l i d)) are
    ∙ ap (phdr_fits o.header.class) (get_or_default o.phdrs i d no_phdr within)
    ∙ phdr_fits_at o i ready within in
    cc

-- ---- With their places

pub placed_object : (o : Object) → IsReady o → IsObject (placed o)
placed_object o ready = placed_is o ready.object ready.passed

pub placed_class : (o : Object) → IsReady o → (placed o).header.class ≡ o.header.class
unfolding placed_by placed_header derived_header header_of
placed_class o ready = ap (λ (q : Object). q.header.class) (placed-dirty o ready.dirty)

pub stored_class : (o : Object) (x : HeaderListing) → IsReady o → IsHeaderListing (placed o) x
    → x.header.class ≡ o.header.class
stored_class o x ready is = listed_class (placed o) x is ∙ placed_class o ready

-- the parts have as many places
pub places_long : (o : Object) (p : PlannedParts) → IsPlanned o p
    → length p.places.at ≡ length o.sections - 1 + 3
unfolding parts_of
places_long o p is =
    let count = places_count o (record { parts = parts_of o; places = places_of o })
    (record { passed = is.ready.passed; parts = refl; places = refl }) in
    let same = ap (λ (x : Places). length x.at) is.places in
    let sections = length-map-range_with_len (section_part o) 1 (length o.sections - 1) in
    let all = length-append (map (section_part o) (range_with_len 1 (length o.sections - 1)))
    (table_part o ∷ []) in
    omega (arith, count, same, sections, all)

pad_placed : (o : Object) → IsReady o → (placed o).pad ≡ o.pad
unfolding placed_by
pad_placed o ready = ap (λ (q : Object). q.pad) (placed-dirty o ready.dirty)

phdrs_placed : (o : Object) → IsReady o → (placed o).phdrs ≡ o.phdrs
unfolding placed_by
phdrs_placed o ready = ap (λ (q : Object). q.phdrs) (placed-dirty o ready.dirty)

pub streamed_of : (o : Object) (next : HeaderListing) (p : PlannedParts) (pad : List ℕ) (phdrs : List Phdr)
    (old new : List ℕ) (front : FrontRanges) → IsPlanned o p → IsHeaderListing (placed o) next
    → pad ≡ o.pad → phdrs ≡ o.phdrs → HoldsFront next pad phdrs old new front
    → IsStreamed o old new (record { planned = p; front = front })
streamed_of o next p pad phdrs old new front planned listed same are holds =
    let first : HoldsFront next (placed o).pad phdrs old new front =
    subst (λ (l : List ℕ). HoldsFront next l phdrs old new front)
    (same ∙ sym (pad_placed o planned.ready)) holds in
    let all : HoldsFront next (placed o).pad (placed o).phdrs old new front =
    subst (λ (l : List Phdr). HoldsFront next (placed o).pad l old new front)
    (are ∙ sym (phdrs_placed o planned.ready)) first in
    record {
      planned = planned;
      bytes = holds.bytes;
      all = holds.all;
      front = λ more base.
          held_fronts_are_stored (placed o) next old new more base front
          (placed_object o planned.ready) listed all;
    }

pub not_held : (o : Object) (next : HeaderListing) (phdrs : List Phdr) (e : ElfError) → IsReady o
    → IsHeaderListing (placed o) next → phdrs ≡ o.phdrs → (e ≡ Memory) ⊎ IsNoFront next phdrs
    → IsRefused o e
not_held o next phdrs e ready listed are (inl wanted) = wants_passed o e ready.passed wanted
not_held o next phdrs e ready listed are (inr never) = absurd (never o ready listed are)
