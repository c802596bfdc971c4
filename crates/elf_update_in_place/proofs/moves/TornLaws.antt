-- A torn object whose update is not refused has its places stored already.
use Rattle.std.proofs.Common.{◌≡◌, ℕ, ◌+◌, ◌<◌, true, List, length, get_or, sym, ap, ◌∙◌, arith}
use Rattle.std.specs.Prelude.{map}
use Rattle.std.specs.List.{enumerate_from}
use Rattle.std.proofs.lemmas.List.{length-map, get_or-map, ext_get_or}
use Rattle.std.proofs.lemmas.List.FromFn.{length-enumerate_from, get_or-enumerate_from}
use Rattle.elf_types.specs.declared.records.Ehdr.{Ehdr}
use Rattle.elf_types.specs.declared.records.Shdr.{Shdr}
use Rattle.elf_layout.specs.declared.parts.Places.{Places}
use Rattle.elf_update_to.specs.elf_object.Object.{Object, Section, absent_section, section_at, is_dirty}
use Rattle.elf_update_to.specs.elf_object.Layout.{placed_header, placed_shdr, placed_section, places_of, placed_by, placed}
use Rattle.elf_update_to.specs.elf_object.Changed.{torn_over, is_moved, torn}
use Rattle.elf_update_to.specs.elf_object.Valid.{IsObject}
use Rattle.elf_update_to.specs.law_object.Laws.{IsTornImage}
use Rattle.elf_update_to.proofs.law_object.ImageLaws.{placed-dirty, section_at-placed}
use Rattle.elf_update_to.proofs.law_object.AgainLaws.{header_again, section_again_at, SameFront}
use Rattle.elf_update_to.proofs.law_object.TornLaws.{torn-is, torn_front, torn_dirty, torn_law}
use Rattle.elf_update_to.specs.law_object.Writing.Ready.{IsReady}
use Rattle.elf_update_to.specs.Descriptors.{HasStoredPlaces}

rows_stay : {X : Type 0} (g : ℕ → X → X) (l : List X) (d : X)
    → ((i : ℕ) → i < length l → g i (get_or l i d) ≡ get_or l i d)
    → map (λ r. g r.0 r.1) (enumerate_from 0 l) ≡ l
rows_stay {X = X} g l d each =
    let count = length-enumerate_from 0 l in
    let all = length-map (enumerate_from 0 l) (λ (r : ℕ × X). g r.0 r.1) in
    ext_get_or d (map (λ r. g r.0 r.1) (enumerate_from 0 l)) l (omega (arith, count, all)) (λ i h.
    let inside : i < length l = omega (arith, h, count, all) in
    let row : get_or (enumerate_from 0 l) i (0, d) ≡ (0 + i, get_or l i d) =
    get_or-enumerate_from 0 l i (0, d) inside in
    let number : 0 + i ≡ i = omega arith in
    get_or-map (λ (r : ℕ × X). g r.0 r.1) (enumerate_from 0 l) i (0, d) d
    (omega (arith, inside, count))
    ∙ ap (λ (r : ℕ × X). g r.0 r.1) row
    ∙ ap (λ (k : ℕ). g k (get_or l i d)) number
    ∙ each i inside)

stays_by : (places : Places) (q : Object) → placed_header places q ≡ q.header
    → map (λ r. placed_section places q r.0 r.1) (enumerate_from 0 q.sections) ≡ q.sections
    → placed_by places q ≡ q
unfolding placed_by
stays_by places q header sections =
    ap (λ (h : Ehdr). record q {
      header = h;
      sections = map (λ r. placed_section places q r.0 r.1) (enumerate_from 0 q.sections);
    }) header
    ∙ ap (λ (l : List Section). record q { sections = l }) sections

-- an object with the headers of the object whose places are stored
module _ (t o : Object) (front : SameFront t o) where
  section_stays : (s : ℕ) → s < length t.sections
      → placed_section (places_of t) t s (section_at t s) ≡ section_at t s
  unfolding placed_section
  section_stays s there =
      let count = front.count in
      let inside : s < length o.sections = omega (arith, there, count) in
      let at : (section_at t s).header ≡ placed_shdr (places_of o) o s (section_at o s).header =
      front.headers s
      ∙ ap (λ (c : Section). c.header) (section_at-placed (places_of o) o s inside) in
      let again : placed_shdr (places_of t) t s (section_at t s).header ≡ (section_at t s).header =
      ap (placed_shdr (places_of t) t s) at ∙ section_again_at t o s front inside ∙ sym at in
      ap (λ (h : Shdr). record (section_at t s) { header = h }) again

  front_stays : placed_by (places_of t) t ≡ t
  unfolding section_at
  front_stays =
      stays_by (places_of t) t (header_again t o front ∙ sym front.header)
      (rows_stay (placed_section (places_of t) t) t.sections absent_section section_stays)

-- the object whose places are stored, over other bytes
pub over_placed : (o : Object) (bytes : List ℕ)
    → placed_by (places_of (torn_over (is_moved o) bytes (placed_by (places_of o) o)))
    (torn_over (is_moved o) bytes (placed_by (places_of o) o))
    ≡ torn_over (is_moved o) bytes (placed_by (places_of o) o)
over_placed o bytes =
    front_stays (torn_over (is_moved o) bytes (placed_by (places_of o) o)) o
    (torn_front o (is_moved o) bytes)

pub torn_placed : (o : Object) (bytes : List ℕ) → is_dirty o ≡ true
    → placed (torn o bytes) ≡ torn o bytes
torn_placed o bytes dirty =
    ap placed (torn-is o bytes dirty)
    ∙ placed-dirty (torn_over (is_moved o) bytes (placed_by (places_of o) o))
    (torn_dirty (is_moved o) bytes (placed_by (places_of o) o))
    ∙ over_placed o bytes
    ∙ sym (torn-is o bytes dirty)

pub torn_is_dirty : (o : Object) (bytes : List ℕ) → is_dirty o ≡ true
    → is_dirty (torn o bytes) ≡ true
torn_is_dirty o bytes dirty =
    ap is_dirty (torn-is o bytes dirty)
    ∙ torn_dirty (is_moved o) bytes (placed_by (places_of o) o)

pub torn_stored : (o : Object) (bytes : List ℕ) → IsReady o → IsTornImage o bytes
    → IsObject (torn o bytes) → HasStoredPlaces (torn o bytes)
torn_stored o bytes ready is object =
    let law = torn_law o bytes ready.object ready.dirty ready.passed is in
    record {
      ready = record {
        object = object;
        dirty = torn_is_dirty o bytes ready.dirty;
        passed = law.0;
      };
      placed = torn_placed o bytes ready.dirty;
    }
