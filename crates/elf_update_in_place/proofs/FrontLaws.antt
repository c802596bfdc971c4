-- Whether a part of the front changes, by its marks and by what it differs in.
use Rattle.std.proofs.Common.{◌≡◌, Bool, true, false, ◌&&◌, ◌||◌, refl, sym, ap, ◌∙◌, subst}
use Rattle.std.specs.List.{list_any}
use Rattle.elf_layout.specs.declared.parts.Places.{Places}
use Rattle.elf_types.specs.declared.records.Part.{Part}
use Rattle.elf_types.specs.declared.records.Part.TheVariants as part
use Rattle.elf_object.specs.Answers.{has_dirty, flags_of}
use Rattle.elf_object.specs.Object.{Object, is_dirty}
use Rattle.elf_object.specs.Layout.{places_of}
use Rattle.elf_object.specs.Changed.{front_differs, header_changed, segments_changed, table_changed}
use Rattle.elf_update_to.specs.law_object.Writing.Ready.{IsReady}
use Rattle.elf_update_to.specs.elf_descriptor.Places.{PartsFitAt}
use Rattle.elf_update_to.proofs.elf_descriptor.FittingPlaces.{updated_places}
use Rattle.elf_update_in_place.proofs.moves.SectionLaws.{dirty_bits}
use Rattle.elf_update_in_place.specs.Fronts.{changes_by}

-- what a part that is marked tells
pub whole_is : (o : Object) (r b : Bool) → r ≡ has_dirty (flags_of o part.Object) → r ≡ b
    → o.marked ≡ b
unfolding flags_of
whole_is o r b told is = sym (dirty_bits o.marked o.layout) ∙ sym told ∙ is

-- each part fits the class at the places of an update
pub planned_fit : (o : Object) (places : Places) → IsReady o → places ≡ places_of o
    → PartsFitAt o places
planned_fit o places ready is =
    subst (λ (p : Places). PartsFitAt o p) (sym is)
    (updated_places o ready.object ready.dirty ready.passed)

-- ---- A part

either : (a b c : Bool) → b ≡ true → true ≡ (a || b || c)
either true b c is = refl
either false true c is = refl
either false false c is = cc

neither : (a b c : Bool) → a ≡ false → b ≡ false → c ≡ (a || b || c)
neither false false c first second = refl
neither true b c first second = cc
neither false true c first second = cc

module _ (o : Object) (of : Part) (marked : Bool) where
  pub part_marked : marked ≡ true → true ≡ changes_by o of marked
  part_marked is = either o.marked marked (front_differs (places_of o) o of) is

  pub object_marked : o.marked ≡ true → true ≡ changes_by o of marked
  object_marked is =
      sym (ap (λ (b : Bool). b || marked || front_differs (places_of o) o of) is)

  pub part_differs : (r : Bool) (places : Places) → o.marked ≡ false → marked ≡ false
      → places ≡ places_of o → r ≡ front_differs places o of → r ≡ changes_by o of marked
  part_differs r places plain other is differs =
      differs ∙ ap (λ (p : Places). front_differs p o of) is
      ∙ neither o.marked marked (front_differs (places_of o) o of) plain other

-- ---- The three parts

module _ (o : Object) (dirty : is_dirty o ≡ true) (r q : Bool) where
  pub header_by : r ≡ has_dirty (flags_of o part.Header) → q ≡ changes_by o part.Header r
      → q ≡ header_changed o
  unfolding flags_of header_changed
  header_by told is =
      is ∙ ap (changes_by o part.Header) (told ∙ dirty_bits o.header_marked false)
      ∙ sym (ap (λ (b : Bool). b && changes_by o part.Header o.header_marked) dirty)

  pub segments_by : r ≡ has_dirty (flags_of o part.Segments)
      → q ≡ changes_by o part.Segments r → q ≡ segments_changed o
  unfolding flags_of segments_changed
  segments_by told is =
      is ∙ ap (changes_by o part.Segments) (told ∙ dirty_bits o.segments_marked false)
      ∙ sym (ap (λ (b : Bool). b && changes_by o part.Segments o.segments_marked) dirty)

  pub table_by : r ≡ list_any (λ s. s.marked) o.sections → q ≡ changes_by o part.Table r
      → q ≡ table_changed o
  unfolding table_changed
  table_by told is =
      is ∙ ap (changes_by o part.Table) told
      ∙ sym (ap (λ (b : Bool).
      b && changes_by o part.Table (list_any (λ s. s.marked) o.sections)) dirty)
