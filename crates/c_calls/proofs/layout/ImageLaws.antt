-- The parts of a layout, each at its place, make the image.
use Rattle.std.proofs.Common.{◌≡◌, ℕ, true, List, [], ◌∷◌, length, refl, sym, ap, ◌∙◌, subst, arith}
use Rattle.std.specs.Prelude.{map}
use Rattle.std.specs.List.{AllByRecursion}
use Rattle.std.proofs.lemmas.List.Elements.{All-from_recursion, recursion_from_All}
use Rattle.elf_types.specs.declared.records.Part.{Part}
use Rattle.elf_types.specs.declared.records.Part.TheVariants as part
use Rattle.elf_layout.specs.declared.parts.PartAt.{PartAt}
use Rattle.elf_layout.specs.Meeting.{has_bytes}
use Rattle.elf_object.specs.Blocks.{Block}
use Rattle.elf_object.specs.Object.{Object, has_file_bytes, is_dirty}
use Rattle.elf_object.specs.Joined.{file_bytes}
use Rattle.elf_object.specs.Layout.{placed, placed_by, places_of}
use Rattle.elf_object.specs.Image.{image, kept_base, front_blocks}
use Rattle.law_object.specs.Writing.Lines.{AreInLine, in_line}
use Rattle.law_object.proofs.ImageLaws.{placed-dirty, joined-none}
use Rattle.law_object.proofs.StandLaws.{joined-placed}
use Rattle.elf_update_to.specs.declared.updates.PlannedParts.{PlannedParts}
use Rattle.elf_update_to.specs.Pieces.{stacked_text, block_at, blocks_at, HasLength}
use Rattle.elf_update_to.specs.Emits.{ground_byte}
use Rattle.elf_update_to.specs.Descriptors.{stored_pieces, planned}
use Rattle.elf_update_to.specs.Updates.{IsPlanned}
use Rattle.elf_update_to.proofs.PieceLaws.{length-joined_pieces}
use Rattle.elf_update_to.proofs.PlanLaws.{planned_long}
use Rattle.elf_update_to.proofs.UpdateLaws.{planned_end, planned_image, planned_line}
use Rattle.c_handles.specs.declared.layout.planned.PlannedLayout.{PlannedLayout}
use Rattle.c_calls.specs.Layout.Parts.{part_len}
use Rattle.c_calls.specs.Layout.Images.{IsLayoutOf, part_text, part_block, IsToldAs, MakesImage, LayoutMakesImage}
use Rattle.c_calls.proofs.layout.PieceLaws.{one_text, no_text, section_text}
use Rattle.c_calls.proofs.layout.SectionLaws.{IsThere, planned_there, planned_some, bytes_some}

no_section : (o : Object) → file_bytes o 0 ≡ []
unfolding has_file_bytes
no_section o = joined-none o 0 refl

base_placed : (o : Object) → is_dirty o ≡ true → (placed o).base ≡ o.base
unfolding placed_by
base_placed o dirty = ap (λ (q : Object). q.base) (placed-dirty o dirty)

fill_placed : (o : Object) → is_dirty o ≡ true → (placed o).fill ≡ o.fill
unfolding placed_by
fill_placed o dirty = ap (λ (q : Object). q.fill) (placed-dirty o dirty)

module _ (o : Object) (l : PlannedLayout) (is : IsLayoutOf o l) where
  abbrev stored : Part → List ℕ
  stored of = stacked_text (placed o).fill (stored_pieces (placed o) of)

  section_is : (s : ℕ) → file_bytes o s ≡ stored (part.Section s)
  section_is s =
      sym (joined-placed (places_of o) o s)
      ∙ ap (λ (q : Object). file_bytes q s) (sym (placed-dirty o is.ready.dirty))
      ∙ sym (section_text (placed o) s)

  nothing : file_bytes o 0 ≡ stacked_text (placed o).fill []
  nothing = no_section o ∙ sym (no_text (placed o).fill)

  -- what is put for a part is what an update puts
  text_is : (p : PartAt) → part_text o l p ≡ stored p.part
  text_is p = by_part p.part
    where
      by_part : (of : Part) → part_text o l (record p { part = of }) ≡ stored of
      by_part part.Header =
          is.header ∙ sym (one_text (placed o).fill (front_blocks (placed o)).header.bytes)
      by_part part.Segments =
          is.segments ∙ sym (one_text (placed o).fill (front_blocks (placed o)).segments.bytes)
      by_part part.Table =
          is.table ∙ sym (one_text (placed o).fill (front_blocks (placed o)).table.bytes)
      by_part (part.Section s) = section_is s
      by_part part.Object = nothing
      by_part (part.Piece s p) = nothing

  blocks_are : (ps : List PartAt)
      → map (part_block o l) ps ≡ map (block_at (placed o).fill (stored_pieces (placed o))) ps
  blocks_are [] = refl
  blocks_are (p ∷ ps) =
      ap (λ (bytes : List ℕ). record { at = p.at; bytes = bytes } ∷ map (part_block o l) ps)
      (text_is p)
      ∙ ap (λ (bs : List Block). block_at (placed o).fill (stored_pieces (placed o)) p ∷ bs)
      (blocks_are ps)

  -- ---- How long each is

  -- of the front as long as its bytes, and of a section as it stands in the plan
  told_long : (p : PartAt) → p.len ≡ length (part_text o l p)
      → part_len l p ≡ length (part_text o l p)
  told_long p long = by_part p.part long
    where
      by_part : (of : Part) → p.len ≡ length (part_text o l (record p { part = of }))
          → part_len l (record p { part = of }) ≡ length (part_text o l (record p { part = of }))
      by_part part.Header h = refl
      by_part part.Segments h = refl
      by_part part.Table h = refl
      by_part (part.Section s) h = h
      by_part part.Object h = h
      by_part (part.Piece s q) h = h

  is_told : (p : PartAt) → HasLength (stored_pieces (placed o)) p → has_bytes p ≡ true
      → IsThere o l p → IsToldAs o l p
  is_told p has full there =
      let long : p.len ≡ length (part_text o l p) =
      has ∙ sym (length-joined_pieces (placed o).fill (stored_pieces (placed o) p.part))
      ∙ ap length (sym (text_is p)) in
      let told = told_long p long in
      let some = bytes_some p full in
      record { long = told; some = omega (arith, told, long, some); section = there }

  all_told : (ps : List PartAt) → AllByRecursion (HasLength (stored_pieces (placed o))) ps
      → AllByRecursion (λ p. has_bytes p ≡ true) ps → AllByRecursion (IsThere o l) ps
      → AllByRecursion (IsToldAs o l) ps
  all_told [] long full there = tt
  all_told (p ∷ ps) long full there =
      (is_told p long.0 full.0 there.0, all_told ps long.1 full.1 there.1)

  planned_told : AllByRecursion (IsToldAs o l) (planned o)
  planned_told =
      all_told (planned o)
      (recursion_from_All (HasLength (stored_pieces (placed o))) (planned o)
      (planned_long o is.ready))
      (planned_some o) (planned_there o l)

  -- ---- The image

  abbrev of_object : PlannedParts
  of_object = record { parts = planned o; places = places_of o }

  is_planned : IsPlanned o of_object
  is_planned = record { ready = is.ready; parts = refl; places = refl }

  same_blocks : map (part_block o l) l.parts
      ≡ blocks_at o.fill (stored_pieces (placed o)) (planned o)
  unfolding blocks_at
  same_blocks =
      ap (λ (ps : List PartAt). map (part_block o l) ps) is.parts
      ∙ blocks_are (planned o)
      ∙ ap (λ (n : ℕ). map (block_at n (stored_pieces (placed o))) (planned o))
      (fill_placed o is.ready.dirty)

  same_end : l.end ≡ (places_of o).end
  unfolding places_of
  same_end = is.end ∙ sym (planned_end o of_object is_planned)

  makes : MakesImage o l
  unfolding places_of blocks_at image
  makes = record {
    told = All-from_recursion (IsToldAs o l) l.parts
        (subst (λ (ps : List PartAt). AllByRecursion (IsToldAs o l) ps) (sym is.parts)
        planned_told);
    line = subst (λ (n : ℕ). AreInLine n 0 (map (part_block o l) l.parts)) (sym same_end)
        (subst (λ (bs : List Block). AreInLine (places_of o).end 0 bs) (sym same_blocks)
        (planned_line o of_object is_planned));
    image =
        ap (λ (n : ℕ). in_line n (ground_byte o.base (kept_base o) o.fill) 0
        (map (part_block o l) l.parts)) same_end
        ∙ ap (λ (b : List ℕ). in_line (places_of o).end (ground_byte b (kept_base o) o.fill) 0
        (map (part_block o l) l.parts)) (sym (base_placed o is.ready.dirty))
        ∙ ap (λ (bs : List Block). in_line (places_of o).end
        (ground_byte (placed o).base (kept_base o) o.fill) 0 bs) same_blocks
        ∙ planned_image o of_object is_planned;
  }

pub layout_makes_image : LayoutMakesImage
layout_makes_image o l is = makes o l is
