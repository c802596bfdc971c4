-- Ranges that have the pieces of an object make its image.
use Rattle.std.proofs.Common.{◌≡◌, ℕ, ◌≤◌, true, List, [], ◌∷◌, length, refl, sym, ap, ◌∙◌, subst}
use Rattle.std.specs.Prelude.{map, All}
use Rattle.std.specs.List.{AllByRecursion}
use Rattle.std.proofs.lemmas.List.Elements.{All-from_recursion, recursion_from_All}
use Rattle.elf_types.specs.declared.records.Part.{Part}
use Rattle.elf_layout.specs.declared.parts.PartAt.{PartAt}
use Rattle.elf_update_to.specs.elf_object.Blocks.{Block}
use Rattle.elf_update_to.specs.elf_object.Object.{Object, is_dirty}
use Rattle.elf_update_to.specs.elf_object.Layout.{placed, placed_by, places_of}
use Rattle.elf_update_to.specs.elf_object.Image.{image, kept_base}
use Rattle.elf_update_to.proofs.law_object.ImageLaws.{placed-dirty}
use Rattle.elf_update_to.specs.law_object.Writing.Lines.{AreInLine, in_line}
use Rattle.elf_update_to.specs.declared.updates.PlannedParts.{PlannedParts}
use Rattle.elf_update_to.specs.Pieces.{block_at, blocks_at, pieces_length, stacked_text, HasLength}
use Rattle.elf_update_to.specs.Emits.{ground_byte}
use Rattle.elf_update_to.specs.Descriptors.{stored_pieces, planned}
use Rattle.elf_update_to.specs.Updates.{IsPlanned}
use Rattle.elf_update_to.proofs.PlanLaws.{planned_long}
use Rattle.elf_update_to.proofs.UpdateLaws.{planned_end, planned_image, planned_line}
use Rattle.rebuild_image.specs.Ranges.Ranges.{KeptRanges, ranged_pieces, ranged_base, AreInside}
use Rattle.rebuild_image.specs.Ranges.Images.{ranged_blocks, ranged_text, IsReadyImage, AreRangesOf, RangesMakeImage, RangesAreReady}

-- ---- Blocks of the same pieces

module _ (f g : Part → List (ℕ × List ℕ)) where
  blocks_by : (plan : List PartAt) → AllByRecursion (λ p. f p.part ≡ g p.part) plan
      → blocks_at 0 f plan ≡ blocks_at 0 g plan
  unfolding blocks_at
  blocks_by [] same = refl
  blocks_by (p ∷ plan) same =
      ap (λ (l : List (ℕ × List ℕ)).
      record { at = p.at; bytes = stacked_text 0 l } ∷ map (block_at 0 f) plan) same.0
      ∙ ap (λ (bs : List Block). block_at 0 g p ∷ bs) (blocks_by plan same.1)

  blocks_same : (plan : List PartAt) → All (λ p. f p.part ≡ g p.part) plan
      → blocks_at 0 f plan ≡ blocks_at 0 g plan
  blocks_same plan same =
      blocks_by plan (recursion_from_All (λ (p : PartAt). f p.part ≡ g p.part) plan same)

  long_by : (plan : List PartAt) → AllByRecursion (λ p. f p.part ≡ g p.part) plan
      → AllByRecursion (HasLength g) plan → AllByRecursion (HasLength f) plan
  long_by [] same long = tt
  long_by (p ∷ plan) same long =
      (long.0 ∙ ap pieces_length (sym same.0), long_by plan same.1 long.1)

  long_same : (plan : List PartAt) → All (λ p. f p.part ≡ g p.part) plan
      → All (HasLength g) plan → All (HasLength f) plan
  long_same plan same long =
      All-from_recursion (HasLength f) plan
      (long_by plan (recursion_from_All (λ (p : PartAt). f p.part ≡ g p.part) plan same)
      (recursion_from_All (HasLength g) plan long))

-- ---- Of an object

base_placed : (o : Object) → is_dirty o ≡ true → (placed o).base ≡ o.base
unfolding placed_by
base_placed o dirty = ap (λ (q : Object). q.base) (placed-dirty o dirty)

module _ (o : Object) (k : KeptRanges) (plan : List PartAt) (end : ℕ)
    (are : AreRangesOf o k plan end) where
  abbrev of_object : PlannedParts
  of_object = record { parts = planned o; places = places_of o }

  is_planned : IsPlanned o of_object
  is_planned = record { ready = are.ready; parts = refl; places = refl }

  -- the blocks are the object's
  same_blocks : ranged_blocks k plan ≡ blocks_at o.fill (stored_pieces (placed o)) (planned o)
  same_blocks =
      blocks_same (ranged_pieces k) (stored_pieces (placed o)) plan are.pieces
      ∙ ap (λ (l : List PartAt). blocks_at 0 (stored_pieces (placed o)) l) are.plan_is
      ∙ ap (λ (n : ℕ). blocks_at n (stored_pieces (placed o)) (planned o)) (sym are.fill)

  same_end : end ≡ (places_of o).end
  unfolding places_of
  same_end = are.end_is ∙ sym (planned_end o of_object is_planned)

  text_is : ranged_text k plan end ≡ image o
  unfolding places_of blocks_at image
  text_is =
      ap (λ (n : ℕ). in_line n (ground_byte (ranged_base k) k.kept 0) 0
      (ranged_blocks k plan)) same_end
      ∙ ap (λ (b : List ℕ). in_line (places_of o).end (ground_byte b k.kept 0) 0
      (ranged_blocks k plan))
      (are.base ∙ sym (base_placed o are.ready.dirty))
      ∙ ap (λ (n : ℕ).
      in_line (places_of o).end (ground_byte (placed o).base n 0) 0 (ranged_blocks k plan)) are.kept
      ∙ ap (λ (n : ℕ).
      in_line (places_of o).end (ground_byte (placed o).base (kept_base o) n) 0
      (ranged_blocks k plan))
      (sym are.fill)
      ∙ ap (λ (bs : List Block).
      in_line (places_of o).end (ground_byte (placed o).base (kept_base o) o.fill) 0 bs) same_blocks
      ∙ planned_image o of_object is_planned

  ready_is : AreInside k → k.kept ≤ length k.source.base → IsReadyImage k plan end
  unfolding places_of
  ready_is inside kept = record {
    inside = inside;
    kept = kept;
    long = long_same (ranged_pieces k) (stored_pieces (placed o)) plan are.pieces
        (subst (λ (l : List PartAt). All (HasLength (stored_pieces (placed o))) l) (sym are.plan_is)
        (planned_long o are.ready));
    line = subst (λ (n : ℕ). AreInLine n 0 (ranged_blocks k plan)) (sym same_end)
        (subst (λ (bs : List Block). AreInLine (places_of o).end 0 bs) (sym same_blocks)
        (planned_line o of_object is_planned));
  }

pub ranges_make_image : RangesMakeImage
ranges_make_image o k plan end are = text_is o k plan end are

pub ranges_are_ready : RangesAreReady
ranges_are_ready o k plan end are = ready_is o k plan end are
