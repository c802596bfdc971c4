-- Ranges that are the parts of an object have the pieces of its plan.
use Rattle.std.proofs.Common.{◌≡◌, ℕ, zero, suc, ◌+◌, ◌-◌, ◌<◌, ◌≤◌, Bool, true, false, ◌&&◌, List, [], ◌∷◌, ◌++◌, length, get_or, refl, sym, ap, subst, arith}
use Rattle.std.specs.Prelude.{map, All, nat_lt}
use Rattle.std.specs.List.{AllByRecursion, range_with_len}
use Rattle.std.proofs.lemmas.List.Elements.{All-from_recursion}
use Rattle.elf_types.specs.declared.records.Part.TheVariants as part
use Rattle.elf_layout.specs.declared.parts.PartAt.{PartAt}
use Rattle.elf_layout.specs.Layout.{in_order_from, standing, end_after}
use Rattle.elf_layout.specs.Meeting.{has_bytes, ranks_by_position}
use Rattle.rebuild_model.specs.elf_object.Object.{Object, section_at, occupies_file}
use Rattle.rebuild_model.specs.elf_object.Joined.{file_bytes}
use Rattle.rebuild_model.specs.elf_object.Layout.{section_part, table_part, parts_of, placed_parts, placed}
use Rattle.elf_update_to.specs.elf_update_plan.Plans.{no_part, part_of_rank}
use Rattle.elf_update_to.specs.declared.updates.PlannedParts.{PlannedParts}
use Rattle.elf_update_to.specs.Descriptors.{stored_pieces, planned}
use Rattle.elf_update_to.proofs.PlanLaws.{HasRank, ranks_ranked}
use Rattle.elf_update_to.proofs.UpdateLaws.{planned_end}
use Rattle.rebuild_image.specs.Ranges.Ranges.{KeptRanges, ranged_pieces}
use Rattle.rebuild_image.specs.Ranges.Images.{AreRangesOf}
use Rattle.rebuild_image.specs.Streaming.{AreStreamed, StreamedPartsAreRanges}

abbrev one_piece : List ℕ → List (ℕ × List ℕ)
one_piece bytes = (1, bytes) ∷ []

module _ (o : Object) (k : KeptRanges) (p : PlannedParts) (are : AreStreamed o k p) where
  abbrev Same : PartAt → Type 0
  Same q = ranged_pieces k q.part ≡ stored_pieces (placed o) q.part

  -- of a part that is not empty
  abbrev SameWhere : PartAt → Type 0
  SameWhere q = has_bytes q ≡ true → Same q

  section_same : (s : ℕ) → 1 ≤ s → s < length o.sections → SameWhere (section_part o s)
  unfolding section_part has_bytes
  section_same s first there full = by_kind (occupies_file (section_at o s).header) refl full
    where
      by_kind : (b : Bool) → occupies_file (section_at o s).header ≡ b
          → (b && nat_lt 0 (length (file_bytes o s))) ≡ true
          → ranged_pieces k (part.Section s) ≡ stored_pieces (placed o) (part.Section s)
      by_kind true is some = are.sections s (omega (arith, first)) there is
      by_kind false is some = cc

  sections_same : (a n : ℕ) → 1 ≤ a → ((s : ℕ) → a ≤ s → s < a + n → s < length o.sections)
      → AllByRecursion SameWhere (map (section_part o) (range_with_len a n) ++ table_part o ∷ [])
  sections_same a zero first within = ((λ full. ap one_piece are.front.table), tt)
  sections_same a (suc n) first within = (
    section_same a first (within a (omega arith) (omega arith)),
    sections_same (a + 1) n (omega (arith, first))
        (λ s least most. within s (omega (arith, least)) (omega (arith, most))),
  )

  parts_same : AllByRecursion SameWhere (parts_of o)
  unfolding parts_of
  parts_same = (
    (λ full. ap one_piece are.front.header),
    (
      (λ full. ap one_piece are.front.segments),
      sections_same 1 (length o.sections - 1) (omega arith)
          (λ s least most. omega (arith, least, most)),
    ),
  )

  ordered_same : (end : ℕ) (ps : List PartAt) → AllByRecursion SameWhere ps
      → AllByRecursion SameWhere (in_order_from end ps)
  unfolding in_order_from has_bytes
  ordered_same end [] each = tt
  ordered_same end (q ∷ ps) each = (each.0, ordered_same (end_after end q) ps each.1)

  standing_same : (layout : Bool) → AllByRecursion SameWhere (standing (parts_of o) layout)
  unfolding standing
  standing_same true = parts_same
  standing_same false = ordered_same 0 (parts_of o) parts_same

  placed_same : AllByRecursion SameWhere (placed_parts o)
  unfolding placed_parts
  placed_same = standing_same o.layout

  same_at : (ps : List PartAt) (i : ℕ) → i < length ps → AllByRecursion SameWhere ps
      → SameWhere (get_or ps i no_part)
  same_at [] i there each = absurd (omega (arith, there))
  same_at (q ∷ ps) zero there each = each.0
  same_at (q ∷ ps) (suc i) there each = same_at ps i (omega (arith, there)) each.1

  ranks_same : (ranks : List ℕ) → AllByRecursion (HasRank (placed_parts o)) ranks
      → AllByRecursion Same (map (part_of_rank (placed_parts o)) ranks)
  ranks_same [] ranked = tt
  ranks_same (r ∷ ranks) ranked = (
    same_at (placed_parts o) r ranked.0.there placed_same ranked.0.some,
    ranks_same ranks ranked.1,
  )

  planned_same : All Same (planned o)
  planned_same =
      All-from_recursion Same (planned o)
      (ranks_same (ranks_by_position (placed_parts o)) (ranks_ranked (placed_parts o)))

  streamed : AreRangesOf o k p.parts p.places.end
  streamed = record {
    ready = are.planned.ready;
    plan_is = are.planned.parts;
    end_is = planned_end o p are.planned;
    fill = are.fill;
    kept = are.kept;
    base = are.base;
    pieces = subst (λ (l : List PartAt). All Same l) (sym are.planned.parts) planned_same;
  }

pub streamed_parts_are_ranges : StreamedPartsAreRanges
streamed_parts_are_ranges o k p are = streamed o k p are
