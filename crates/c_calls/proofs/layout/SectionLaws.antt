-- The parts of a plan that are no part of the front are sections that are there.
use Rattle.std.proofs.Common.{◌≡◌, ℕ, zero, suc, ◌+◌, ◌-◌, ◌<◌, ◌≤◌, Bool, true, false, ◌&&◌, List, [], ◌∷◌, ◌++◌, length, get_or, None, arith}
use Rattle.std.specs.Prelude.{map, nat_lt, if◌then◌else◌}
use Rattle.std.proofs.lemmas.Bool.{ltb-true}
use Rattle.std.specs.List.{AllByRecursion, range_with_len}
use Rattle.elf_layout.specs.declared.parts.PartAt.{PartAt}
use Rattle.elf_layout.specs.Layout.{in_order_from, standing, end_after}
use Rattle.elf_layout.specs.Meeting.{has_bytes, ranks_by_position}
use Rattle.elf_object.specs.Object.{Object}
use Rattle.elf_object.specs.Layout.{section_part, table_part, parts_of, placed_parts}
use Rattle.elf_update_plan.specs.Plans.{no_part, part_of_rank}
use Rattle.elf_update_to.specs.Descriptors.{planned}
use Rattle.elf_update_to.proofs.PlanLaws.{HasRank, ranks_ranked}
use Rattle.c_handles.specs.declared.layout.planned.PlannedLayout.{PlannedLayout}
use Rattle.c_calls.specs.Layout.Parts.{front_of, section_number}

module _ (o : Object) (l : PlannedLayout) where
  abbrev pub IsThere : PartAt → Type 0
  IsThere p = front_of l p.part ≡ None
      → (0 < section_number p.part) × (section_number p.part < length o.sections)

  section_there : (s : ℕ) → 1 ≤ s → s < length o.sections → IsThere (section_part o s)
  unfolding section_part
  section_there s first within = λ none. (omega (arith, first), within)

  sections_there : (a n : ℕ) → 1 ≤ a → ((s : ℕ) → a ≤ s → s < a + n → s < length o.sections)
      → AllByRecursion IsThere (map (section_part o) (range_with_len a n) ++ table_part o ∷ [])
  sections_there a zero first within = ((λ none. cc), tt)
  sections_there a (suc n) first within = (
    section_there a first (within a (omega arith) (omega arith)),
    sections_there (a + 1) n (omega (arith, first))
        (λ s least most. within s (omega (arith, least)) (omega (arith, most))),
  )

  parts_there : AllByRecursion IsThere (parts_of o)
  unfolding parts_of
  parts_there = (
    (λ none. cc),
    (
      (λ none. cc),
      sections_there 1 (length o.sections - 1) (omega arith)
          (λ s least most. omega (arith, least, most)),
    ),
  )

  ordered_there : (end : ℕ) (ps : List PartAt) → AllByRecursion IsThere ps
      → AllByRecursion IsThere (in_order_from end ps)
  unfolding in_order_from
  ordered_there end [] each = tt
  ordered_there end (p ∷ ps) each = (each.0, ordered_there (end_after end p) ps each.1)

  placed_there : AllByRecursion IsThere (placed_parts o)
  unfolding placed_parts standing
  placed_there = by_layout o.layout
    where
      by_layout : (layout : Bool) → AllByRecursion IsThere
          (if layout then parts_of o else in_order_from 0 (parts_of o))
      by_layout true = parts_there
      by_layout false = ordered_there 0 (parts_of o) parts_there

  there_at : (ps : List PartAt) (i : ℕ) → i < length ps → AllByRecursion IsThere ps
      → IsThere (get_or ps i no_part)
  there_at [] i there each = absurd (omega (arith, there))
  there_at (p ∷ ps) zero there each = each.0
  there_at (p ∷ ps) (suc i) there each = there_at ps i (omega (arith, there)) each.1

  ranks_there : (ranks : List ℕ) → AllByRecursion (HasRank (placed_parts o)) ranks
      → AllByRecursion IsThere (map (part_of_rank (placed_parts o)) ranks)
  ranks_there [] ranked = tt
  ranks_there (r ∷ ranks) ranked = (
    there_at (placed_parts o) r ranked.0.there placed_there,
    ranks_there ranks ranked.1,
  )

  pub planned_there : AllByRecursion IsThere (planned o)
  planned_there =
      ranks_there (ranks_by_position (placed_parts o)) (ranks_ranked (placed_parts o))

-- none of the parts of a plan is empty
some_at : (ps : List PartAt) (ranks : List ℕ) → AllByRecursion (HasRank ps) ranks
    → AllByRecursion (λ p. has_bytes p ≡ true) (map (part_of_rank ps) ranks)
some_at ps [] ranked = tt
some_at ps (r ∷ ranks) ranked = (ranked.0.some, some_at ps ranks ranked.1)

pub planned_some : (o : Object) → AllByRecursion (λ p. has_bytes p ≡ true) (planned o)
planned_some o =
    some_at (placed_parts o) (ranks_by_position (placed_parts o)) (ranks_ranked (placed_parts o))

pub bytes_some : (p : PartAt) → has_bytes p ≡ true → 0 < p.len
unfolding has_bytes
bytes_some p h = by_test p.filled h
  where
    by_test : (f : Bool) → (f && nat_lt 0 p.len) ≡ true → 0 < p.len
    by_test true t = ltb-true 0 p.len t
    by_test false t = cc
