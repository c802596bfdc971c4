use Rattle.std.proofs.lemmas.Bool.{OnFalse_from}
use Rattle.elf_layout.proofs.Placed.{of_places, placing_count, placing_apart, placing_within_length, placing_length, placing_positions_at}
use Rattle.elf_layout.proofs.placing.place.Goals as goal

pub returns-clause-count : goal.returns-clause-count
returns-clause-count c =
    of_places _ _ _ _ _ _ _ _ c.as_slice.ensures c.limit.ensures c.place_within.ensures.ok (placing_count _ _ _ _)

pub returns-clause-apart : goal.returns-clause-apart
returns-clause-apart c =
    of_places _ _ _ _ _ _ _ _ c.as_slice.ensures c.limit.ensures c.place_within.ensures.ok (placing_apart _ _ _ _)

pub returns-clause-within : goal.returns-clause-within
returns-clause-within c =
    of_places _ _ _ _ _ _ _ _ c.as_slice.ensures c.limit.ensures c.place_within.ensures.ok (placing_within_length _ _ _ _)

pub returns-clause-length : goal.returns-clause-length
returns-clause-length c =
    of_places _ _ _ _ _ _ _ _ c.as_slice.ensures c.limit.ensures c.place_within.ensures.ok (placing_length _ _ _ _)

pub returns-clause-positions : goal.returns-clause-positions
returns-clause-positions c =
    OnFalse_from _ _ (λ in_order.
    of_places _ _ _ _ _ _ _ _ c.as_slice.ensures c.limit.ensures c.place_within.ensures.ok (λ places. placing_positions_at _ _ _ _ places in_order))
