-- The length of an image, as a loop over its parts finds it.
use Rattle.std.proofs.Common.{◌≡◌, ℕ, ◌+◌, ◌<◌, ◌≤◌, max, List, [], ◌∷◌, length, get_or, drop, true, false, cond, arith}
use Rattle.std.proofs.lemmas.List.{at_drop_more, at_drop_all}
use Rattle.elf_layout.specs.declared.parts.PartAt.{PartAt}
use Rattle.elf_layout.specs.Layout.{length_from, length_with}
use Rattle.elf_layout.specs.Meeting.{has_bytes, end_of}

pub length_with_ge : (least : ℕ) (p : PartAt) → least ≤ length_with least p
unfolding length_with
length_with_ge least p =
    elim (has_bytes p) as (λ b. least ≤ cond b (max least (end_of p)) least) [ true ↦ omega arith | false ↦ omega arith ]

-- parts never make an image shorter
pub length_from_ge : (least : ℕ) (ps : List PartAt) → least ≤ length_from least ps
unfolding length_from
length_from_ge least [] = omega arith
length_from_ge least (p ∷ ps) = omega (arith, length_with_ge least p, length_from_ge (length_with least p) ps)

pub length_from_more : (least : ℕ) (ps : List PartAt) (i : ℕ) (d : PartAt) → i < length ps → length_from least (drop i ps) ≡ length_from (length_with least (get_or ps i d)) (drop (i + 1) ps)
unfolding length_from
length_from_more least ps i d h = at_drop_more (length_from least) ps i d h

pub length_from_end : (least : ℕ) (ps : List PartAt) (i : ℕ) → length ps ≤ i → length_from least (drop i ps) ≡ least
unfolding length_from
length_from_end least ps i h = at_drop_all (length_from least) ps i h

pub ruleset lengths = (length_from_ge, length_from_more, length_from_end)

-- one part that makes the image too long makes it so for good
pub length_from_above : (base least limit : ℕ) (ps : List PartAt) (i : ℕ) (d : PartAt) → i < length ps → length_from least (drop i ps) ≡ length_from base ps → ¬ (length_with least (get_or ps i d) ≤ limit) → ¬ (length_from base ps ≤ limit)
length_from_above base least limit ps i d inside so_far above fits =
    above (omega (arith, length_from_more least ps i d inside, length_from_ge (length_with least (get_or ps i d)) (drop (i + 1) ps)))
