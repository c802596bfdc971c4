-- The bytes of the parts of an object, by their pieces.
use Rattle.std.proofs.Common.{◌≡◌, ℕ, zero, suc, ◌+◌, ◌-◌, ◌<◌, Bool, true, false, List, [], ◌∷◌, ◌++◌, length, get_or, refl, sym, ap, ◌∙◌, subst, arith}
use Rattle.std.proofs.Math.ListN.{replicate}
use Rattle.std.specs.Prelude.{if◌then◌else◌, map}
use Rattle.std.specs.List.{range_with_len}
use Rattle.std.proofs.lemmas.List.{append-nil}
use Rattle.elf_types.specs.declared.records.Part.TheVariants as part
use Rattle.elf_update_plan.specs.elf_layout.declared.parts.PartAt.{PartAt}
use Rattle.elf_update_plan.specs.elf_layout.Layout.{rounded_up, place_of, end_after, in_order_from, standing, positions, places_of as parts_places}
use Rattle.elf_update_plan.specs.elf_object.Blocks.{Block, stacked, last_end}
use Rattle.elf_update_plan.specs.elf_object.Object.{Object, section_at, has_file_bytes, is_dirty}
use Rattle.elf_update_plan.specs.elf_object.Open.{no_block}
use Rattle.elf_update_plan.specs.elf_object.Joined.{aligned_pieces, piece_blocks, pieces_end, file_bytes}
use Rattle.elf_update_plan.specs.elf_object.Layout.{section_part, section_numbers, table_part, parts_of, placed_parts, places_of, placed}
use Rattle.elf_update_plan.specs.elf_object.Image.{front_blocks, section_block, part_blocks}
use Rattle.elf_update_plan.proofs.law_object.ImageLaws.{joined-none, placed-dirty}
use Rattle.elf_update_plan.proofs.law_object.StandLaws.{section_count-placed}
use Rattle.elf_update_plan.proofs.law_object.writing.PieceLaws.{pieces_in_line}
use Rattle.elf_update_plan.specs.Plans.{no_part, stand_at}
use Rattle.elf_update_to.specs.Pieces.{pieces_length, stacked_text}
use Rattle.elf_update_to.specs.Descriptors.{stored_pieces}
use Rattle.elf_update_to.proofs.PieceLaws.{joined_step, joined_none, last_step, last_none}

-- ---- Parts of one piece, and sections

first_place : rounded_up 0 1 ≡ 0
unfolding rounded_up
first_place = refl

pub joined_one : (fill : ℕ) (bytes : List ℕ) → stacked_text fill ((1, bytes) ∷ []) ≡ bytes
unfolding stacked_text pieces_length
joined_one fill bytes =
    let all : last_end 0 (stacked 0 ((1, bytes) ∷ [])) ≡ rounded_up 0 1 + length bytes =
    last_step 0 (1, bytes) [] ∙ last_none (rounded_up 0 1 + length bytes) in
    let none : rounded_up 0 1 - 0 ≡ 0 = omega (arith, first_place) in
    joined_step fill (last_end 0 (stacked 0 ((1, bytes) ∷ []))) 0 (1, bytes) []
    ∙ ap (λ (l : List ℕ). (replicate (rounded_up 0 1 - 0) fill ++ bytes) ++ l)
    (joined_none fill (last_end 0 (stacked 0 ((1, bytes) ∷ []))) (rounded_up 0 1 + length bytes) all)
    ∙ append-nil (replicate (rounded_up 0 1 - 0) fill ++ bytes)
    ∙ ap (λ (n : ℕ). replicate n fill ++ bytes) none

joined_empty : (fill : ℕ) → stacked_text fill [] ≡ []
unfolding stacked_text pieces_length stacked last_end
joined_empty fill = refl

joined_pieces : (o : Object) (s : ℕ) → has_file_bytes s (section_at o s) ≡ true
    → stacked_text o.fill (aligned_pieces o.header.class o.header.order (section_at o s)) ≡ file_bytes o s
unfolding stacked_text pieces_length pieces_end piece_blocks
joined_pieces o s e = sym ((pieces_in_line o).bytes s e)

pub section_joined : (o : Object) (s : ℕ) → stacked_text o.fill (stored_pieces o (part.Section s)) ≡ file_bytes o s
section_joined o s = by_bytes (has_file_bytes s (section_at o s)) refl
  where
    by_bytes : (b : Bool) → has_file_bytes s (section_at o s) ≡ b
        → stacked_text o.fill (if b then aligned_pieces o.header.class o.header.order
        (section_at o s) else []) ≡ file_bytes o s
    by_bytes true e = joined_pieces o s e
    by_bytes false e = joined_empty o.fill ∙ sym (joined-none o s e)

-- ---- Each part

abbrev SameBytes : Object → Block → PartAt → Type 0
SameBytes q b p = stacked_text q.fill (stored_pieces q p.part) ≡ b.bytes

abbrev pub AllSame : Object → List Block → List PartAt → Type 0
AllSame q [] [] = Unit {0}
AllSame q (b ∷ bs) (p ∷ ps) = SameBytes q b p × AllSame q bs ps
AllSame q [] (p ∷ ps) = ⊥
AllSame q (b ∷ bs) [] = ⊥

sections_same : (q o : Object) (t : Block) (a n : ℕ) → SameBytes q t (table_part o)
    → AllSame q (map (section_block q) (range_with_len a n) ++ t ∷ [])
    (map (section_part o) (range_with_len a n) ++ table_part o ∷ [])
unfolding section_block section_part
sections_same q o t a zero last = (last, tt)
sections_same q o t a (suc n) last = (section_joined q a, sections_same q o t (a + 1) n last)

all_same : (q o : Object) → length q.sections ≡ length o.sections → AllSame q (part_blocks q) (parts_of o)
unfolding part_blocks parts_of
all_same q o count = (
  joined_one q.fill (front_blocks q).header.bytes,
  (
    joined_one q.fill (front_blocks q).segments.bytes,
    subst (λ (n : ℕ). AllSame q (map (section_block q) (range_with_len 1 (n - 1)) ++ (front_blocks q).table ∷ [])
        (map (section_part o) (section_numbers o) ++ table_part o ∷ [])) (sym count)
        (sections_same q o (front_blocks q).table 1 (length o.sections - 1)
        (joined_one q.fill (front_blocks q).table.bytes)),
  ),
)

same_ordered : (q : Object) (bs : List Block) (end : ℕ) (ps : List PartAt) → AllSame q bs ps
    → AllSame q bs (in_order_from end ps)
unfolding in_order_from
same_ordered q [] end [] same = tt
same_ordered q [] end (p ∷ ps) same = absurd same
same_ordered q (b ∷ bs) end [] same = absurd same
same_ordered q (b ∷ bs) end (p ∷ ps) same = (same.0, same_ordered q bs (end_after end p) ps same.1)

same_standing : (q : Object) (bs : List Block) (layout : Bool) (ps : List PartAt) → AllSame q bs ps
    → AllSame q bs (standing ps layout)
unfolding standing
same_standing q bs true ps same = same
same_standing q bs false ps same = same_ordered q bs 0 ps same

-- the bytes of each part of an object whose places are stored
pub placed_same : (o : Object) → is_dirty o ≡ true → AllSame (placed o) (part_blocks (placed o)) (placed_parts o)
unfolding placed_parts
placed_same o dirty =
    let count : length (placed o).sections ≡ length o.sections =
    ap (λ (q : Object). length q.sections) (placed-dirty o dirty) ∙ section_count-placed (places_of o) o in
    same_standing (placed o) (part_blocks (placed o)) o.layout (parts_of o) (all_same (placed o) o count)

pub same_at : (q : Object) (bs : List Block) (ps : List PartAt) (i : ℕ) → AllSame q bs ps → i < length ps
    → stacked_text q.fill (stored_pieces q (get_or ps i no_part).part) ≡ (get_or bs i no_block).bytes
same_at q [] [] i same there = absurd (omega arith)
same_at q [] (p ∷ ps) i same there = absurd same
same_at q (b ∷ bs) [] i same there = absurd same
same_at q (b ∷ bs) (p ∷ ps) zero same there = same.0
same_at q (b ∷ bs) (p ∷ ps) (suc i) same there = same_at q bs ps i same.1 (omega arith)

-- ---- Places

ordered_at : (end : ℕ) (ps : List PartAt) → stand_at ps (positions (in_order_from end ps)) ≡ in_order_from end ps
unfolding positions in_order_from place_of
ordered_at end [] = refl
ordered_at end (p ∷ ps) =
    ap (λ (l : List PartAt). record p { at = rounded_up end p.align } ∷ l)
    (ordered_at (end_after end p) ps)

callers_at : (ps : List PartAt) → stand_at ps (positions ps) ≡ ps
unfolding positions
callers_at [] = refl
callers_at (p ∷ ps) = ap (λ (l : List PartAt). p ∷ l) (callers_at ps)

-- parts put at the places of an object are its placed parts
pub stand_placed : (o : Object) → stand_at (parts_of o) (places_of o).at ≡ placed_parts o
unfolding places_of parts_places placed_parts standing
stand_placed o = by_layout o.layout
  where
    by_layout : (b : Bool) → stand_at (parts_of o)
        (positions (if b then parts_of o else in_order_from 0 (parts_of o)))
        ≡ (if b then parts_of o else in_order_from 0 (parts_of o))
    by_layout true = callers_at (parts_of o)
    by_layout false = ordered_at 0 (parts_of o)
