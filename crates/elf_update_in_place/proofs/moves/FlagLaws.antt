-- The rows of the plan: each is a part that is not empty, by its rank, with whether it changes.
use Rattle.std.proofs.Common.{◌≡◌, ℕ, zero, suc, ◌+◌, ◌-◌, ◌<◌, ◌≤◌, Bool, true, false, List, [], ◌∷◌, ◌++◌, length, get_or, refl, sym, ap, ◌∙◌, arith}
use Rattle.std.specs.Prelude.{map, nat_lt, ◌==◌}
use Rattle.std.specs.List.{range_with_len, enumerate_from, AllByRecursion}
use Rattle.std.proofs.lemmas.Bool.{lt-ltb, le-ltb, ne_eqb}
use Rattle.std.proofs.lemmas.List.{length-map, get_or-map}
use Rattle.std.proofs.lemmas.List.Elements.{All-get_or}
use Rattle.elf_layout.specs.declared.parts.PartAt.{PartAt}
use Rattle.elf_layout.specs.Layout.{end_after, in_order_from, standing}
use Rattle.elf_layout.specs.Meeting.{ranks_by_position}
use Rattle.elf_update_to.specs.elf_object.Blocks.{Block}
use Rattle.elf_update_to.specs.elf_object.Object.{Object}
use Rattle.elf_update_to.specs.elf_object.Open.{no_block}
use Rattle.elf_update_to.specs.elf_object.Layout.{section_part, table_part, parts_of, placed_parts, placed}
use Rattle.elf_update_to.specs.elf_object.Changed.{section_changed}
use Rattle.elf_update_to.specs.law_object.Writing.Plan.{rank_changed}
use Rattle.elf_update_to.specs.law_object.Writing.Ready.{IsReady}
use Rattle.elf_update_to.specs.elf_update_plan.Plans.{part_of_rank}
use Rattle.elf_update_to.specs.Pieces.{stacked_text, block_at, blocks_at, HasLength}
use Rattle.elf_update_to.specs.Descriptors.{stored_pieces, planned}
use Rattle.elf_update_to.proofs.PieceLaws.{length-joined_pieces}
use Rattle.elf_update_to.proofs.PlanLaws.{HasRank, ranks_ranked, planned_blocks, planned_long}
use Rattle.elf_update_in_place.specs.Moves.Written.{part_changed, planned_rows}
use Rattle.elf_update_in_place.proofs.moves.LineLaws.{line_row_of, rows_plan}

-- ---- What a rank says of a part

abbrev IsFlag : Object → ℕ × PartAt → Type 0
IsFlag o row = part_changed o row.1.part ≡ rank_changed o row.0

sections_flag : (o : Object) (a n : ℕ) → 1 ≤ a → length o.sections - a ≡ n
    → AllByRecursion (IsFlag o)
    (enumerate_from (a + 1) (map (section_part o) (range_with_len a n) ++ table_part o ∷ []))
unfolding part_changed rank_changed section_part
sections_flag o a zero from count =
    let first : (a + 1 == 0) ≡ false = ne_eqb (a + 1) 0 (λ e. omega (arith, e)) in
    let second : (a + 1 == 1) ≡ false = ne_eqb (a + 1) 1 (λ e. omega (arith, e, from)) in
    let past : nat_lt (a + 1 - 1) (length o.sections) ≡ false =
    le-ltb (a + 1 - 1) (length o.sections) (omega (arith, count)) in
    (rw (first, second, past) refl, tt)
sections_flag o a (suc n) from count =
    let first : (a + 1 == 0) ≡ false = ne_eqb (a + 1) 0 (λ e. omega (arith, e)) in
    let second : (a + 1 == 1) ≡ false = ne_eqb (a + 1) 1 (λ e. omega (arith, e, from)) in
    let at : a + 1 - 1 ≡ a = omega arith in
    let inside : nat_lt (a + 1 - 1) (length o.sections) ≡ true =
    lt-ltb (a + 1 - 1) (length o.sections) (omega (arith, count)) in
    let changed : section_changed o (a + 1 - 1) ≡ section_changed o a = ap (section_changed o) at in (
      rw (first, second, inside, changed) refl,
      sections_flag o (a + 1) n (omega arith) (omega (arith, count)),
    )

parts_flag : (o : Object) → AllByRecursion (IsFlag o) (enumerate_from 0 (parts_of o))
unfolding parts_of part_changed rank_changed
parts_flag o = (refl, (refl, sections_flag o 1 (length o.sections - 1) (omega arith) refl))

ordered_flag : (o : Object) (n end : ℕ) (ps : List PartAt)
    → AllByRecursion (IsFlag o) (enumerate_from n ps)
    → AllByRecursion (IsFlag o) (enumerate_from n (in_order_from end ps))
unfolding in_order_from
ordered_flag o n end [] each = tt
ordered_flag o n end (p ∷ ps) each =
    (each.0, ordered_flag o (n + 1) (end_after end p) ps each.1)

standing_flag : (o : Object) (layout : Bool)
    → AllByRecursion (IsFlag o) (enumerate_from 0 (parts_of o))
    → AllByRecursion (IsFlag o) (enumerate_from 0 (standing (parts_of o) layout))
unfolding standing
standing_flag o true each = each
standing_flag o false each = ordered_flag o 0 0 (parts_of o) each

flag_at : (o : Object) (n : ℕ) (ps : List PartAt) (i : ℕ)
    → AllByRecursion (IsFlag o) (enumerate_from n ps) → i < length ps
    → part_changed o (part_of_rank ps i).part ≡ rank_changed o (n + i)
flag_at o n [] i each there = absurd (omega (arith, there))
flag_at o n (p ∷ ps) zero each there =
    let start : n ≡ n + 0 = omega arith in
    each.0 ∙ ap (rank_changed o) start
flag_at o n (p ∷ ps) (suc i) each there =
    let next : n + 1 + i ≡ n + suc i = omega arith in
    flag_at o (n + 1) ps i each.1 (omega (arith, there)) ∙ ap (rank_changed o) next

flags_of_ranks : (o : Object) (ranks : List ℕ)
    → AllByRecursion (HasRank (placed_parts o)) ranks
    → map (λ row. row.0) (map (line_row_of o) ranks)
    ≡ map (λ p. part_changed o p.part) (map (part_of_rank (placed_parts o)) ranks)
unfolding placed_parts
flags_of_ranks o [] each = refl
flags_of_ranks o (r ∷ ranks) each =
    let at : 0 + r ≡ r = omega arith in
    let here = flag_at o 0 (standing (parts_of o) o.layout) r
    (standing_flag o o.layout (parts_flag o)) each.0.there in
    ap (λ (b : Bool). b ∷ map (λ row. row.0) (map (line_row_of o) ranks))
    (ap (rank_changed o) (sym at) ∙ sym here)
    ∙ ap (λ (l : List Bool).
    part_changed o (part_of_rank (standing (parts_of o) o.layout) r).part ∷ l)
    (flags_of_ranks o ranks each.1)

pub rows_changed : (o : Object)
    → map (λ row. row.0) (planned_rows o) ≡ map (λ p. part_changed o p.part) (planned o)
unfolding planned_rows
rows_changed o =
    flags_of_ranks o (ranks_by_position (placed_parts o)) (ranks_ranked (placed_parts o))

-- ---- Each row

-- the part of a row
pub record IsFlaggedRow (o : Object) (p : PartAt) (row : Bool × Block) : Type 0 where
  pub changed : part_changed o p.part ≡ row.0
  pub at : p.at ≡ row.1.at
  pub bytes : stacked_text (placed o).fill (stored_pieces (placed o) p.part) ≡ row.1.bytes
  pub len : p.len ≡ length row.1.bytes

pub length-rows : (o : Object) → length (planned_rows o) ≡ length (planned o)
unfolding planned_rows
length-rows o =
    length-map (ranks_by_position (placed_parts o)) (line_row_of o)
    ∙ sym (length-map (ranks_by_position (placed_parts o)) (part_of_rank (placed_parts o)))

pub flagged_row_at : (o : Object) (d : PartAt) (e : Bool × Block) (i : ℕ) → IsReady o
    → i < length (planned o) → IsFlaggedRow o (get_or (planned o) i d) (get_or (planned_rows o) i e)
unfolding blocks_at
flagged_row_at o d e i ready there =
    let count = length-rows o in
    let p : PartAt = get_or (planned o) i d in
    let row : Bool × Block = get_or (planned_rows o) i e in
    let pieces = stored_pieces (placed o) in
    let left = get_or-map (block_at (placed o).fill (stored_pieces (placed o))) (planned o) i d
    no_block there in
    let right = get_or-map (λ (r : Bool × Block). r.1) (planned_rows o) i e no_block
    (omega (arith, count, there)) in
    let block : block_at (placed o).fill (stored_pieces (placed o)) (get_or (planned o) i d)
    ≡ (get_or (planned_rows o) i e).1 =
    sym left
    ∙ ap (λ (bs : List Block). get_or bs i no_block)
    (planned_blocks o ready ∙ sym (rows_plan o ready))
    ∙ right in
    let flag = get_or-map (λ (r : Bool × Block). r.0) (planned_rows o) i e false
    (omega (arith, count, there)) in
    let changed = get_or-map (λ (q : PartAt). part_changed o q.part) (planned o) i d false there in
    let long = All-get_or (HasLength (stored_pieces (placed o))) (planned o) i d there
    (planned_long o ready) in
    record {
      changed = sym changed
          ∙ ap (λ (l : List Bool). get_or l i false) (sym (rows_changed o)) ∙ flag;
      at = ap (λ (b : Block). b.at) block;
      bytes = ap (λ (b : Block). b.bytes) block;
      len = long
          ∙ sym (length-joined_pieces (placed o).fill
          (stored_pieces (placed o) (get_or (planned o) i d).part))
          ∙ ap (λ (b : Block). length b.bytes) block;
    }
