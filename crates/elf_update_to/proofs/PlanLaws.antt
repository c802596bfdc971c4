-- The plan of an update: its blocks, their lengths, and what they are due.
use Rattle.std.proofs.Common.{◌≡◌, ℕ, zero, suc, ◌+◌, ◌-◌, ◌<◌, ◌≤◌, Bool, true, false, ◌&&◌, List, [], ◌∷◌, ◌++◌, length, get_or, refl, sym, ap, ◌∙◌, subst, arith, ⊎_elim}
use Rattle.std.specs.Prelude.{nat_lt, if◌then◌else◌, ◌==◌, not, ◌||◌, map, cond, sum_by, All}
use Rattle.std.specs.List.{range_with_len, enumerate_from, filter, AllByRecursion}
use Rattle.std.proofs.lemmas.Bool.{cases_lt, ltb-true}
use Rattle.std.proofs.lemmas.List.Sums.{sum_by-cons}
use Rattle.std.proofs.lemmas.List.Elements.{All-from_recursion}
use Rattle.elf_update_plan.specs.elf_layout.declared.parts.PartAt.{PartAt}
use Rattle.elf_update_plan.specs.elf_layout.Layout.{end_after, in_order_from, standing}
use Rattle.elf_update_plan.specs.elf_layout.Meeting.{has_bytes, sorted_by, ranked_from, ranks_by_position}
use Rattle.elf_update_plan.specs.elf_object.Blocks.{Block}
use Rattle.elf_update_plan.specs.elf_object.Object.{Object, Section, section_at, absent_section, has_file_bytes, home_is_clean, is_dirty}
use Rattle.elf_update_plan.specs.elf_object.Open.{no_block}
use Rattle.elf_update_plan.specs.elf_object.Layout.{section_part, table_part, parts_of, placed_parts, places_of, placed_section, placed}
use Rattle.elf_update_plan.specs.elf_object.Image.{part_blocks}
use Rattle.elf_update_plan.specs.elf_object.Due.{is_loaded, home_due, homes_due, clean_homes}
use Rattle.elf_update_plan.proofs.law_object.ImageLaws.{placed-dirty, section_at-placed}
use Rattle.elf_update_plan.proofs.law_object.StandLaws.{IsBlockOf, AreBlocksOf, placed_blocks, section_at-past, type-placed, section_count-placed}
use Rattle.elf_update_plan.specs.law_object.Writing.Plan.{plan, block_of_rank, section_due, rank_due}
use Rattle.elf_update_plan.specs.law_object.Writing.Ready.{IsReady}
use Rattle.elf_update_plan.proofs.law_object.writing.RankLaws.{plan_by_rank}
use Rattle.elf_update_plan.proofs.law_object.writing.SortLaws.{each_sorted}
use Rattle.elf_update_plan.proofs.law_object.writing.DueLaws.{plan_due}
use Rattle.elf_update_plan.specs.Plans.{part_of_rank}
use Rattle.elf_update_to.specs.Pieces.{stacked_text, block_at, blocks_at, HasLength}
use Rattle.elf_update_to.specs.Descriptors.{stored_pieces, stored_due, planned}
use Rattle.elf_update_to.proofs.PieceLaws.{length-joined_pieces}
use Rattle.elf_update_to.proofs.PartBytes.{placed_same, same_at}

-- ---- The ranks of a plan

-- a rank is that of a part that is not empty
pub record HasRank (ps : List PartAt) (rank : ℕ) : Type 0 where
  pub there : rank < length ps
  pub some : has_bytes (part_of_rank ps rank) ≡ true

-- a part with its rank
record IsAt (ps : List PartAt) (row : ℕ × PartAt) : Type 0 where
  pub there : row.0 < length ps
  pub is : part_of_rank ps row.0 ≡ row.1

each_at : (n : ℕ) (ps all : List PartAt) → ((i : ℕ) → i < length ps → (n + i < length all)
    × (part_of_rank all (n + i) ≡ part_of_rank ps i))
    → AllByRecursion (IsAt all) (enumerate_from n ps)
each_at n [] all at = tt
each_at n (p ∷ ps) all at =
    let start : n + 0 ≡ n = omega arith in
    let here = at 0 (omega arith) in (
      record { there = omega (arith, here.0); is = ap (part_of_rank all) (sym start) ∙ here.1 },
      each_at (n + 1) ps all (λ i h.
          let next : n + 1 + i ≡ n + suc i = omega arith in
          let there = at (suc i) (omega arith) in
          (omega (arith, there.0), ap (part_of_rank all) next ∙ there.1)),
    )

-- those that pass a test
each_passed : (ps : List PartAt) (rows : List (ℕ × PartAt)) → AllByRecursion (IsAt ps) rows
    → AllByRecursion (λ x. HasRank ps x.0) (filter (λ x. has_bytes x.1) rows)
each_passed ps [] each = tt
each_passed ps (x ∷ rows) each = by_test (has_bytes x.1) refl (each_passed ps rows each.1)
  where
    by_test : (t : Bool) → has_bytes x.1 ≡ t → AllByRecursion (λ y. HasRank ps y.0) (filter (λ y. has_bytes y.1) rows)
        → AllByRecursion (λ y. HasRank ps y.0)
        (cond t (x ∷ filter (λ y. has_bytes y.1) rows) (filter (λ y. has_bytes y.1) rows))
    by_test true e rest = (record { there = each.0.there; some = ap has_bytes each.0.is ∙ e }, rest)
    by_test false e rest = rest

each_first : (P : ℕ → Type 0) (rows : List (ℕ × PartAt)) → AllByRecursion (λ x. P x.0) rows
    → AllByRecursion P (map (λ x. x.0) rows)
each_first P [] each = tt
each_first P (x ∷ rows) each = (each.0, each_first P rows each.1)

pub ranks_ranked : (ps : List PartAt) → AllByRecursion (HasRank ps) (ranks_by_position ps)
unfolding ranks_by_position ranked_from
ranks_ranked ps =
    each_first (HasRank ps) (sorted_by (λ x. x.1.at) (filter (λ x. has_bytes x.1) (enumerate_from 0 ps)))
    (each_sorted (λ (x : ℕ × PartAt). x.1.at) (λ x. HasRank ps x.0) (filter (λ x. has_bytes x.1) (enumerate_from 0 ps))
    (each_passed ps (enumerate_from 0 ps) (each_at 0 ps ps
    (λ i h. let at : 0 + i ≡ i = omega arith in (omega (arith, h), ap (part_of_rank ps) at)))))

-- ---- Their blocks

of_at : (bs : List Block) (ps : List PartAt) (i : ℕ) → AreBlocksOf bs ps → i < length ps
    → IsBlockOf (get_or bs i no_block) (part_of_rank ps i)
unfolding AreBlocksOf
of_at [] [] i are there = absurd (omega arith)
of_at [] (p ∷ ps) i are there = absurd are
of_at (b ∷ bs) [] i are there = absurd are
of_at (b ∷ bs) (p ∷ ps) zero are there = are.0
of_at (b ∷ bs) (p ∷ ps) (suc i) are there = of_at bs ps i are.1 (omega arith)

record IsFilled (p : PartAt) : Type 0 where
  pub filled : p.filled ≡ true
  pub some : 0 < p.len

filled_from : (p : PartAt) → has_bytes p ≡ true → IsFilled p
unfolding has_bytes
filled_from p h = by_test p.filled refl h
  where
    by_test : (f : Bool) → p.filled ≡ f → (f && nat_lt 0 p.len) ≡ true → IsFilled p
    by_test true e t = record { filled = e; some = ltb-true 0 p.len t }
    by_test false e t = cc

module _ (o : Object) (ready : IsReady o) where
  are : AreBlocksOf (part_blocks (placed o)) (placed_parts o)
  unfolding placed_parts standing
  are =
      subst (λ (q : Object). AreBlocksOf (part_blocks q) (placed_parts o))
      (sym (placed-dirty o ready.dirty)) (placed_blocks o ready.object.pad)

  -- the part with a rank is as long as its block, and stands where that does
  record IsThatBlock (p : PartAt) (b : Block) : Type 0 where
    pub at : p.at ≡ b.at
    pub bytes : stacked_text (placed o).fill (stored_pieces (placed o) p.part) ≡ b.bytes
    pub len : p.len ≡ length b.bytes

rank_block : (o : Object) (ready : IsReady o) (rank : ℕ) → HasRank (placed_parts o) rank
    → IsThatBlock o ready (part_of_rank (placed_parts o) rank) (block_of_rank o rank)
unfolding block_of_rank
rank_block o ready rank ranked =
    let p : PartAt = part_of_rank (placed_parts o) rank in
    let of = of_at (part_blocks (placed o)) (placed_parts o) rank (are o ready) ranked.there in
    let full = filled_from (part_of_rank (placed_parts o) rank) ranked.some in
    let long : length (get_or (part_blocks (placed o)) rank no_block).bytes ≡ (part_of_rank (placed_parts o) rank).len =
    of.len ∙ ap (λ (f : Bool). if f then (part_of_rank (placed_parts o) rank).len else 0) full.filled in
    record {
      at = sym (of.at (omega (arith, long, full.some)));
      bytes = same_at (placed o) (part_blocks (placed o)) (placed_parts o) rank
          (placed_same o ready.dirty) ranked.there;
      len = sym long;
    }

same_block : (b : Block) (at : ℕ) (bytes : List ℕ) → at ≡ b.at → bytes ≡ b.bytes
    → ◌≡◌ {A = Block} (record { at = at; bytes = bytes }) b
same_block b at bytes place is =
    let first : ◌≡◌ {A = Block} (record { at = at; bytes = bytes })
    (record { at = b.at; bytes = bytes }) = ap (λ (n : ℕ). record { at = n; bytes = bytes })
    place in
    let second : ◌≡◌ {A = Block} (record { at = b.at; bytes = bytes }) b =
    ap (λ (l : List ℕ). record { at = b.at; bytes = l }) is in
    first ∙ second

blocks_of : (o : Object) (ready : IsReady o) (ranks : List ℕ) → AllByRecursion (HasRank (placed_parts o)) ranks
    → blocks_at (placed o).fill (stored_pieces (placed o))
    (map (part_of_rank (placed_parts o)) ranks) ≡ map (block_of_rank o) ranks
unfolding blocks_at
blocks_of o ready [] each = refl
blocks_of o ready (r ∷ ranks) each =
    let is = rank_block o ready r each.0 in
    ap (λ (b : Block). b ∷ map (block_at (placed o).fill (stored_pieces (placed o)))
    (map (part_of_rank (placed_parts o)) ranks))
    (same_block (block_of_rank o r) (part_of_rank (placed_parts o) r).at
    (stacked_text (placed o).fill (stored_pieces (placed o) (part_of_rank (placed_parts o) r).part)) is.at
    is.bytes)
    ∙ ap (λ (l : List Block). block_of_rank o r ∷ l) (blocks_of o ready ranks each.1)

pub planned_blocks : (o : Object) → IsReady o → blocks_at (placed o).fill (stored_pieces (placed o))
    (planned o) ≡ plan o
planned_blocks o ready =
    blocks_of o ready (ranks_by_position (placed_parts o)) (ranks_ranked (placed_parts o))
    ∙ sym (plan_by_rank o ready)

long_of : (o : Object) (ready : IsReady o) (ranks : List ℕ) → AllByRecursion (HasRank (placed_parts o)) ranks
    → AllByRecursion (HasLength (stored_pieces (placed o))) (map (part_of_rank (placed_parts o)) ranks)
long_of o ready [] each = tt
long_of o ready (r ∷ ranks) each =
    let is = rank_block o ready r each.0 in (
      is.len ∙ ap length (sym is.bytes) ∙ length-joined_pieces (placed o).fill
          (stored_pieces (placed o) (part_of_rank (placed_parts o) r).part),
      long_of o ready ranks each.1,
    )

pub planned_long : (o : Object) → IsReady o → All (HasLength (stored_pieces (placed o))) (planned o)
planned_long o ready =
    All-from_recursion (HasLength (stored_pieces (placed o))) (planned o)
    (long_of o ready (ranks_by_position (placed_parts o)) (ranks_ranked (placed_parts o)))

-- ---- What they are due

past_due : (o : Object) (loaded : List Bool) (s : ℕ) → length o.sections ≤ s → section_due o loaded s ≡ 0
unfolding section_due home_is_clean
past_due o loaded s past =
    let absent = section_at-past o s past in
    ap (λ (c : Section). if has_file_bytes s c && home_is_clean c then home_due o loaded s else 0)
    absent ∙ by_test (has_file_bytes s absent_section)
  where
    by_test : (b : Bool) → (if b && false then home_due o loaded s else 0) ≡ 0
    by_test true = refl
    by_test false = refl

first_due_none : (o : Object) (loaded : List Bool) → section_due o loaded 0 ≡ 0
unfolding section_due has_file_bytes
first_due_none o loaded = refl

same_due_at : (o : Object) (loaded : List Bool) (s : ℕ) → is_dirty o ≡ true
    → section_due (placed o) loaded s ≡ section_due o loaded s
unfolding section_due has_file_bytes home_is_clean home_due placed_section section_at
same_due_at o loaded s dirty = ⊎_elim
    (λ inside.
    ap (λ (q : Object). section_due q loaded s) (placed-dirty o dirty)
    ∙ ap (λ (c : Section). if has_file_bytes s c && home_is_clean c then
    (if is_loaded loaded s || c.home.out then 0 else c.home.len) else 0)
    (section_at-placed (places_of o) o s inside)
    ∙ ap (λ (t : ℕ). if (not (s == 0) && not (t == 0 || t == 8)) && home_is_clean
    (section_at o s) then (if is_loaded loaded s || (section_at o s).home.out then 0 else
    (section_at o s).home.len) else 0)
    (type-placed (places_of o) o s (section_at o s).header))
    (λ past.
    let count : length (placed o).sections ≡ length o.sections =
    ap (λ (q : Object). length q.sections) (placed-dirty o dirty)
    ∙ section_count-placed (places_of o) o in
    past_due (placed o) loaded s (omega (arith, count, past)) ∙ sym (past_due o loaded s past))
    (cases_lt s (length o.sections))

abbrev IsDue : Object → List Bool → ℕ × PartAt → Type 0
IsDue o loaded row = stored_due (placed o) loaded row.1.part ≡ rank_due o loaded row.0

sections_due : (o : Object) (loaded : List Bool) (a n : ℕ) → is_dirty o ≡ true → length o.sections ≤ a + n
    → AllByRecursion (IsDue o loaded) (enumerate_from (a + 1)
    (map (section_part o) (range_with_len a n) ++ table_part o ∷ []))
unfolding rank_due section_part
sections_due o loaded a zero dirty past =
    let at : a + 1 - 1 ≡ a = omega arith in
    (sym (ap (section_due o loaded) at ∙ past_due o loaded a (omega (arith, past))), tt)
sections_due o loaded a (suc n) dirty past =
    let at : a + 1 - 1 ≡ a = omega arith in (
      same_due_at o loaded a dirty ∙ sym (ap (section_due o loaded) at),
      sections_due o loaded
          (a + 1) n dirty (omega (arith, past)),
    )

parts_due : (o : Object) (loaded : List Bool) → is_dirty o ≡ true
    → AllByRecursion (IsDue o loaded) (enumerate_from 0 (parts_of o))
unfolding parts_of rank_due
parts_due o loaded dirty = (
  sym (first_due_none o loaded),
  (
    sym (first_due_none o loaded),
    sections_due o loaded 1
        (length o.sections - 1) dirty (omega arith),
  ),
)

ordered_due : (o : Object) (loaded : List Bool) (n end : ℕ) (ps : List PartAt)
    → AllByRecursion (IsDue o loaded) (enumerate_from n ps)
    → AllByRecursion (IsDue o loaded) (enumerate_from n (in_order_from end ps))
unfolding in_order_from
ordered_due o loaded n end [] each = tt
ordered_due o loaded n end (p ∷ ps) each = (each.0, ordered_due o loaded (n + 1) (end_after end p) ps each.1)

standing_due : (o : Object) (loaded : List Bool) (layout : Bool)
    → AllByRecursion (IsDue o loaded) (enumerate_from 0 (parts_of o))
    → AllByRecursion (IsDue o loaded) (enumerate_from 0 (standing (parts_of o) layout))
unfolding standing
standing_due o loaded true each = each
standing_due o loaded false each = ordered_due o loaded 0 0 (parts_of o) each

due_at : (o : Object) (loaded : List Bool) (n : ℕ) (ps : List PartAt) (i : ℕ)
    → AllByRecursion (IsDue o loaded) (enumerate_from n ps) → i < length ps
    → stored_due (placed o) loaded (part_of_rank ps i).part ≡ rank_due o loaded (n + i)
due_at o loaded n [] i each there = absurd (omega arith)
due_at o loaded n (p ∷ ps) zero each there =
    each.0 ∙ ap (rank_due o loaded) (let start : n ≡ n + 0 = omega arith in start)
due_at o loaded n (p ∷ ps) (suc i) each there =
    due_at o loaded (n + 1) ps i each.1 (omega arith)
    ∙ ap (rank_due o loaded) (let next : n + 1 + i ≡ n + suc i = omega arith in next)

dues_of : (o : Object) (loaded : List Bool) (dirty : is_dirty o ≡ true) (ranks : List ℕ)
    → AllByRecursion (HasRank (placed_parts o)) ranks
    → sum_by (λ p. stored_due (placed o) loaded p.part) (map (part_of_rank (placed_parts o)) ranks)
    ≡ sum_by (rank_due o loaded) ranks
unfolding placed_parts
dues_of o loaded dirty [] each = refl
dues_of o loaded dirty (r ∷ ranks) each =
    let here = due_at o loaded 0 (standing (parts_of o) o.layout) r
    (standing_due o loaded o.layout (parts_due o loaded dirty)) each.0.there in
    let at : rank_due o loaded (0 + r) ≡ rank_due o loaded r = ap (rank_due o loaded) (omega arith) in
    let first = sum_by-cons (λ (p : PartAt). stored_due (placed o) loaded p.part)
    (part_of_rank (standing (parts_of o) o.layout) r)
    (map (part_of_rank (standing (parts_of o) o.layout)) ranks) in
    let other = sum_by-cons (rank_due o loaded) r ranks in
    let rest = dues_of o loaded dirty ranks each.1 in
    omega (arith, here, at, first, other, rest)

pub planned_due : (o : Object) (loaded : List Bool) → IsReady o
    → sum_by (λ p. stored_due (placed o) loaded p.part) (planned o) ≡ homes_due o loaded (clean_homes o)
planned_due o loaded ready =
    dues_of o loaded ready.dirty (ranks_by_position (placed_parts o))
    (ranks_ranked (placed_parts o)) ∙ plan_due o loaded ready
