-- What an update in place writes, by its places: it covers the places of the parts that change and
-- of the fill, and is as many bytes.
use Rattle.std.proofs.Common.{◌≡◌, ℕ, ◌+◌, ◌-◌, Bool, true, false, ◌||◌, List, [], ◌∷◌, ◌++◌, length, refl, sym, ap, ◌∙◌, subst, arith, ⊎_elim}
use Rattle.std.specs.Prelude.{map, sum_by, nat_lt, if◌then◌else◌}
use Rattle.std.specs.List.{list_any, AllByRecursion}
use Rattle.std.proofs.lemmas.Bool.{cases_lt}
use Rattle.std.proofs.lemmas.List.Sums.{sum_by-cons, sum_by-append}
use Rattle.elf_layout.specs.Meeting.{ranks_by_position}
use Rattle.elf_update_to.specs.elf_object.Blocks.{Block, block_end, block_covers, is_covered, extents_meet}
use Rattle.elf_update_to.specs.elf_object.Object.{Object, Home, no_home}
use Rattle.elf_update_to.specs.elf_object.Layout.{placed_parts}
use Rattle.elf_update_to.specs.elf_object.Image.{kept_base, uncovered_byte, image_length, image}
use Rattle.elf_update_to.specs.elf_object.Changed.{when, changed_blocks, changed_bytes}
use Rattle.elf_update_to.proofs.law_object.StandLaws.{covered_from}
use Rattle.elf_update_to.specs.law_object.Writing.Lines.{HoldsBlock, IsLeft}
use Rattle.elf_update_to.specs.law_object.Writing.Plan.{plan, block_of_rank, rank_changed, fill_block, fill_between, fill_blocks, written_blocks, meets_some, bytes_below, written_below, rank_written_below}
use Rattle.elf_update_to.specs.law_object.Writing.Ready.{IsReady}
use Rattle.elf_update_to.proofs.law_object.writing.LineLaws.{covers_from, end_is}
use Rattle.elf_update_to.proofs.law_object.writing.HeldLaws.{stands_within}
use Rattle.elf_update_to.proofs.law_object.writing.PlanLaws.{plan_line, plan_is_image}
use Rattle.elf_update_to.proofs.law_object.writing.RankLaws.{plan_by_rank}
use Rattle.elf_update_to.proofs.law_object.writing.SumLaws.{sum_mapped}
use Rattle.elf_update_to.proofs.law_object.writing.BelowLaws.{meets_by_sums, written_by_plan}
use Rattle.elf_update_to.proofs.law_object.writing.DisturbedLaws.{meeting_from, meeting_to, same_test}
use Rattle.elf_update_to.proofs.law_object.writing.UnderWayLaws.{left_start, left_next}
use Rattle.elf_update_to.proofs.law_object.writing.WriteLaws.{written_hold, written_stands}
use Rattle.elf_update_in_place.specs.Moves.Written.{planned_rows, written_between, written_line}

-- ---- The rows are those of the plan

map_map : {X Y Z : Type 0} (g : Y → Z) (f : X → Y) (l : List X)
    → map g (map f l) ≡ map (λ x. g (f x)) l
map_map g f [] = refl
map_map {X} {Y} {Z} g f (x ∷ l) = ap (λ (m : List Z). g (f x) ∷ m) (map_map g f l)

abbrev pub line_row_of : Object → ℕ → Bool × Block
line_row_of o rank = (rank_changed o rank, block_of_rank o rank)

pub rows_plan : (o : Object) → IsReady o → map (λ row. row.1) (planned_rows o) ≡ plan o
unfolding planned_rows
rows_plan o ready =
    map_map (λ (row : Bool × Block). row.1) (line_row_of o) (ranks_by_position (placed_parts o))
    ∙ sym (plan_by_rank o ready)

-- ---- Sums

-- what a part counts where it changes
abbrev row_weight : (Block → ℕ) → Bool × Block → ℕ
row_weight w row = if row.0 then w row.1 else 0

sum_when_changed : (w : Block → ℕ) (t : Bool) (b : Block)
    → sum_by w (when t b) ≡ (if t then w b else 0)
sum_when_changed w true b = let one = sum_by-cons w b [] in omega (arith, one)
sum_when_changed w false b = refl

line_sum : (w : Block → ℕ) (kept fill end from : ℕ) (rows : List (Bool × Block))
    → sum_by w (written_between kept fill end from rows)
    ≡ sum_by (row_weight w) rows
    + sum_by w (fill_between kept fill end from (map (λ row. row.1) rows))
line_sum w kept fill end from [] = omega arith
line_sum w kept fill end from (row ∷ rows) =
    let gap : Block = fill_block kept fill from row.1.at in
    let more : List Block = written_between kept fill end (block_end row.1) rows in
    let rest = line_sum w kept fill end (block_end row.1) rows in
    let first = sum_by-cons w (fill_block kept fill from row.1.at)
    (when row.0 row.1 ++ written_between kept fill end (block_end row.1) rows) in
    let both = sum_by-append w (when row.0 row.1)
    (written_between kept fill end (block_end row.1) rows) in
    let one = sum_when_changed w row.0 row.1 in
    let all = sum_by-cons (row_weight w) row rows in
    let fills = sum_by-cons w (fill_block kept fill from row.1.at)
    (fill_between kept fill end (block_end row.1) (map (λ r. r.1) rows)) in
    omega (arith, rest, first, both, one, all, fills)

-- as much is written below each place
pub line_below : (o : Object) (x : ℕ) → IsReady o
    → written_below (written_line o) x ≡ written_below (written_blocks o) x
unfolding written_line planned_rows written_below rank_written_below fill_blocks
line_below o x ready =
    let ranks : List ℕ = ranks_by_position (placed_parts o) in
    line_sum (bytes_below x) (kept_base o) o.fill (image_length o) 0 (planned_rows o)
    ∙ ap (λ (n : ℕ). n + sum_by (bytes_below x)
    (fill_between (kept_base o) o.fill (image_length o) 0 (map (λ row. row.1) (planned_rows o))))
    (sum_mapped (row_weight (bytes_below x)) (line_row_of o) (ranks_by_position (placed_parts o)))
    ∙ ap (λ (bs : List Block).
    sum_by (rank_written_below o x) (ranks_by_position (placed_parts o))
    + sum_by (bytes_below x) (fill_between (kept_base o) o.fill (image_length o) 0 bs))
    (rows_plan o ready)
    ∙ sym (written_by_plan o x ready)

-- ---- Homes and places that meet it

pub line_meets : (o : Object) (home : Home) → IsReady o
    → meets_some home (written_line o) ≡ meets_some home (written_blocks o)
line_meets o home ready =
    meets_by_sums home (written_line o)
    ∙ ap (λ (n : ℕ). nat_lt n (written_below (written_line o) (home.at + home.len)))
    (line_below o home.at ready)
    ∙ ap (λ (n : ℕ). nat_lt (written_below (written_blocks o) home.at) n)
    (line_below o (home.at + home.len) ready)
    ∙ sym (meets_by_sums home (written_blocks o))

-- a place by itself
abbrev one_place : ℕ → Home
one_place k = record no_home { at = k; len = 1 }

covers_meets : (b : Block) (k : ℕ) → block_covers b k ≡ extents_meet k 1 b.at (length b.bytes)
covers_meets b k =
    same_test (block_covers b k) (extents_meet k 1 b.at (length b.bytes))
    (λ h.
    let is = covered_from b k h in
    let from = is.from in
    let below = is.below in
    meeting_to k 1 b.at (length b.bytes) (record {
      some = omega arith;
      other = omega (arith, from, below);
      before = omega (arith, below);
      after = omega (arith, from);
    }))
    (λ h.
    let is = meeting_from k 1 b.at (length b.bytes) h in
    let before = is.before in
    let after = is.after in
    covers_from b k (omega (arith, after)) (omega (arith, before)))

covered_meets : (bs : List Block) (k : ℕ) → is_covered bs k ≡ meets_some (one_place k) bs
unfolding is_covered meets_some
covered_meets [] k = refl
covered_meets (b ∷ bs) k =
    ap (λ (t : Bool). t || list_any (λ c. block_covers c k) bs) (covers_meets b k)
    ∙ ap (λ (t : Bool). extents_meet k 1 b.at (length b.bytes) || t) (covered_meets bs k)

-- it covers the same places
pub line_covers : (o : Object) (k : ℕ) → IsReady o
    → is_covered (written_line o) k ≡ is_covered (written_blocks o) k
line_covers o k ready =
    covered_meets (written_line o) k
    ∙ line_meets o (one_place k) ready
    ∙ sym (covered_meets (written_blocks o) k)

-- ---- It stands in the image

each_left : (end : ℕ) (otherwise : ℕ → ℕ) (bytes : List ℕ) (from : ℕ) (bs : List Block)
    → IsLeft end otherwise bytes from bs → AllByRecursion (HoldsBlock bytes) bs
each_left end otherwise bytes from [] is = tt
each_left end otherwise bytes from (b ∷ bs) is =
    let next = left_next end otherwise bytes from b bs is in
    (next.block, each_left end otherwise bytes (block_end b) bs next.rest)

-- the plan is left, of the image, at first
pub plan_left : (o : Object) → IsReady o
    → IsLeft (image_length o) (uncovered_byte o) (image o) 0 (plan o)
plan_left o ready =
    subst (λ (l : List ℕ). IsLeft (image_length o) (uncovered_byte o) l 0 (plan o))
    (sym ((plan_is_image o).spread ready))
    (left_start (image_length o) (uncovered_byte o) (plan o) (plan_line o ready))

pub each_right : (P : Block → Type 0) (bs cs : List Block) → AllByRecursion P (bs ++ cs)
    → AllByRecursion P cs
each_right P [] cs each = each
each_right P (b ∷ bs) cs each = each_right P bs cs each.1

each_when_then : (P : Block → Type 0) (t : Bool) (b : Block) (bs : List Block) → P b
    → AllByRecursion P bs → AllByRecursion P (when t b ++ bs)
each_when_then P true b bs here rest = (here, rest)
each_when_then P false b bs here rest = rest

each_between : (P : Block → Type 0) (kept fill end from : ℕ) (rows : List (Bool × Block))
    → AllByRecursion P (fill_between kept fill end from (map (λ row. row.1) rows))
    → AllByRecursion P (map (λ row. row.1) rows)
    → AllByRecursion P (written_between kept fill end from rows)
each_between P kept fill end from [] fills parts = fills
each_between P kept fill end from (row ∷ rows) fills parts = (
  fills.0,
  each_when_then P row.0 row.1 (written_between kept fill end (block_end row.1) rows) parts.0
      (each_between P kept fill end (block_end row.1) rows fills.1 parts.1),
)

pub line_holds : (o : Object) → IsReady o
    → AllByRecursion (HoldsBlock (image o)) (written_line o)
unfolding written_line written_blocks fill_blocks
line_holds o ready =
    let P : Block → Type 0 = HoldsBlock (image o) in
    let same = sym (rows_plan o ready) in
    each_between (HoldsBlock (image o)) (kept_base o) o.fill (image_length o) 0 (planned_rows o)
    (subst (λ (bs : List Block). AllByRecursion (HoldsBlock (image o))
    (fill_between (kept_base o) o.fill (image_length o) 0 bs)) (sym (rows_plan o ready))
    (each_right (HoldsBlock (image o)) (changed_blocks o) (fill_blocks o) (written_hold o ready)))
    (subst (λ (bs : List Block). AllByRecursion (HoldsBlock (image o)) bs)
    (sym (rows_plan o ready))
    (each_left (image_length o) (uncovered_byte o) (image o) 0 (plan o) (plan_left o ready)))

-- ---- As many bytes

count_below : (bytes : List ℕ) (b : Block) → HoldsBlock bytes b
    → bytes_below (length bytes) b ≡ length b.bytes
count_below bytes b holds =
    let last = end_is b in
    ⊎_elim
    (λ some.
    let within = stands_within bytes b.at b.bytes (length b.bytes - 1) holds (omega arith) in
    omega (arith, last, some, within))
    (λ none. omega (arith, last, none))
    (cases_lt 0 (length b.bytes))

counts_below : (bytes : List ℕ) (bs : List Block) → AllByRecursion (HoldsBlock bytes) bs
    → sum_by (bytes_below (length bytes)) bs ≡ sum_by (λ b. length b.bytes) bs
counts_below bytes [] each = refl
counts_below bytes (b ∷ bs) each =
    let first = sum_by-cons (bytes_below (length bytes)) b bs in
    let second = sum_by-cons (λ (c : Block). length c.bytes) b bs in
    let here = count_below bytes b each.0 in
    let rest = counts_below bytes bs each.1 in
    omega (arith, first, second, here, rest)

pub line_count : (o : Object) → IsReady o
    → sum_by (λ b. length b.bytes) (written_line o) ≡ changed_bytes o
unfolding written_below
line_count o ready =
    sym (counts_below (image o) (written_line o) (line_holds o ready))
    ∙ line_below o (length (image o)) ready
    ∙ counts_below (image o) (written_blocks o) (written_hold o ready)
    ∙ (written_stands o).bytes ready
