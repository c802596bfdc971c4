-- What the checks of an image have found so far.
use Rattle.std.proofs.Common.{◌≡◌, ℕ, zero, suc, ◌+◌, ◌^◌, ◌<◌, ◌≤◌, Bool, true, false, List, [], ◌∷◌, length, drop, get_or, Option, Some, None, refl, sym, ◌∙◌, subst, arith, ⊎_elim}
use Rattle.std.specs.Prelude.{◌↔◌, map, All, IfSome, IsTrue, slice_get}
use Rattle.std.specs.List.{AllByRecursion}
use Rattle.std.specs.Option.{SomeIff}
use Rattle.std.proofs.lemmas.Bool.{cases_lt}
use Rattle.std.proofs.lemmas.List.{drop_more, drop_all}
use Rattle.std.proofs.lemmas.List.Elements.{recursion_from_All}
use Rattle.std.proofs.lemmas.Option.{slice_get-get_or}
use Rattle.elf_types.specs.declared.records.Part.{Part}
use Rattle.elf_types.specs.declared.records.Part.TheVariants as part
use Rattle.elf_layout.specs.declared.parts.PartAt.{PartAt}
use Rattle.elf_layout.specs.Layout.{rounded_up}
use Rattle.elf_update_to.specs.elf_object.Blocks.{stacked, last_end, block_end}
use Rattle.elf_update_to.specs.law_object.Writing.Lines.{AreInLine}
use Rattle.elf_update_to.proofs.law_object.writing.LineLaws.{line_within}
use Rattle.elf_update_to.specs.Pieces.{pieces_length, block_at, blocks_at, HasLength}
use Rattle.elf_update_to.proofs.PieceLaws.{length-joined_pieces}
use Rattle.rebuild_image.specs.declared.ranges.ranges.ByteRange.{ByteRange}
use Rattle.rebuild_image.specs.Ranges.Ranges.{range_bytes, IsInside, len_at, range_at, pieces_at, LiesInside, KeptRanges, ranged_pieces, AreInside}
use Rattle.rebuild_image.specs.Ranges.Images.{ranged_blocks, IsReadyImage, ArePlanned, StandsBehind}
use Rattle.rebuild_image.proofs.ranges.RangeLaws.{range_long}

-- ---- The ranges

-- of a list of which each is found so, the first ones are
abbrev pub FoundBelow : {X : Type 0} → (X → Type 0) → List X → ℕ → Type 0
FoundBelow {X} P l n = (i : ℕ) (d : X) → i < n → P (get_or l i d)

pub found_more : {X : Type 0} (P : X → Type 0) (l : List X) (n : ℕ) (x : X) → n < length l
    → FoundBelow P l n → P (get_or l n x) → FoundBelow P l (n + 1)
found_more {X} P l n x there found here = λ i d below.
    ⊎_elim (λ less. found i d less)
    (λ last. let same : n ≡ i = omega (arith, below, last) in
    subst (λ (j : ℕ). P (get_or l j d)) same (by_default l n there here d))
    (cases_lt i n)
  where
    by_default : (xs : List X) (j : ℕ) → j < length xs → P (get_or xs j x) → (d : X)
        → P (get_or xs j d)
    by_default [] j there is d = absurd (omega (arith, there))
    by_default (y ∷ xs) zero there is d = is
    by_default (y ∷ xs) (suc j) there is d = by_default xs j (omega (arith, there)) is d

-- an answer and what it tells
pub no_by : (P : Type 0) → (P → ⊥) → IsTrue false ↔ P
no_by P never = ((λ is. let clash : false ≡ true = is in cc), λ p. absurd (never p))

pub never_both : (b : Bool) → IsTrue b → b ≡ false → ⊥
never_both b is other = let clash : true ≡ false = sym is ∙ other in cc

-- one that is not found so
pub not_each : {X : Type 0} (P : X → Type 0) (l m : List X) (i : ℕ) (d : X) → l ≡ m → i < length l
    → (P (get_or l i d) → ⊥) → All P m → ⊥
not_each {X} P l m i d same there out all =
    let each = subst (λ (x : List X). All P x) (sym same) all in
    out (each i d there)

get_each : {X : Type 0} (P : X → Type 0) (l : List X) (i : ℕ) → AllByRecursion P l
    → IfSome (slice_get l i) P
get_each P [] i each = tt
get_each P (x ∷ l) zero each = each.0
get_each P (x ∷ l) (suc i) each = get_each P l i each.1

pub all_inside : (k : KeptRanges) → IsInside k.held k.source.base k.ranges.header
    → IsInside k.held k.source.base k.ranges.segments → IsInside k.held k.source.base k.ranges.table
    → All (IsInside k.held k.source.base) k.ranges.sections → AreInside k
all_inside k header segments table sections part.Header = header
all_inside k header segments table sections part.Segments = segments
all_inside k header segments table sections part.Table = table
all_inside k header segments table sections (part.Section s) =
    get_each (IsInside k.held k.source.base) k.ranges.sections s
    (recursion_from_All (IsInside k.held k.source.base) k.ranges.sections sections)
all_inside k header segments table sections part.Object = tt
all_inside k header segments table sections (part.Piece s p) = tt

pub sections_inside : (k : KeptRanges) → AreInside k
    → All (IsInside k.held k.source.base) k.ranges.sections
sections_inside k inside = λ i d there.
    subst (λ (o : Option ByteRange). LiesInside k.held k.source.base o)
    (slice_get-get_or k.ranges.sections i d there) (inside (part.Section i))

-- ---- The plan

one_length : (bytes : List ℕ) → pieces_length ((1, bytes) ∷ []) ≡ length bytes
unfolding pieces_length stacked last_end block_end rounded_up
one_length bytes = omega arith

no_length : pieces_length [] ≡ 0
unfolding pieces_length stacked last_end
no_length = refl

-- a part's pieces are as long as its range
pub ranged_length : (k : KeptRanges) (of : Part) → AreInside k
    → pieces_length (ranged_pieces k of) ≡ len_at (range_at k.ranges of)
ranged_length k of inside = by (range_at k.ranges of) (inside of)
  where
    by : (o : Option ByteRange) → LiesInside k.held k.source.base o
        → pieces_length (pieces_at k.held k.source.base o) ≡ len_at o
    by None lies = no_length
    by (Some range) lies =
        one_length (range_bytes k.held k.source.base range)
        ∙ range_long k.held k.source.base range lies

pub behind_sum : (k : KeptRanges) (p : PartAt) (end : ℕ) (r : Option ℕ)
    → HasLength (ranged_pieces k) p → end ≤ p.at
    → SomeIff r (p.at + p.len < 2 ^ 64) (p.at + p.len)
    → SomeIff r (StandsBehind k p end) (p.at + p.len)
behind_sum k p end (Some n) long first is =
    (record { long = long; first = first; fits = is.0 }, is.1)
behind_sum k p end None long first is = λ stands. is stands.fits

-- the first parts are as long, and what stands in line behind them stands in line behind all, and
-- the other way round
pub record PlannedBelow (k : KeptRanges) (plan : List PartAt) (end i from : ℕ) : Type 0 where
  pub long : FoundBelow (HasLength (ranged_pieces k)) plan i
  pub line : AreInLine end from (ranged_blocks k (drop i plan))
      → AreInLine end 0 (ranged_blocks k plan)
  pub back : AreInLine end 0 (ranged_blocks k plan)
      → AreInLine end from (ranged_blocks k (drop i plan))

pub plan_begins : (k : KeptRanges) (plan : List PartAt) (end : ℕ) → PlannedBelow k plan end 0 0
plan_begins k plan end = record {
  long = λ i d below. absurd (omega (arith, below));
  line = λ line. line;
  back = λ line. line;
}

-- the next part in line
module _ (k : KeptRanges) (plan : List PartAt) (end i from : ℕ) (d : PartAt)
    (there : i < length plan) where
  abbrev next : PartAt
  next = get_or plan i d

  part_ends : HasLength (ranged_pieces k) next
      → next.at + next.len ≡ block_end (block_at 0 (ranged_pieces k) next)
  unfolding block_end
  part_ends long =
      let all = length-joined_pieces 0 (ranged_pieces k next.part) in
      omega (arith, all, long)

  next_in_line : PlannedBelow k plan end i from → AreInLine end 0 (ranged_blocks k plan)
      → (from ≤ next.at) × AreInLine end (block_end (block_at 0 (ranged_pieces k) next))
      (ranged_blocks k (drop (i + 1) plan))
  unfolding blocks_at
  next_in_line below line =
      subst (λ (l : List PartAt). AreInLine end from (map (block_at 0 (ranged_pieces k)) l))
      (drop_more plan i d there) (below.back line)

  pub plan_goes_on : (after : ℕ) → PlannedBelow k plan end i from
      → StandsBehind k next from × (after ≡ next.at + next.len)
      → PlannedBelow k plan end (i + 1) after
  unfolding blocks_at
  plan_goes_on after below stands =
      let ends = stands.1 ∙ part_ends stands.0.long in
      record {
        long = found_more (HasLength (ranged_pieces k)) plan i d there below.long stands.0.long;
        line = λ line. below.line
            (subst (λ (l : List PartAt). AreInLine end from (map (block_at 0 (ranged_pieces k)) l))
            (sym (drop_more plan i d there)) (
              stands.0.first,
              subst (λ (n : ℕ).
                  AreInLine end n (map (block_at 0 (ranged_pieces k)) (drop (i + 1) plan))) ends
                  line,
            ));
        back = λ line.
            subst (λ (n : ℕ). AreInLine end n (ranged_blocks k (drop (i + 1) plan))) (sym ends)
            (next_in_line below line).1;
      }

  pub plan_stops : PlannedBelow k plan end i from → end < 2 ^ 64
      → (StandsBehind k next from → ⊥) → ArePlanned k plan end → ⊥
  plan_stops below small never planned =
      let long = planned.long i d there in
      let line = next_in_line below planned.line in
      let within = line_within end (block_end (block_at 0 (ranged_pieces k) next))
      (ranged_blocks k (drop (i + 1) plan)) line.1 in
      let ends = part_ends long in
      never (record {
        long = long;
        first = line.0;
        fits = omega (arith, within, ends, small);
      })

module _ (k : KeptRanges) (plan : List PartAt) (end i from : ℕ) (all : length plan ≤ i)
    (below : PlannedBelow k plan end i from) where
  pub plan_ends : from ≤ end → ArePlanned k plan end
  unfolding blocks_at
  plan_ends within = record {
    long = λ j d there. below.long j d (omega (arith, there, all));
    line = below.line
        (subst (λ (l : List PartAt). AreInLine end from (map (block_at 0 (ranged_pieces k)) l))
        (sym (drop_all i plan all)) within);
  }

  pub plan_within : ArePlanned k plan end → from ≤ end
  unfolding blocks_at
  plan_within planned =
      subst (λ (l : List PartAt). AreInLine end from (map (block_at 0 (ranged_pieces k)) l))
      (drop_all i plan all) (below.back planned.line)

-- ---- Both

pub image_ready_of : (k : KeptRanges) (listed plan : List PartAt) (end len : ℕ) → listed ≡ plan
    → AreInside k → len ≡ length k.source.base → k.kept ≤ len → ArePlanned k listed end
    → IsReadyImage k plan end
image_ready_of k listed plan end len same inside base most planned =
    subst (λ (l : List PartAt). IsReadyImage k l end) same (record {
      inside = inside;
      kept = omega (arith, base, most);
      long = planned.long;
      line = planned.line;
    })

pub planned_of : (k : KeptRanges) (listed plan : List PartAt) (end : ℕ) → listed ≡ plan
    → IsReadyImage k plan end → ArePlanned k listed end
planned_of k listed plan end same ready =
    subst (λ (l : List PartAt). ArePlanned k l end) (sym same)
    (record { long = ready.long; line = ready.line })
