-- The parts of an image, and its plan.
use Rattle.std.proofs.Common.{◌≡◌, ℕ, suc, ◌+◌, ◌-◌, ◌<◌, ◌≤◌, Bool, true, false, not, ◌&&◌, List, [], ◌∷◌, ◌++◌, length, Some, refl, sym, ap, ◌∙◌, arith}
use Rattle.std.specs.Prelude.{nat_lt, if◌then◌else◌, slice_get, count_by}
use Rattle.std.specs.List.{range_with_len, filter, AllByRecursion}
use Rattle.std.proofs.lemmas.Bool.{lt-ltb, le-ltb}
use Rattle.std.proofs.lemmas.List.Sums.{length-filter}
use Rattle.std.proofs.lemmas.List.{append-nil}
use Rattle.std.proofs.lemmas.List.Elements.{filter-append}
use Rattle.elf_object.specs.elf_layout.Layout.{length_from, length_of, standing, places_of as parts_places}
use Rattle.elf_object.specs.Blocks.{Block, block_end, is_covered, spread}
use Rattle.elf_object.specs.Object.{Object, is_dirty}
use Rattle.elf_object.specs.Layout.{parts_of, places_of, placed}
use Rattle.elf_object.specs.Image.{part_blocks, kept_base, uncovered_byte, image_length, image, is_fill_place}
use Rattle.elf_object.specs.Changed.{fill_places}
use Rattle.law_object.proofs.ImageLaws.{image-dirty}
use Rattle.law_object.proofs.PlaceLaws.{length_from-ge}
use Rattle.law_object.proofs.StandLaws as stand
use Rattle.law_object.proofs.ReopenLaws.{pairs_apart}
use Rattle.law_object.specs.Writing.Lines.{HoldsBlock, AreInLine, gap_places}
use Rattle.law_object.specs.Writing.Plan.{in_order, plan, base_gaps}
use Rattle.law_object.specs.Writing.Ready.{IsReady}
use Rattle.law_object.specs.Writing.Writing.{PartsAreApart, PlanIsImage, GapsAreFill}
use Rattle.law_object.proofs.writing.LineLaws.{drop-spread}
use Rattle.law_object.proofs.writing.GapLaws.{filter_range, filter_gaps, split_range, filter_range_none, length-base_gaps}
use Rattle.law_object.proofs.writing.SortLaws.{byte_over-in_order, covered-in_order, in_order_line}
use Rattle.law_object.proofs.writing.HeldLaws.{spread_alike}

-- ---- The parts

pub parts : (o : Object) → IsReady o → stand.PartsAreApart o
parts o ready = stand.parts_are_apart o ready.object ready.dirty ready.passed

-- each stands in the image
pub parts_hold : (o : Object) → IsReady o → AllByRecursion (HoldsBlock (image o)) (part_blocks (placed o))
parts_hold o ready = each (part_blocks (placed o)) (λ i b at. stand.part_in_image o i b ready.object ready.dirty ready.passed at)
  where
    each : (bs : List Block) → ((i : ℕ) (b : Block) → slice_get bs i ≡ Some b → HoldsBlock (image o) b) → AllByRecursion (HoldsBlock (image o)) bs
    each [] holds = tt
    each (b ∷ bs) holds = (holds 0 b refl, each bs (λ i c at. holds (suc i) c at))

pub parts_are_apart : (o : Object) → PartsAreApart o
parts_are_apart o = record {
  apart = λ i j k a b ready below first second here there. pairs_apart (part_blocks (placed o)) i j a b (parts o ready).apart below first second k here there;
  within = λ i b ready at some. stand.get_each (λ (x : Block). 0 < length x.bytes → block_end x ≤ image_length o) (part_blocks (placed o)) i b (parts o ready).within at some;
}

-- ---- The plan

pub plan_line : (o : Object) → IsReady o → AreInLine (image_length o) 0 (plan o)
unfolding plan
plan_line o ready = in_order_line (image_length o) (part_blocks (placed o)) (parts o ready).apart (parts o ready).within

pub covered-plan : (o : Object) (k : ℕ) → is_covered (plan o) k ≡ is_covered (part_blocks (placed o)) k
unfolding plan
covered-plan o k = covered-in_order (part_blocks (placed o)) k

plan_spread : (o : Object) → IsReady o → image o ≡ spread (image_length o) (uncovered_byte o) (plan o)
unfolding plan
plan_spread o ready =
    image-dirty o ready.dirty
    ∙ sym (spread_alike (image_length o) (uncovered_byte o) (uncovered_byte o) (in_order (part_blocks (placed o))) (part_blocks (placed o)) (λ k h.
    byte_over-in_order (uncovered_byte o) (part_blocks (placed o)) k (parts o ready).apart))

pub plan_is_image : (o : Object) → PlanIsImage o
plan_is_image o = record {
  line = plan_line o;
  spread = plan_spread o;
  bytes = λ ready. plan_spread o ready ∙ drop-spread (image_length o) (uncovered_byte o) 0 (plan o) (plan_line o ready);
}

-- ---- The base

-- the base that counts is within the image
pub kept_within : (o : Object) → is_dirty o ≡ true → kept_base o ≤ image_length o
unfolding kept_base image_length places_of parts_places length_of
kept_within o dirty =
    let grows = length_from-ge (if o.layout then length o.base else 0) (standing (parts_of o) o.layout) in
    let same : (if is_dirty o then length_from (if o.layout then length o.base else 0) (standing (parts_of o) o.layout) else length o.base) ≡ length_from (if o.layout then length o.base else 0) (standing (parts_of o) o.layout) = rw dirty refl in
    omega arith

-- ---- Gaps

-- a place of the image is one that is filled where no part covers it and it is past the base that counts
pub fill_place_is : (o : Object) (k : ℕ) → k < image_length o → is_fill_place o k ≡ (not (is_covered (plan o) k) && not (nat_lt k (kept_base o)))
unfolding is_fill_place
fill_place_is o k h =
    let inside = lt-ltb k (image_length o) h in
    let same = covered-plan o k in
    rw (inside, same) refl

pub fill_places_are : (o : Object) → IsReady o → fill_places o ≡ filter (λ k. not (nat_lt k (kept_base o))) (gap_places (image_length o) 0 (plan o))
unfolding fill_places
fill_places_are o ready =
    let whole : image_length o ≡ image_length o - 0 = omega arith in
    rw ready.dirty (filter_range (is_fill_place o) (λ k. not (is_covered (plan o) k) && not (nat_lt k (kept_base o))) 0 (image_length o) (λ k a h. fill_place_is o k (omega arith)))
    ∙ ap (λ (n : ℕ). filter (λ k. not (is_covered (plan o) k) && not (nat_lt k (kept_base o))) (range_with_len 0 n)) whole
    ∙ filter_gaps (λ k. not (nat_lt k (kept_base o))) (image_length o) 0 (plan o) (plan_line o ready)

-- the places below a bound
filter_below : (p : ℕ → Bool) (kept n : ℕ) → kept ≤ n → filter p (range_with_len 0 kept) ≡ filter (λ k. p k && nat_lt k kept) (range_with_len 0 n)
filter_below p kept n within =
    let whole : kept + (n - kept) ≡ n = omega arith in
    let first : filter p (range_with_len 0 kept) ≡ filter (λ k. p k && nat_lt k kept) (range_with_len 0 kept) = filter_range p (λ k. p k && nat_lt k kept) 0 kept (λ k a h. kept_test (p k) (nat_lt k kept) (lt-ltb k kept (omega arith))) in
    let second : filter (λ k. p k && nat_lt k kept) (range_with_len kept (n - kept)) ≡ [] = filter_range_none (λ k. p k && nat_lt k kept) kept (n - kept) (λ k a h. no_test (p k) (nat_lt k kept) (le-ltb k kept a)) in
    let at : 0 + kept ≡ kept = omega arith in
    sym (ap (λ (m : ℕ). filter (λ k. p k && nat_lt k kept) (range_with_len 0 m)) (sym whole)
    ∙ ap (filter (λ k. p k && nat_lt k kept)) (split_range 0 kept (n - kept) ∙ ap (λ (a : ℕ). range_with_len 0 kept ++ range_with_len a (n - kept)) at)
    ∙ filter-append (λ k. p k && nat_lt k kept) (range_with_len 0 kept) (range_with_len kept (n - kept))
    ∙ ap (λ (l : List ℕ). filter (λ k. p k && nat_lt k kept) (range_with_len 0 kept) ++ l) second
    ∙ append-nil (filter (λ k. p k && nat_lt k kept) (range_with_len 0 kept))
    ∙ sym first)
  where
    kept_test : (a b : Bool) → b ≡ true → a ≡ (a && b)
    kept_test true true e = refl
    kept_test false b e = refl
    kept_test true false e = cc

    no_test : (a b : Bool) → b ≡ false → (a && b) ≡ false
    no_test true b e = e
    no_test false b e = refl

base_in_gaps : (o : Object) → IsReady o → count_by (λ k. not (is_covered (part_blocks (placed o)) k)) (range_with_len 0 (kept_base o)) ≡ base_gaps (kept_base o) (image_length o) 0 (plan o)
base_in_gaps o ready =
    let line = plan_line o ready in
    let whole : image_length o ≡ image_length o - 0 = omega arith in
    sym (length-filter (λ k. not (is_covered (part_blocks (placed o)) k)) (range_with_len 0 (kept_base o)))
    ∙ ap length (filter_range (λ k. not (is_covered (part_blocks (placed o)) k)) (λ k. not (is_covered (plan o) k)) 0 (kept_base o) (λ k a h. ap not (sym (covered-plan o k))))
    ∙ ap length (filter_below (λ k. not (is_covered (plan o) k)) (kept_base o) (image_length o) (kept_within o ready.dirty))
    ∙ ap (λ (n : ℕ). length (filter (λ k. not (is_covered (plan o) k) && nat_lt k (kept_base o)) (range_with_len 0 n))) whole
    ∙ ap length (filter_gaps (λ k. nat_lt k (kept_base o)) (image_length o) 0 (plan o) line)
    ∙ length-base_gaps (kept_base o) (image_length o) 0 (plan o) line

pub gaps_are_fill : (o : Object) → GapsAreFill o
gaps_are_fill o = record { places = fill_places_are o; base = base_in_gaps o }
