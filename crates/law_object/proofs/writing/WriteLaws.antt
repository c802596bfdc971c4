-- What an update in place writes: it stands in the image, and over the base it gives the image.
use Rattle.std.proofs.Common.{◌≡◌, ℕ, zero, suc, ◌+◌, ◌-◌, ◌<◌, ◌≤◌, max, Bool, true, false, not, ◌&&◌, ◌||◌, List, [], ◌∷◌, ◌++◌, length, take, replicate, get_or, refl, sym, ap, ◌∙◌, subst, arith, ⊎_elim, inl, inr}
use Rattle.std.specs.Prelude.{nat_lt, map, sum_by, cond}
use Rattle.std.specs.List.{range_with_len, list_any, filter, AllByRecursion}
use Rattle.std.proofs.lemmas.Bool.{cases_lt, le-ltb, ltb-false}
use Rattle.std.proofs.lemmas.List.{length-replicate, get_or-replicate, length-take, get_or-take}
use Rattle.std.proofs.lemmas.List.Elements.{All-from_recursion, recursion_from_All}
use Rattle.std.proofs.lemmas.List.Folds.{list_any-append}
use Rattle.std.proofs.lemmas.List.Sums.{sum_by-append}
use Rattle.elf_object.specs.Blocks.{Block, block_end, block_covers, is_covered, byte_over}
use Rattle.elf_object.specs.Object.{Object}
use Rattle.elf_object.specs.Layout.{places_of, placed}
use Rattle.elf_object.specs.Image.{front_blocks, section_block, part_blocks, kept_base, uncovered_byte, image_length, image, is_fill_place}
use Rattle.elf_object.specs.Changed.{header_changed, segments_changed, table_changed, section_changed, changed_blocks, changed_bytes}
use Rattle.law_object.proofs.BlockLaws.{byte_over-uncovered}
use Rattle.law_object.proofs.ImageLaws.{length-image, placed-dirty}
use Rattle.law_object.proofs.StandLaws.{section_count-placed}
use Rattle.law_object.proofs.TornLaws.{image_uncovered}
use Rattle.law_object.proofs.writing.Bools.{neither}
use Rattle.law_object.specs.Writing.Lines.{HoldsBlock, AreInLine, patched}
use Rattle.law_object.specs.Writing.Plan.{plan, fill_block, fill_between, fill_blocks, written_blocks}
use Rattle.law_object.specs.Writing.Ready.{IsReady}
use Rattle.law_object.specs.Writing.Based.{IsBased}
use Rattle.law_object.specs.Writing.Writing.{WrittenStands, InPlace, TornDevice}
use Rattle.law_object.proofs.writing.LineLaws.{end_is, line_within, not_covered}
use Rattle.law_object.proofs.writing.GapLaws.{before_first, length-fill_between, fill_covers}
use Rattle.law_object.proofs.writing.HeldLaws.{stands_from, covered_byte, spread_is}
use Rattle.law_object.proofs.writing.PlanLaws.{parts_hold, plan_line, covered-plan, fill_place_is, fill_places_are}
use Rattle.law_object.proofs.writing.LeftPlaces.{when_block, changed_are, left_stands}

-- ---- The parts that change stand in the image

abbrev Each : (Block → Type 0) → List Block → Type 0
Each P bs = AllByRecursion P bs

each_append : (P : Block → Type 0) (bs cs : List Block) → Each P bs → Each P cs → Each P (bs ++ cs)
each_append P [] cs first second = second
each_append P (b ∷ bs) cs first second = (first.0, each_append P bs cs first.1 second)

each_when : (P : Block → Type 0) (t : Bool) (b : Block) → P b → Each P (when_block t b)
each_when P true b holds = (holds, tt)
each_when P false b holds = tt

-- of a row and one more
row_first : (P : Block → Type 0) (f : ℕ → Block) (a n : ℕ) (last : Block) → Each P (map f (range_with_len a n) ++ last ∷ []) → (s : ℕ) → a ≤ s → s < a + n → P (f s)
row_first P f a zero last each s from below = absurd (omega arith)
row_first P f a (suc n) last each s from below = ⊎_elim
    (λ later. row_first P f (a + 1) n last each.1 s (omega arith) (omega arith))
    (λ here. let same : a ≡ s = omega arith in subst (λ (k : ℕ). P (f k)) same each.0)
    (cases_lt a s)

row_last : (P : Block → Type 0) (f : ℕ → Block) (a n : ℕ) (last : Block) → Each P (map f (range_with_len a n) ++ last ∷ []) → P last
row_last P f a zero last each = each.0
row_last P f a (suc n) last each = row_last P f (a + 1) n last each.1

each_filtered : (P : Block → Type 0) (f : ℕ → Block) (test : ℕ → Bool) (a n : ℕ) → ((s : ℕ) → a ≤ s → s < a + n → P (f s)) → Each P (map f (filter test (range_with_len a n)))
each_filtered P f test a zero holds = tt
each_filtered P f test a (suc n) holds = by_test (test a) (each_filtered P f test (a + 1) n (λ s from below. holds s (omega arith) (omega arith)))
  where
    by_test : (t : Bool) → Each P (map f (filter test (range_with_len (a + 1) n))) → Each P (map f (cond t (a ∷ filter test (range_with_len (a + 1) n)) (filter test (range_with_len (a + 1) n))))
    by_test true rest = (holds a (omega arith) (omega arith), rest)
    by_test false rest = rest

-- the parts of the front and the sections
pub record EachPart (P : Block → Type 0) (o : Object) : Type 0 where
  pub header : P (front_blocks (placed o)).header
  pub segments : P (front_blocks (placed o)).segments
  pub table : P (front_blocks (placed o)).table
  pub section : (s : ℕ) → 1 ≤ s → s < 1 + (length o.sections - 1) → P (section_block (placed o) s)

pub each_part : (P : Block → Type 0) (o : Object) → IsReady o → Each P (part_blocks (placed o)) → EachPart P o
unfolding part_blocks
each_part P o ready each =
    let count : length (placed o).sections ≡ length o.sections = ap (λ (q : Object). length q.sections) (placed-dirty o ready.dirty) ∙ section_count-placed (places_of o) o in
    record {
      header = each.0;
      segments = each.1.0;
      table = row_last P (section_block (placed o)) 1 (length (placed o).sections - 1) (front_blocks (placed o)).table each.1.1;
      section = λ s from below. row_first P (section_block (placed o)) 1 (length (placed o).sections - 1) (front_blocks (placed o)).table each.1.1 s from (omega arith);
    }

changed_hold : (o : Object) → IsReady o → Each (HoldsBlock (image o)) (changed_blocks o)
changed_hold o ready =
    let parts = each_part (HoldsBlock (image o)) o ready (parts_hold o ready) in
    let P : Block → Type 0 = HoldsBlock (image o) in
    subst (Each (HoldsBlock (image o))) (sym (changed_are o ready.dirty))
    (each_append P _ _ (each_append P _ _ (each_append P _ _
    (each_when P (header_changed o) (front_blocks (placed o)).header parts.header)
    (each_when P (segments_changed o) (front_blocks (placed o)).segments parts.segments))
    (each_filtered P (section_block (placed o)) (section_changed o) 1 (length o.sections - 1) parts.section))
    (each_when P (table_changed o) (front_blocks (placed o)).table parts.table))

-- ---- The fill stands in it

fill_holds : (bytes : List ℕ) (kept fill from end : ℕ) → end ≤ length bytes → ((k : ℕ) → from ≤ k → k < end → kept ≤ k → get_or bytes k 0 ≡ fill) → HoldsBlock bytes (fill_block kept fill from end)
fill_holds bytes kept fill from end fits each =
    let count = length-replicate (end - max from kept) fill in
    stands_from bytes (max from kept) (replicate (end - max from kept) fill) (λ some. omega arith) (λ j h.
    each (max from kept + j) (omega arith) (omega arith) (omega arith)
    ∙ sym (get_or-replicate (end - max from kept) j fill 0 (omega arith)))

fills_hold : (bytes : List ℕ) (kept fill end from : ℕ) (bs : List Block) → AreInLine end from bs → end ≤ length bytes → ((k : ℕ) → from ≤ k → k < end → kept ≤ k → is_covered bs k ≡ false → get_or bytes k 0 ≡ fill) → Each (HoldsBlock bytes) (fill_between kept fill end from bs)
unfolding is_covered
fills_hold bytes kept fill end from [] line fits each = (fill_holds bytes kept fill from end fits (λ k a b c. each k a b c refl), tt)
fills_hold bytes kept fill end from (b ∷ bs) line fits each =
    let last = end_is b in
    let start = line.0 in
    let inside = line_within end (block_end b) bs line.1 in (
      fill_holds bytes kept fill from b.at (omega arith) (λ k a below c. each k a (omega arith) c (before_first b bs end k line.1 below)),
      fills_hold bytes kept fill end (block_end b) bs line.1 fits (λ k a below c none. each k (omega arith) below c (behind b bs k a none)),
    )
  where
    behind : (b : Block) (bs : List Block) (k : ℕ) → block_end b ≤ k → list_any (λ x. block_covers x k) bs ≡ false → (block_covers b k || list_any (λ x. block_covers x k) bs) ≡ false
    behind b bs k past none =
        let last = end_is b in
        let out = not_covered b k (inr (omega arith)) in
        rw (out, none) refl

uncovered_fill : (o : Object) (k : ℕ) → kept_base o ≤ k → uncovered_byte o k ≡ o.fill
unfolding uncovered_byte
uncovered_fill o k past = let test = le-ltb k (kept_base o) past in rw test refl

filled_hold : (o : Object) → IsReady o → Each (HoldsBlock (image o)) (fill_blocks o)
unfolding fill_blocks
filled_hold o ready =
    let len = length-image o in
    fills_hold (image o) (kept_base o) o.fill (image_length o) 0 (plan o) (plan_line o ready) (omega arith) (λ k a below past none.
    image_uncovered o k ready.dirty below (sym (covered-plan o k) ∙ none) ∙ uncovered_fill o k past)

pub written_hold : (o : Object) → IsReady o → Each (HoldsBlock (image o)) (written_blocks o)
unfolding written_blocks
written_hold o ready = each_append (HoldsBlock (image o)) (changed_blocks o) (fill_blocks o) (changed_hold o ready) (filled_hold o ready)

written_count : (o : Object) → IsReady o → sum_by (λ b. length b.bytes) (written_blocks o) ≡ changed_bytes o
unfolding written_blocks fill_blocks changed_bytes
written_count o ready =
    sum_by-append (λ b. length b.bytes) (changed_blocks o) (fill_between (kept_base o) o.fill (image_length o) 0 (plan o))
    ∙ ap (λ (n : ℕ). sum_by (λ b. length b.bytes) (changed_blocks o) + n)
    (length-fill_between (kept_base o) o.fill (image_length o) 0 (plan o) (plan_line o ready) ∙ sym (ap length (fill_places_are o ready)))

pub written_stands : (o : Object) → WrittenStands o
written_stands o = record {
  stands = λ ready. All-from_recursion (HoldsBlock (image o)) (written_blocks o) (written_hold o ready);
  bytes = written_count o;
}

-- ---- Over the base

-- a place in nothing that is written is in no part that changes, and is not filled
pub unwritten : (o : Object) (k : ℕ) → IsReady o → k < image_length o → is_covered (written_blocks o) k ≡ false → (is_covered (changed_blocks o) k ≡ false) × (is_fill_place o k ≡ false)
unfolding written_blocks is_covered fill_blocks
unwritten o k ready inside none =
    let tests = neither (is_covered (changed_blocks o) k) (is_covered (fill_blocks o) k) (sym (list_any-append (λ b. block_covers b k) (changed_blocks o) (fill_blocks o)) ∙ none) in
    (tests.0, fill_place_is o k inside ∙ by_test (is_covered (plan o) k) (nat_lt k (kept_base o)) refl refl tests.1)
  where
    by_test : (a b : Bool) → is_covered (plan o) k ≡ a → nat_lt k (kept_base o) ≡ b → is_covered (fill_blocks o) k ≡ false → (not a && not b) ≡ false
    by_test true b e f g = refl
    by_test false true e f g = refl
    by_test false false e f g =
        let over = fill_covers (kept_base o) o.fill (image_length o) 0 (plan o) k (plan_line o ready) (omega arith) inside (ltb-false k (kept_base o) f) e in
        let clash : false ≡ true = sym g ∙ over in cc

-- a device that begins with the base
begins : (base held : List ℕ) (k : ℕ) → take (length base) held ≡ base → k < length base → get_or held k 0 ≡ get_or base k 0
begins base held k same below =
    sym (get_or-take (length base) held k 0 below) ∙ ap (λ (l : List ℕ). get_or l k 0) same

-- a place in no block, where all that is to be written is among them, has its byte already
pub unwritten_same : (o : Object) (blocks : List Block) (held : List ℕ) (k : ℕ) → IsReady o → IsBased o → ((j : ℕ) → is_covered (written_blocks o) j ≡ true → is_covered blocks j ≡ true) → take (length o.base) held ≡ o.base → k < image_length o → is_covered blocks k ≡ false → get_or held k 0 ≡ get_or (image o) k 0
unwritten_same o blocks held k ready is all starts inside none =
    let tests = unwritten o k ready inside (missing (is_covered (written_blocks o) k) refl) in
    let left = left_stands o k ready is inside tests.0 tests.1 in
    begins o.base held k starts left.0 ∙ sym left.1
  where
    missing : (c : Bool) → is_covered (written_blocks o) k ≡ c → c ≡ false
    missing true e = let clash : false ≡ true = sym none ∙ all k e in cc
    missing false e = refl

pub in_place : (o : Object) → InPlace o
unfolding patched
in_place o blocks held ready is holds all starts =
    spread_is (image_length o) (λ k. get_or held k 0) blocks (image o) (length-image o) (λ k inside. by_test k inside (is_covered blocks k) refl)
  where
    by_test : (k : ℕ) → k < image_length o → (c : Bool) → is_covered blocks k ≡ c → byte_over (λ j. get_or held j 0) blocks k ≡ get_or (image o) k 0
    by_test k inside true over = covered_byte (image o) (λ j. get_or held j 0) blocks k (recursion_from_All (HoldsBlock (image o)) blocks holds) over
    by_test k inside false none =
        byte_over-uncovered (λ j. get_or held j 0) blocks k none ∙ unwritten_same o blocks held k ready is all starts inside none

-- ---- A device on which it failed

pub torn_device : (o : Object) → TornDevice o
torn_device o old held starts torn =
    let whole = length-take (length o.base) held in
    let was = ap length starts in
    let old_len = length-take (length o.base) old in
    record {
      len = ⊎_elim (λ same. inl (omega arith)) (λ same. inr (omega arith)) torn.len;
      each = λ k below. ⊎_elim
          (λ e. inl (get_or-take (length o.base) held k 0 (omega arith) ∙ e ∙ begins o.base old k starts (omega arith)))
          (λ now. inr (get_or-take (length o.base) held k 0 (omega arith) ∙ now.1))
          (torn.each k (omega arith));
    }
