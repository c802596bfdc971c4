-- Each part of an image is among those that change, or stands in the base; so each place that is left alone has the base's
-- byte.
use Rattle.std.proofs.Common.{◌≡◌, ℕ, zero, suc, ◌+◌, ◌-◌, ◌<◌, ◌≤◌, Bool, true, false, not, ◌&&◌, ◌||◌, List, [], ◌∷◌, ◌++◌, length, get_or, refl, sym, ap, ◌∙◌, subst, arith, ⊎_elim, ◌⊎◌, inl, inr}
use Rattle.std.specs.Prelude.{nat_lt, if◌then◌else◌, map, cond}
use Rattle.std.specs.List.{range_with_len, list_any, filter, AllByRecursion}
use Rattle.std.proofs.lemmas.Bool.{cases_lt, ltb-true}
use Rattle.std.proofs.lemmas.List.{map-append}
use Rattle.std.proofs.lemmas.List.Folds.{list_any-append}
use Rattle.elf_types.specs.declared.records.Part.{Part}
use Rattle.elf_types.specs.declared.records.Part.TheVariants as part
use Rattle.elf_object.specs.Blocks.{Block, block_covers, is_covered}
use Rattle.elf_object.specs.Object.{Object, is_dirty}
use Rattle.elf_object.specs.Layout.{section_numbers, places_of, placed}
use Rattle.elf_object.specs.Image.{front_blocks, section_block, part_blocks, kept_base, uncovered_byte, image}
use Rattle.elf_object.specs.Changed.{header_changed, segments_changed, table_changed, section_changed, when, changed_parts, changed_blocks}
use Rattle.law_object.proofs.ImageLaws.{placed-dirty}
use Rattle.law_object.proofs.StandLaws.{section_count-placed}
use Rattle.std.proofs.Math.Bool.{or-true}
use Rattle.law_object.proofs.TornLaws.{image_uncovered}
use Rattle.law_object.specs.Writing.Lines.{HoldsBlock}
use Rattle.law_object.specs.Writing.Based.{IsBased}
use Rattle.law_object.specs.Writing.Plan.{plan}
use Rattle.law_object.specs.Writing.Ready.{IsReady}
use Rattle.law_object.specs.Writing.Writing.{LeftStands}
use Rattle.law_object.proofs.writing.HeldLaws.{held_byte, held_within}
use Rattle.law_object.proofs.writing.PlanLaws.{parts_hold, fill_place_is, covered-plan}
use Rattle.law_object.proofs.writing.LeftLaws.{header_stands, segments_stand, table_stands, section_stands}

-- ---- The blocks that change

-- a block, where it changes
abbrev pub when_block : Bool → Block → List Block
when_block b x = if b then x ∷ [] else []

snd : Part × Block → Block
snd row = row.1

map_when : (b : Bool) (p : Part) (x : Block) → map snd (when b (p, x)) ≡ when_block b x
unfolding snd
map_when true p x = refl
map_when false p x = refl

map_sections : (f : ℕ → Block) (ns : List ℕ) → map snd (map (λ s. (part.Section s, f s)) ns) ≡ map f ns
unfolding snd
map_sections f [] = refl
map_sections f (n ∷ ns) = ap (λ (l : List Block). f n ∷ l) (map_sections f ns)

-- header, program header table, sections, section header table
abbrev pub changed_of : Object → List Block
changed_of o =
    when_block (header_changed o) (front_blocks (placed o)).header
    ++ when_block (segments_changed o) (front_blocks (placed o)).segments
    ++ map (section_block (placed o)) (filter (section_changed o) (section_numbers o))
    ++ when_block (table_changed o) (front_blocks (placed o)).table

map_four : (a b c d : List (Part × Block)) → map snd (a ++ b ++ c ++ d) ≡ map snd a ++ map snd b ++ map snd c ++ map snd d
map_four a b c d =
    map-append snd (a ++ b ++ c) d
    ∙ ap (λ (l : List Block). l ++ map snd d) (map-append snd (a ++ b) c ∙ ap (λ (l : List Block). l ++ map snd c) (map-append snd a b))

four_same : (a b c d e f g h : List Block) → a ≡ e → b ≡ f → c ≡ g → d ≡ h → a ++ b ++ c ++ d ≡ e ++ f ++ g ++ h
four_same a b c d e f g h p q r s = cc

pub changed_are : (o : Object) → is_dirty o ≡ true → changed_blocks o ≡ changed_of o
unfolding changed_blocks changed_parts snd
changed_are o dirty =
    let header : List (Part × Block) = when (header_changed o) (part.Header, (front_blocks (placed o)).header) in
    let segments : List (Part × Block) = when (segments_changed o) (part.Segments, (front_blocks (placed o)).segments) in
    let sections : List (Part × Block) = map (λ s. (part.Section s, section_block (placed o) s)) (filter (section_changed o) (section_numbers o)) in
    let table : List (Part × Block) = when (table_changed o) (part.Table, (front_blocks (placed o)).table) in
    map_four header segments sections table
    ∙ four_same (map snd header) (map snd segments) (map snd sections) (map snd table) _ _ _ _
    (map_when (header_changed o) part.Header (front_blocks (placed o)).header)
    (map_when (segments_changed o) part.Segments (front_blocks (placed o)).segments)
    (map_sections (section_block (placed o)) (filter (section_changed o) (section_numbers o)))
    (map_when (table_changed o) part.Table (front_blocks (placed o)).table)

-- ---- Among blocks

-- the places of a block are covered by others
abbrev pub IsAmong : Block → List Block → Type 0
IsAmong b bs = (k : ℕ) → block_covers b k ≡ true → is_covered bs k ≡ true

pub among_left : (b : Block) (bs cs : List Block) → IsAmong b bs → IsAmong b (bs ++ cs)
unfolding is_covered
among_left b bs cs among k over =
    list_any-append (λ x. block_covers x k) bs cs ∙ ap (λ (t : Bool). t || is_covered cs k) (among k over)

pub among_right : (b : Block) (bs cs : List Block) → IsAmong b cs → IsAmong b (bs ++ cs)
unfolding is_covered
among_right b bs cs among k over =
    list_any-append (λ x. block_covers x k) bs cs ∙ ap (λ (t : Bool). is_covered bs k || t) (among k over) ∙ or-true (is_covered bs k)

among_first : (b : Block) (bs : List Block) → IsAmong b (b ∷ bs)
unfolding is_covered
among_first b bs k over = ap (λ (t : Bool). t || is_covered bs k) over

among_when : (t : Bool) (b : Block) → t ≡ true → IsAmong b (when_block t b)
among_when true b e = among_first b []
among_when false b e = cc

-- a section that passes a test
among_sections : (f : ℕ → Block) (test : ℕ → Bool) (a n s : ℕ) → a ≤ s → s < a + n → test s ≡ true → IsAmong (f s) (map f (filter test (range_with_len a n)))
unfolding is_covered
among_sections f test a zero s from below passes k over = absurd (omega arith)
among_sections f test a (suc n) s from below passes k over = ⊎_elim
    (λ later.
    let rest = among_sections f test (a + 1) n s (omega arith) (omega arith) passes k over in
    by_test (test a) rest)
    (λ here.
    let same : s ≡ a = omega arith in
    let first : test a ≡ true = ap test (sym same) ∙ passes in
    let cover : block_covers (f a) k ≡ true = ap (λ (x : ℕ). block_covers (f x) k) (sym same) ∙ over in
    rw first (rw cover refl))
    (cases_lt a s)
  where
    by_test : (t : Bool) → list_any (λ x. block_covers x k) (map f (filter test (range_with_len (a + 1) n))) ≡ true → list_any (λ x. block_covers x k) (map f (cond t (a ∷ filter test (range_with_len (a + 1) n)) (filter test (range_with_len (a + 1) n)))) ≡ true
    by_test true rest = rw rest (or-true (block_covers (f a) k))
    by_test false rest = rest

-- ---- Parts that are left alone

-- a part changes, or stands in the base
abbrev IsLeftOrWritten : Object → Block → Type 0
IsLeftOrWritten o b = IsAmong b (changed_blocks o) ⊎ HoldsBlock o.base b

by_flag : (o : Object) (b : Block) (t : Bool) → (t ≡ true → IsAmong b (changed_blocks o)) → (t ≡ false → HoldsBlock o.base b) → IsLeftOrWritten o b
by_flag o b true among holds = inl (among refl)
by_flag o b false among holds = inr (holds refl)

among_changed : (o : Object) (b : Block) → is_dirty o ≡ true → IsAmong b (changed_of o) → IsAmong b (changed_blocks o)
among_changed o b dirty among = subst (IsAmong b) (sym (changed_are o dirty)) among

header_part : (o : Object) → IsReady o → IsBased o → IsLeftOrWritten o (front_blocks (placed o)).header
header_part o ready is = by_flag o (front_blocks (placed o)).header (header_changed o)
    (λ e. among_changed o (front_blocks (placed o)).header ready.dirty
    (among_left _ _ _ (among_left _ _ _ (among_left _ _ _ (among_when (header_changed o) (front_blocks (placed o)).header e)))))
    (header_stands o ready.dirty is)

segments_part : (o : Object) → IsReady o → IsBased o → IsLeftOrWritten o (front_blocks (placed o)).segments
segments_part o ready is = by_flag o (front_blocks (placed o)).segments (segments_changed o)
    (λ e. among_changed o (front_blocks (placed o)).segments ready.dirty
    (among_left _ _ _ (among_left _ _ _ (among_right _ _ _ (among_when (segments_changed o) (front_blocks (placed o)).segments e)))))
    (segments_stand o ready.dirty is)

table_part : (o : Object) → IsReady o → IsBased o → IsLeftOrWritten o (front_blocks (placed o)).table
table_part o ready is = by_flag o (front_blocks (placed o)).table (table_changed o)
    (λ e. among_changed o (front_blocks (placed o)).table ready.dirty
    (among_right _ _ _ (among_when (table_changed o) (front_blocks (placed o)).table e)))
    (table_stands o ready.dirty is)

section_part : (o : Object) (s : ℕ) → IsReady o → IsBased o → 1 ≤ s → s < 1 + (length o.sections - 1) → IsLeftOrWritten o (section_block (placed o) s)
section_part o s ready is from below = by_flag o (section_block (placed o) s) (section_changed o s)
    (λ e. among_changed o (section_block (placed o) s) ready.dirty
    (among_left _ _ _ (among_right _ _ _ (among_sections (section_block (placed o)) (section_changed o) 1 (length o.sections - 1) s from below e))))
    (λ e. section_stands o s ready is (omega arith) e)

row_of : (P : Block → Type 0) (f : ℕ → Block) (a n : ℕ) (last : Block) → ((s : ℕ) → a ≤ s → s < a + n → P (f s)) → P last → AllByRecursion P (map f (range_with_len a n) ++ last ∷ [])
row_of P f a zero last each end = (end, tt)
row_of P f a (suc n) last each end = (each a (omega arith) (omega arith), row_of P f (a + 1) n last (λ s from below. each s (omega arith) (omega arith)) end)

pub each_part : (o : Object) → IsReady o → IsBased o → AllByRecursion (IsLeftOrWritten o) (part_blocks (placed o))
unfolding part_blocks
each_part o ready is =
    let count : length (placed o).sections ≡ length o.sections = ap (λ (q : Object). length q.sections) (placed-dirty o ready.dirty) ∙ section_count-placed (places_of o) o in (
      header_part o ready is,
      (
        segments_part o ready is,
        row_of (IsLeftOrWritten o) (section_block (placed o)) 1 (length (placed o).sections - 1) (front_blocks (placed o)).table
            (λ s from below. section_part o s ready is from (omega arith)) (table_part o ready is),
      ),
    )

-- ---- Places

-- a place that a part block_covers, and no part that changes
left_covered : (o : Object) (bs : List Block) (k : ℕ) → AllByRecursion (IsLeftOrWritten o) bs → AllByRecursion (HoldsBlock (image o)) bs → is_covered (changed_blocks o) k ≡ false → is_covered bs k ≡ true → (k < length o.base) × (get_or (image o) k 0 ≡ get_or o.base k 0)
unfolding is_covered
left_covered o [] k each holds left over = cc
left_covered o (b ∷ bs) k each holds left over = by_test (block_covers b k) refl over (left_covered o bs k each.1 holds.1 left)
  where
    by_test : (c : Bool) → block_covers b k ≡ c → (c || is_covered bs k) ≡ true → (is_covered bs k ≡ true → (k < length o.base) × (get_or (image o) k 0 ≡ get_or o.base k 0)) → (k < length o.base) × (get_or (image o) k 0 ≡ get_or o.base k 0)
    by_test true e any rest = ⊎_elim
        (λ among. let clash : false ≡ true = sym left ∙ among k e in cc)
        (λ stands. (held_within o.base b k stands e, sym (held_byte (image o) b k holds.0 e) ∙ held_byte o.base b k stands e))
        each.0
    by_test false e any rest = rest any

uncovered_base : (o : Object) (k : ℕ) → nat_lt k (kept_base o) ≡ true → (k < length o.base) × (uncovered_byte o k ≡ get_or o.base k 0)
unfolding uncovered_byte kept_base
uncovered_base o k below = (within o.layout below, rw below refl)
  where
    within : (b : Bool) → nat_lt k (if b then length o.base else 0) ≡ true → k < length o.base
    within true e = ltb-true k (length o.base) e
    within false e = let none = ltb-true k 0 e in absurd (omega arith)

pub left_stands : (o : Object) → LeftStands o
left_stands o k ready is inside left unfilled = by_test (is_covered (part_blocks (placed o)) k) refl
  where
    by_test : (c : Bool) → is_covered (part_blocks (placed o)) k ≡ c → (k < length o.base) × (get_or (image o) k 0 ≡ get_or o.base k 0)
    by_test true over = left_covered o (part_blocks (placed o)) k (each_part o ready is) (parts_hold o ready) left over
    by_test false none =
        let test : (not (is_covered (plan o) k) && not (nat_lt k (kept_base o))) ≡ false = sym (fill_place_is o k inside) ∙ unfilled in
        let below : nat_lt k (kept_base o) ≡ true = kept (is_covered (plan o) k) (nat_lt k (kept_base o)) test (covered-plan o k ∙ none) in
        let base = uncovered_base o k below in
        (base.0, image_uncovered o k ready.dirty inside none ∙ base.1)
      where
        kept : (a b : Bool) → (not a && not b) ≡ false → a ≡ false → b ≡ true
        kept true b h e = cc
        kept false true h e = refl
        kept false false h e = cc
