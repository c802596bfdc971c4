-- Running sums: which homes meet blocks, and what is written below a place.
use Rattle.std.proofs.Common.{◌≡◌, ℕ, zero, suc, ◌+◌, ◌-◌, ◌<◌, ◌≤◌, Bool, true, false, ◌||◌, List, [], ◌∷◌, ◌++◌, length, get_or, refl, sym, ap, ◌∙◌, subst, arith, ⊎_elim}
use Rattle.std.specs.Prelude.{nat_lt, ◌==◌, sum_by, map, cond, if◌then◌else◌}
use Rattle.std.specs.List.{list_any, filter, range_with_len, enumerate_from, AllByRecursion}
use Rattle.std.proofs.lemmas.Bool.{lt-ltb, le-ltb, ltb-true, ltb-false, ne_eqb}
use Rattle.std.proofs.lemmas.List.{length-append}
use Rattle.std.proofs.lemmas.List.FromFn.{length-map-range_with_len}
use Rattle.std.proofs.lemmas.List.Sums.{sum_by-cons, sum_by-append}
use Rattle.elf_types.specs.declared.records.Part.{Part}
use Rattle.elf_types.specs.declared.records.Part.TheVariants as part
use Rattle.elf_object.specs.elf_layout.declared.parts.PartAt.{PartAt}
use Rattle.elf_object.specs.Blocks.{Block, block_end, extents_meet}
use Rattle.elf_object.specs.Object.{Object, is_dirty}
use Rattle.elf_object.specs.Open.{no_block}
use Rattle.elf_object.specs.Layout.{section_numbers, placed_parts, placed_by, places_of, placed}
use Rattle.elf_object.specs.Image.{front_blocks, section_block, part_blocks}
use Rattle.elf_object.specs.Changed.{when, header_changed, segments_changed, section_changed, table_changed, changed_parts, changed_blocks}
use Rattle.law_object.proofs.ImageLaws.{placed-dirty}
use Rattle.law_object.proofs.StandLaws.{AreBlocksOf, placed_blocks, section_count-placed, row_left, row_last}
use Rattle.law_object.specs.Writing.Plan.{block_of_rank, fill_blocks, written_blocks, meets_some, bytes_below, written_below, rank_changed, rank_written_below}
use Rattle.law_object.specs.Writing.Writing.{MeetsBySums, WrittenByPlan}
use Rattle.law_object.proofs.writing.LineLaws.{end_is}
use Rattle.law_object.proofs.writing.RankLaws.{same_filled}
use Rattle.law_object.proofs.writing.SumLaws.{CountsNone, range_more, first_two, sum_mapped, sum_shifted, sum_by_position}
use Rattle.law_object.proofs.writing.DisturbedLaws.{meeting_from, meeting_to, same_test, either_true, left_true, right_true}

-- ---- Homes that meet blocks

-- a greater place has no fewer bytes below it
below_grows : (x y : ℕ) (blocks : List Block) → x ≤ y
    → sum_by (bytes_below x) blocks ≤ sum_by (bytes_below y) blocks
below_grows x y [] more = omega arith
below_grows x y (b ∷ bs) more =
    let rest = below_grows x y bs more in
    let here = sum_by-cons (bytes_below x) b bs in
    let there = sum_by-cons (bytes_below y) b bs in
    omega (arith, rest, here, there)

-- of one block, an extent meets it where more of its bytes stand below the end
one_meets : (a m : ℕ) (b : Block) → extents_meet a m b.at (length b.bytes) ≡ true
    → bytes_below a b < bytes_below (a + m) b
one_meets a m b h =
    let is = meeting_from a m b.at (length b.bytes) h in
    omega (arith, end_is b, is.some, is.other, is.before, is.after)

one_met : (a m : ℕ) (b : Block) → bytes_below a b < bytes_below (a + m) b
    → extents_meet a m b.at (length b.bytes) ≡ true
one_met a m b h =
    let last = end_is b in
    meeting_to a m b.at (length b.bytes)
    (record { some = omega arith; other = omega arith; before = omega arith; after = omega arith })

some_meets : (a m : ℕ) (blocks : List Block)
    → list_any (λ b. extents_meet a m b.at (length b.bytes)) blocks ≡ true
    → sum_by (bytes_below a) blocks < sum_by (bytes_below (a + m)) blocks
some_meets a m [] h = cc
some_meets a m (b ∷ bs) h =
    let here = sum_by-cons (bytes_below a) b bs in
    let there = sum_by-cons (bytes_below (a + m)) b bs in
    let grows = below_grows a (a + m) bs (omega arith) in
    ⊎_elim
    (λ first. let more = one_meets a m b first in omega (arith, here, there, grows, more))
    (λ rest. let more = some_meets a m bs rest in omega (arith, here, there, more))
    (either_true (extents_meet a m b.at (length b.bytes))
    (list_any (λ c. extents_meet a m c.at (length c.bytes)) bs) h)

some_met : (a m : ℕ) (blocks : List Block)
    → sum_by (bytes_below a) blocks < sum_by (bytes_below (a + m)) blocks
    → list_any (λ b. extents_meet a m b.at (length b.bytes)) blocks ≡ true
some_met a m [] h = absurd (omega arith)
some_met a m (b ∷ bs) h =
    let here = sum_by-cons (bytes_below a) b bs in
    let there = sum_by-cons (bytes_below (a + m)) b bs in
    by_sum (nat_lt (bytes_below a b) (bytes_below (a + m) b)) refl (some_met a m bs) here there
  where
    by_sum : (t : Bool) → nat_lt (bytes_below a b) (bytes_below (a + m) b) ≡ t
        → (sum_by (bytes_below a) bs < sum_by (bytes_below (a + m)) bs
        → list_any (λ c. extents_meet a m c.at (length c.bytes)) bs ≡ true)
        → sum_by (bytes_below a) (b ∷ bs) ≡ bytes_below a b + sum_by (bytes_below a) bs
        → sum_by (bytes_below (a + m)) (b ∷ bs)
        ≡ bytes_below (a + m) b + sum_by (bytes_below (a + m)) bs
        → (extents_meet a m b.at (length b.bytes)
        || list_any (λ c. extents_meet a m c.at (length c.bytes)) bs) ≡ true
    by_sum true e rest here there =
        left_true (extents_meet a m b.at (length b.bytes))
        (list_any (λ c. extents_meet a m c.at (length c.bytes)) bs)
        (one_met a m b (ltb-true (bytes_below a b) (bytes_below (a + m) b) e))
    by_sum false e rest here there =
        let less = ltb-false (bytes_below a b) (bytes_below (a + m) b) e in
        right_true (extents_meet a m b.at (length b.bytes))
        (list_any (λ c. extents_meet a m c.at (length c.bytes)) bs)
        (rest (omega (arith, here, there, less, h)))

pub meets_by_sums : MeetsBySums
unfolding meets_some written_below
meets_by_sums home blocks =
    same_test
    (list_any (λ b. extents_meet home.at home.len b.at (length b.bytes)) blocks)
    (nat_lt (sum_by (bytes_below home.at) blocks)
    (sum_by (bytes_below (home.at + home.len)) blocks))
    (λ h. lt-ltb _ _ (some_meets home.at home.len blocks h))
    (λ h. some_met home.at home.len blocks
    (ltb-true (sum_by (bytes_below home.at) blocks)
    (sum_by (bytes_below (home.at + home.len)) blocks) h))

-- ---- What is written below a place, over the plan

-- a sum over some items is one over all, where the others count nothing
sum_when : {X : Type 0} (f : X → ℕ) (test : X → Bool) (xs : List X)
    → sum_by f (filter test xs) ≡ sum_by (λ x. if test x then f x else 0) xs
sum_when f test [] = refl
sum_when f test (x ∷ xs) = by_test (test x) refl (sum_when f test xs)
  where
    by_test : (t : Bool) → test x ≡ t
        → sum_by f (filter test xs) ≡ sum_by (λ y. if test y then f y else 0) xs
        → sum_by f (cond t (x ∷ filter test xs) (filter test xs))
        ≡ sum_by (λ y. if test y then f y else 0) (x ∷ xs)
    by_test true e rest =
        let here = sum_by-cons f x (filter test xs) in
        let there = sum_by-cons (λ y. if test y then f y else 0) x xs in
        let same : (if test x then f x else 0) ≡ f x = rw e refl in
        omega (arith, here, there, same, rest)
    by_test false e rest =
        let there = sum_by-cons (λ y. if test y then f y else 0) x xs in
        let same : (if test x then f x else 0) ≡ 0 = rw e refl in
        omega (arith, there, same, rest)

sum_one : {X : Type 0} (f : X → ℕ) (b : Bool) (x : X)
    → sum_by f (when b x) ≡ (if b then f x else 0)
sum_one f true x = let one = sum_by-cons f x [] in omega (arith, one)
sum_one f false x = refl

sum_same : (f g : ℕ → ℕ) (a n : ℕ) → ((k : ℕ) → a ≤ k → k < a + n → f k ≡ g k)
    → sum_by f (range_with_len a n) ≡ sum_by g (range_with_len a n)
sum_same f g a zero same = refl
sum_same f g a (suc n) same =
    sum_by-cons f a (range_with_len (a + 1) n)
    ∙ ap (λ (k : ℕ). k + sum_by f (range_with_len (a + 1) n)) (same a (omega arith) (omega arith))
    ∙ ap (λ (k : ℕ). g a + k)
    (sum_same f g (a + 1) n (λ k from below. same k (omega arith) (omega arith)))
    ∙ sym (sum_by-cons g a (range_with_len (a + 1) n))

-- blocks of parts that are empty count nothing
counts_of : (f : ℕ → ℕ) (g : ℕ → Block) (n : ℕ) (bs : List Block) (ps : List PartAt)
    → AreBlocksOf bs ps → ((i : ℕ) → i < length bs → g (n + i) ≡ get_or bs i no_block)
    → ((i : ℕ) → length (g i).bytes ≡ 0 → f i ≡ 0)
    → AllByRecursion (CountsNone f) (enumerate_from n ps)
unfolding AreBlocksOf
counts_of f g n [] [] are at none = tt
counts_of f g n [] (p ∷ ps) are at none = absurd are
counts_of f g n (b ∷ bs) [] are at none = absurd are
counts_of f g n (b ∷ bs) (p ∷ ps) are at none =
    let start : n + 0 ≡ n = omega arith in
    let here : g n ≡ b = ap g (sym start) ∙ at 0 (omega arith) in (
      (λ empty. none n (ap (λ (c : Block). length c.bytes) here
          ∙ ltb-false-zero (length b.bytes) (sym (same_filled b p are.0) ∙ empty))),
      counts_of f g (n + 1) bs ps are.1
          (λ i h.
          let next : n + 1 + i ≡ n + suc i = omega arith in ap g next ∙ at (suc i) (omega arith))
          none,
    )
  where
    ltb-false-zero : (m : ℕ) → nat_lt 0 m ≡ false → m ≡ 0
    ltb-false-zero m h = let most = ltb-false 0 m h in omega (arith, most)

length-blocks_of : (bs : List Block) (ps : List PartAt) → AreBlocksOf bs ps → length ps ≡ length bs
unfolding AreBlocksOf
length-blocks_of [] [] are = refl
length-blocks_of [] (p ∷ ps) are = absurd are
length-blocks_of (b ∷ bs) [] are = absurd are
length-blocks_of (b ∷ bs) (p ∷ ps) are = ap suc (length-blocks_of bs ps are.1)

-- ---- The block with each rank

-- placing keeps the number of sections
length-placed : (o : Object) → length (placed o).sections ≡ length o.sections
unfolding placed
length-placed o = by_test (is_dirty o)
  where
    by_test : (b : Bool)
        → length (if b then placed_by (places_of o) o else o).sections ≡ length o.sections
    by_test true = section_count-placed (places_of o) o
    by_test false = refl

length-part_blocks : (o : Object)
    → length (part_blocks (placed o)) ≡ 2 + (length o.sections - 1 + 1)
unfolding part_blocks
length-part_blocks o =
    let q : Object = placed o in
    let count = length-placed o in
    let size = length-map-range_with_len (section_block q) 1 (length q.sections - 1) in
    let all = length-append (map (section_block q) (section_numbers q))
    ((front_blocks q).table ∷ []) in
    omega (arith, count, size, all)

rank_at : (o : Object) (i : ℕ) → i < length (part_blocks (placed o))
    → block_of_rank o (0 + i) ≡ get_or (part_blocks (placed o)) i no_block
unfolding block_of_rank
rank_at o i h = ap (λ (k : ℕ). get_or (part_blocks (placed o)) k no_block) (omega arith)

section_rank : (o : Object) (s : ℕ) → 1 ≤ s → s < length o.sections
    → block_of_rank o (s + 1) ≡ section_block (placed o) s
unfolding block_of_rank part_blocks
section_rank o s from below =
    let q : Object = placed o in
    let count = length-placed o in
    let index : s + 1 ≡ suc (suc (s - 1)) = omega arith in
    let number : 1 + (s - 1) ≡ s = omega arith in
    ap (λ (k : ℕ). get_or ((front_blocks q).header ∷ (front_blocks q).segments
    ∷ map (section_block q) (section_numbers q) ++ (front_blocks q).table ∷ []) k no_block) index
    ∙ row_left (section_block q) (length q.sections - 1) (front_blocks q).table (s - 1) no_block
    (omega arith)
    ∙ ap (section_block q) number

table_rank : (o : Object)
    → block_of_rank o (length o.sections - 1 + 2) ≡ (front_blocks (placed o)).table
unfolding block_of_rank part_blocks
table_rank o =
    let q : Object = placed o in
    let count = length-placed o in
    let index : length o.sections - 1 + 2 ≡ suc (suc (length q.sections - 1)) = omega arith in
    ap (λ (k : ℕ). get_or ((front_blocks q).header ∷ (front_blocks q).segments
    ∷ map (section_block q) (section_numbers q) ++ (front_blocks q).table ∷ []) k no_block) index
    ∙ row_last (section_block q) (length q.sections - 1) (front_blocks q).table
    (length q.sections - 1) no_block refl

header_rank : (o : Object) → block_of_rank o 0 ≡ (front_blocks (placed o)).header
unfolding block_of_rank part_blocks
header_rank o = refl

segments_rank : (o : Object) → block_of_rank o 1 ≡ (front_blocks (placed o)).segments
unfolding block_of_rank part_blocks
segments_rank o = refl

-- ---- What changes with each rank

section_counts : (o : Object) (x s : ℕ) → 1 ≤ s → s < length o.sections
    → rank_written_below o x (s + 1)
    ≡ (if section_changed o s then bytes_below x (section_block (placed o) s) else 0)
unfolding rank_written_below rank_changed
section_counts o x s from below =
    let at : s + 1 - 1 ≡ s = omega arith in
    let first : (s + 1 == 0) ≡ false = ne_eqb (s + 1) 0 (λ e. omega (arith, e)) in
    let second : (s + 1 == 1) ≡ false = ne_eqb (s + 1) 1 (λ e. omega (arith, e, from)) in
    let inside : nat_lt (s + 1 - 1) (length o.sections) ≡ true =
    lt-ltb (s + 1 - 1) (length o.sections) (omega arith) in
    let changed : section_changed o (s + 1 - 1) ≡ section_changed o s = ap (section_changed o) at in
    rw (first, second, inside, changed, section_rank o s from below) refl

table_counts : (o : Object) (x : ℕ) → rank_written_below o x (length o.sections - 1 + 2)
    ≡ (if table_changed o then bytes_below x (front_blocks (placed o)).table else 0)
unfolding rank_written_below rank_changed
table_counts o x =
    let n : ℕ = length o.sections in
    let first : (length o.sections - 1 + 2 == 0) ≡ false =
    ne_eqb (length o.sections - 1 + 2) 0 (λ e. omega (arith, e)) in
    let second : (length o.sections - 1 + 2 == 1) ≡ false =
    ne_eqb (length o.sections - 1 + 2) 1 (λ e. omega (arith, e)) in
    let past : nat_lt (length o.sections - 1 + 2 - 1) (length o.sections) ≡ false =
    le-ltb (length o.sections - 1 + 2 - 1) (length o.sections) (omega arith) in
    rw (first, second, past, table_rank o) refl

header_counts : (o : Object) (x : ℕ) → rank_written_below o x 0
    ≡ (if header_changed o then bytes_below x (front_blocks (placed o)).header else 0)
unfolding rank_written_below rank_changed
header_counts o x = rw (header_rank o) refl

segments_counts : (o : Object) (x : ℕ) → rank_written_below o x 1
    ≡ (if segments_changed o then bytes_below x (front_blocks (placed o)).segments else 0)
unfolding rank_written_below rank_changed
segments_counts o x = rw (segments_rank o) refl

-- an empty block has no byte below a place
none_below : (o : Object) (x i : ℕ) → length (block_of_rank o i).bytes ≡ 0
    → rank_written_below o x i ≡ 0
unfolding rank_written_below block_end
none_below o x i none = by_test (rank_changed o i)
  where
    by_test : (b : Bool) → (if b then bytes_below x (block_of_rank o i) else 0) ≡ 0
    by_test true = omega (arith, none)
    by_test false = refl

-- ---- The law

sum_four : {X : Type 0} (f : X → ℕ) (a b c d : List X)
    → sum_by f (a ++ b ++ c ++ d) ≡ sum_by f a + (sum_by f b + (sum_by f c + sum_by f d))
sum_four f a b c d =
    let first = sum_by-append f (a ++ b ++ c) d in
    let second = sum_by-append f (a ++ b) c in
    let third = sum_by-append f a b in
    omega (arith, first, second, third)

-- the number of bytes of a part that changes
abbrev row_below : ℕ → Part × Block → ℕ
row_below x row = bytes_below x row.1

one_row : (x : ℕ) (b : Bool) (p : Part) (c : Block)
    → sum_by (row_below x) (when b (p, c)) ≡ (if b then bytes_below x c else 0)
one_row x b p c = sum_one (row_below x) b (p, c)

abbrev section_row : Object → ℕ → Part × Block
section_row o s = (part.Section s, section_block (placed o) s)

section_rows : (o : Object) (x : ℕ)
    → sum_by (row_below x) (map (section_row o) (filter (section_changed o) (section_numbers o)))
    ≡ sum_by (λ s. if section_changed o s then bytes_below x (section_block (placed o) s) else 0)
    (section_numbers o)
section_rows o x =
    sum_mapped (row_below x) (section_row o) (filter (section_changed o) (section_numbers o))
    ∙ sum_when (λ s. bytes_below x (section_block (placed o) s)) (section_changed o)
    (section_numbers o)

parts_written : (o : Object) (x : ℕ) → sum_by (bytes_below x) (changed_blocks o)
    ≡ (if header_changed o then bytes_below x (front_blocks (placed o)).header else 0)
    + ((if segments_changed o then bytes_below x (front_blocks (placed o)).segments else 0)
    + (sum_by (λ s. if section_changed o s then bytes_below x (section_block (placed o) s) else 0)
    (section_numbers o)
    + (if table_changed o then bytes_below x (front_blocks (placed o)).table else 0)))
unfolding changed_blocks changed_parts
parts_written o x =
    let front = front_blocks (placed o) in
    let a = one_row x (header_changed o) part.Header front.header in
    let b = one_row x (segments_changed o) part.Segments front.segments in
    let c = section_rows o x in
    let d = one_row x (table_changed o) part.Table front.table in
    sum_mapped (bytes_below x) (λ (r : Part × Block). r.1) (changed_parts o)
    ∙ sum_four (row_below x)
    (when (header_changed o) (part.Header, (front_blocks (placed o)).header))
    (when (segments_changed o) (part.Segments, (front_blocks (placed o)).segments))
    (map (section_row o) (filter (section_changed o) (section_numbers o)))
    (when (table_changed o) (part.Table, (front_blocks (placed o)).table))
    ∙ omega (arith, a, b, c, d)

pub written_by_plan : (o : Object) → WrittenByPlan o
unfolding written_below written_blocks placed_parts
written_by_plan o x ready =
    let f = rank_written_below o x in
    let n : ℕ = length o.sections - 1 in
    let are : AreBlocksOf (part_blocks (placed o)) (placed_parts o) =
    subst (λ (q : Object). AreBlocksOf (part_blocks q) (placed_parts o))
    (sym (placed-dirty o ready.dirty)) (placed_blocks o ready.object.pad) in
    let each = counts_of f (block_of_rank o) 0 (part_blocks (placed o)) (placed_parts o) are
    (rank_at o) (none_below o x) in
    let len : length (placed_parts o) ≡ 2 + (n + 1) =
    length-blocks_of (part_blocks (placed o)) (placed_parts o) are ∙ length-part_blocks o in
    let changed = parts_written o x in
    let header = header_counts o x in
    let segments = segments_counts o x in
    let table = table_counts o x in
    let front = first_two f (n + 1) in
    let more = range_more f 2 n in
    let at : f (2 + n) ≡ f (n + 2) = ap f (omega arith) in
    let shifted = sum_shifted f (λ k. f (k + 1)) 1 n (λ k from. refl) in
    let same = sum_same (λ k. f (k + 1))
    (λ s. if section_changed o s then bytes_below x (section_block (placed o) s) else 0) 1 n
    (λ s from below. section_counts o x s from (omega arith)) in
    let plan = sum_by_position f (placed_parts o) each
    ∙ ap (λ (k : ℕ). sum_by f (range_with_len 0 k)) len in
    sum_by-append (bytes_below x) (changed_blocks o) (fill_blocks o)
    ∙ ap (λ (k : ℕ). k + sum_by (bytes_below x) (fill_blocks o))
    (changed ∙ omega (arith, header, segments, table, front, more, at, shifted, same) ∙ sym plan)
