-- Blocks that are apart, by their places: they stand in a line, and the same bytes are spread from them.
use Rattle.std.proofs.Common.{◌≡◌, ℕ, ◌+◌, ◌-◌, ◌<◌, ◌≤◌, Bool, true, false, ◌||◌, List, [], ◌∷◌, length, get_or, refl, sym, ap, ◌∙◌, arith, ⊎_elim, ◌⊎◌, inl, inr}
use Rattle.std.specs.Prelude.{nat_le, cond, if◌then◌else◌}
use Rattle.std.specs.List.{filter, AllByRecursion}
use Rattle.std.proofs.lemmas.Bool.{cases_lt, ltb-true, ltb-false, leb-true, leb-false}
use Rattle.elf_object.specs.elf_layout.Meeting.{inserted_by, sorted_by}
use Rattle.elf_object.specs.Blocks.{Block, block_end, block_covers, is_covered, byte_over}
use Rattle.law_object.proofs.BlockLaws.{AreApart, AllApart}
use Rattle.law_object.specs.Writing.Lines.{AreInLine}
use Rattle.law_object.specs.Writing.Plan.{block_has_bytes, in_order}
use Rattle.law_object.proofs.writing.LineLaws.{covers_from, not_covered, end_is}

abbrev place : Block → ℕ
place b = b.at

-- ---- What block_covers a place

not_both : (b c : Block) (k : ℕ) → AreApart b c → block_covers b k ≡ true → block_covers c k ≡ false
not_both b c k apart here = by_test (block_covers c k) refl
  where
    by_test : (t : Bool) → block_covers c k ≡ t → t ≡ false
    by_test false e = refl
    by_test true e = absurd (apart k here e)

-- two tests of which not both hold
turned : (s t : Bool) (x y z : ℕ) → (s ≡ true → t ≡ false) → (if t then y else (if s then x else z)) ≡ (if s then x else (if t then y else z))
turned true true x y z apart = let clash : true ≡ false = apart refl in cc
turned true false x y z apart = refl
turned false t x y z apart = refl

byte_over-inserted : (otherwise : ℕ → ℕ) (b : Block) (bs : List Block) (k : ℕ) → AllByRecursion (AreApart b) bs → byte_over otherwise (inserted_by place b bs) k ≡ byte_over otherwise (b ∷ bs) k
unfolding byte_over
byte_over-inserted otherwise b [] k apart = refl
byte_over-inserted otherwise b (c ∷ bs) k apart = by_test (nat_le b.at c.at) (byte_over-inserted otherwise b bs k apart.1)
  where
    by_test : (t : Bool) → byte_over otherwise (inserted_by place b bs) k ≡ byte_over otherwise (b ∷ bs) k → byte_over otherwise (if t then b ∷ c ∷ bs else c ∷ inserted_by place b bs) k ≡ byte_over otherwise (b ∷ c ∷ bs) k
    by_test true rest = refl
    by_test false rest =
        ap (λ (n : ℕ). if block_covers c k then get_or c.bytes (k - c.at) 0 else n) rest
        ∙ turned (block_covers b k) (block_covers c k) (get_or b.bytes (k - b.at) 0) (get_or c.bytes (k - c.at) 0) (byte_over otherwise bs k) (λ h. not_both b c k apart.0 h)

covered-inserted : (b : Block) (bs : List Block) (k : ℕ) → is_covered (inserted_by place b bs) k ≡ is_covered (b ∷ bs) k
unfolding is_covered
covered-inserted b [] k = refl
covered-inserted b (c ∷ bs) k = by_test (nat_le b.at c.at) (covered-inserted b bs k)
  where
    swap : (x y z : Bool) → (y || (x || z)) ≡ (x || (y || z))
    swap true true z = refl
    swap true false z = refl
    swap false y z = refl

    by_test : (t : Bool) → is_covered (inserted_by place b bs) k ≡ is_covered (b ∷ bs) k → is_covered (if t then b ∷ c ∷ bs else c ∷ inserted_by place b bs) k ≡ is_covered (b ∷ c ∷ bs) k
    by_test true rest = refl
    by_test false rest = ap (λ (t : Bool). block_covers c k || t) rest ∙ swap (block_covers b k) (block_covers c k) (is_covered bs k)

-- ---- Facts of each block

each_inserted : {X : Type 0} (key : X → ℕ) (P : X → Type 0) (x : X) (ys : List X) → P x → AllByRecursion P ys → AllByRecursion P (inserted_by key x ys)
each_inserted key P x [] here rest = (here, tt)
each_inserted key P x (y ∷ ys) here rest = by_test (nat_le (key x) (key y)) (each_inserted key P x ys here rest.1)
  where
    by_test : (t : Bool) → AllByRecursion P (inserted_by key x ys) → AllByRecursion P (if t then x ∷ y ∷ ys else y ∷ inserted_by key x ys)
    by_test true more = (here, rest)
    by_test false more = (rest.0, more)

pub each_sorted : {X : Type 0} (key : X → ℕ) (P : X → Type 0) (xs : List X) → AllByRecursion P xs → AllByRecursion P (sorted_by key xs)
each_sorted key P [] each = tt
each_sorted key P (x ∷ xs) each = each_inserted key P x (sorted_by key xs) each.0 (each_sorted key P xs each.1)

each_filter : {X : Type 0} (test : X → Bool) (P : X → Type 0) (xs : List X) → AllByRecursion P xs → AllByRecursion P (filter test xs)
each_filter test P [] each = tt
each_filter test P (x ∷ xs) each = by_test (test x) (each_filter test P xs each.1)
  where
    by_test : (t : Bool) → AllByRecursion P (filter test xs) → AllByRecursion P (cond t (x ∷ filter test xs) (filter test xs))
    by_test true rest = (each.0, rest)
    by_test false rest = rest

passed_filter : {X : Type 0} (test : X → Bool) (xs : List X) → AllByRecursion (λ x. test x ≡ true) (filter test xs)
passed_filter test [] = tt
passed_filter test (x ∷ xs) = by_test (test x) refl (passed_filter test xs)
  where
    by_test : (t : Bool) → test x ≡ t → AllByRecursion (λ y. test y ≡ true) (filter test xs) → AllByRecursion (λ y. test y ≡ true) (cond t (x ∷ filter test xs) (filter test xs))
    by_test true e rest = (e, rest)
    by_test false e rest = rest

apart_filter : (test : Block → Bool) (bs : List Block) → AllApart bs → AllApart (filter test bs)
apart_filter test [] apart = tt
apart_filter test (b ∷ bs) apart = by_test (test b) (apart_filter test bs apart.1)
  where
    by_test : (t : Bool) → AllApart (filter test bs) → AllApart (cond t (b ∷ filter test bs) (filter test bs))
    by_test true rest = (each_filter test (AreApart b) bs apart.0, rest)
    by_test false rest = rest

byte_over-sorted : (otherwise : ℕ → ℕ) (bs : List Block) (k : ℕ) → AllApart bs → byte_over otherwise (sorted_by place bs) k ≡ byte_over otherwise bs k
unfolding byte_over
byte_over-sorted otherwise [] k apart = refl
byte_over-sorted otherwise (b ∷ bs) k apart =
    byte_over-inserted otherwise b (sorted_by place bs) k (each_sorted place (AreApart b) bs apart.0)
    ∙ ap (λ (n : ℕ). if block_covers b k then get_or b.bytes (k - b.at) 0 else n) (byte_over-sorted otherwise bs k apart.1)

covered-sorted : (bs : List Block) (k : ℕ) → is_covered (sorted_by place bs) k ≡ is_covered bs k
unfolding is_covered
covered-sorted [] k = refl
covered-sorted (b ∷ bs) k = covered-inserted b (sorted_by place bs) k ∙ ap (λ (t : Bool). block_covers b k || t) (covered-sorted bs k)

-- ---- Empty blocks

empty_covers : (b : Block) (k : ℕ) → block_has_bytes b ≡ false → block_covers b k ≡ false
empty_covers b k none = let empty = ltb-false 0 (length b.bytes) none in not_covered b k (outside (cases_lt k b.at) (omega arith))
  where
    outside : (k < b.at) ⊎ (b.at ≤ k) → length b.bytes ≡ 0 → (k < b.at) ⊎ (b.at + length b.bytes ≤ k)
    outside h e = ⊎_elim (λ x. inl x) (λ x. inr (omega arith)) h

byte_over-filled : (otherwise : ℕ → ℕ) (bs : List Block) (k : ℕ) → byte_over otherwise (filter block_has_bytes bs) k ≡ byte_over otherwise bs k
unfolding byte_over
byte_over-filled otherwise [] k = refl
byte_over-filled otherwise (b ∷ bs) k = by_test (block_has_bytes b) refl (byte_over-filled otherwise bs k)
  where
    by_test : (t : Bool) → block_has_bytes b ≡ t → byte_over otherwise (filter block_has_bytes bs) k ≡ byte_over otherwise bs k → byte_over otherwise (cond t (b ∷ filter block_has_bytes bs) (filter block_has_bytes bs)) k ≡ byte_over otherwise (b ∷ bs) k
    by_test true e rest = ap (λ (n : ℕ). if block_covers b k then get_or b.bytes (k - b.at) 0 else n) rest
    by_test false e rest = rest ∙ sym (ap (λ (t : Bool). if t then get_or b.bytes (k - b.at) 0 else byte_over otherwise bs k) (empty_covers b k e))

covered-filled : (bs : List Block) (k : ℕ) → is_covered (filter block_has_bytes bs) k ≡ is_covered bs k
unfolding is_covered
covered-filled [] k = refl
covered-filled (b ∷ bs) k = by_test (block_has_bytes b) refl (covered-filled bs k)
  where
    by_test : (t : Bool) → block_has_bytes b ≡ t → is_covered (filter block_has_bytes bs) k ≡ is_covered bs k → is_covered (cond t (b ∷ filter block_has_bytes bs) (filter block_has_bytes bs)) k ≡ is_covered (b ∷ bs) k
    by_test true e rest = ap (λ (t : Bool). block_covers b k || t) rest
    by_test false e rest = rest ∙ sym (ap (λ (t : Bool). t || is_covered bs k) (empty_covers b k e))

pub byte_over-in_order : (otherwise : ℕ → ℕ) (bs : List Block) (k : ℕ) → AllApart bs → byte_over otherwise (in_order bs) k ≡ byte_over otherwise bs k
unfolding in_order
byte_over-in_order otherwise bs k apart = byte_over-sorted otherwise (filter block_has_bytes bs) k (apart_filter block_has_bytes bs apart) ∙ byte_over-filled otherwise bs k

pub covered-in_order : (bs : List Block) (k : ℕ) → is_covered (in_order bs) k ≡ is_covered bs k
unfolding in_order
covered-in_order bs k = covered-sorted (filter block_has_bytes bs) k ∙ covered-filled bs k

-- ---- A line

abbrev IsFilled : Block → Type 0
IsFilled b = 0 < length b.bytes

abbrev EndsBefore : Block → Block → Type 0
EndsBefore b c = block_end b ≤ c.at

-- each ends before each later one
abbrev AreBehind : List Block → Type 0
AreBehind [] = Unit {0}
AreBehind (b ∷ bs) = AllByRecursion (EndsBefore b) bs × AreBehind bs

-- of two that are apart, the one that does not begin later ends first
first_ends : (b c : Block) → AreApart b c → IsFilled b → IsFilled c → b.at ≤ c.at → EndsBefore b c
first_ends b c apart some other from =
    let last = end_is b in
    ⊎_elim
    (λ h. absurd (apart c.at (covers_from b c.at from (omega arith)) (covers_from c c.at (omega arith) (omega arith))))
    (λ h. h) (cases_lt c.at (block_end b))

further : (b c : Block) (bs : List Block) → block_end b ≤ block_end c → AllByRecursion (EndsBefore c) bs → AllByRecursion (EndsBefore b) bs
further b c [] less each = tt
further b c (d ∷ bs) less each = let here = each.0 in (omega arith, further b c bs less each.1)

apart_turned : (b c : Block) → AreApart b c → AreApart c b
apart_turned b c apart k here there = apart k there here

behind_inserted : (b : Block) (bs : List Block) → IsFilled b → AllByRecursion IsFilled bs → AllByRecursion (AreApart b) bs → AreBehind bs → AreBehind (inserted_by place b bs)
behind_inserted b [] some filled apart behind = (tt, tt)
behind_inserted b (c ∷ bs) some filled apart behind = by_test (nat_le b.at c.at) refl (behind_inserted b bs some filled.1 apart.1 behind.1)
  where
    by_test : (t : Bool) → nat_le b.at c.at ≡ t → AreBehind (inserted_by place b bs) → AreBehind (if t then b ∷ c ∷ bs else c ∷ inserted_by place b bs)
    by_test true e rest =
        let from = leb-true b.at c.at e in
        let before : block_end b ≤ c.at = first_ends b c apart.0 some filled.0 from in
        let last = end_is c in
        ((before, further b c bs (omega arith) behind.0), behind)
    by_test false e rest =
        let from = leb-false b.at c.at e in
        let before = first_ends c b (apart_turned b c apart.0) filled.0 some (omega arith) in
        (each_inserted place (EndsBefore c) b bs before behind.0, rest)

behind_sorted : (bs : List Block) → AllByRecursion IsFilled bs → AllApart bs → AreBehind (sorted_by place bs)
behind_sorted [] filled apart = tt
behind_sorted (b ∷ bs) filled apart =
    behind_inserted b (sorted_by place bs) filled.0 (each_sorted place IsFilled bs filled.1) (each_sorted place (AreApart b) bs apart.0) (behind_sorted bs filled.1 apart.1)

line_of : (end from : ℕ) (bs : List Block) → from ≤ end → AllByRecursion (λ b. from ≤ b.at) bs → AllByRecursion (λ b. block_end b ≤ end) bs → AreBehind bs → AreInLine end from bs
line_of end from [] within starts ends behind = within
line_of end from (b ∷ bs) within starts ends behind = (starts.0, line_of end (block_end b) bs ends.0 behind.0 ends.1 behind.1)

filled_of : (bs : List Block) → AllByRecursion (λ b. block_has_bytes b ≡ true) bs → AllByRecursion IsFilled bs
filled_of [] each = tt
filled_of (b ∷ bs) each = (ltb-true 0 (length b.bytes) each.0, filled_of bs each.1)

ends_of : (end : ℕ) (bs : List Block) → AllByRecursion (λ b. block_has_bytes b ≡ true) bs → AllByRecursion (λ b. 0 < length b.bytes → block_end b ≤ end) bs → AllByRecursion (λ b. block_end b ≤ end) bs
ends_of end [] filled within = tt
ends_of end (b ∷ bs) filled within = (within.0 (ltb-true 0 (length b.bytes) filled.0), ends_of end bs filled.1 within.1)

from_zero : (bs : List Block) → AllByRecursion (λ b. 0 ≤ b.at) bs
from_zero [] = tt
from_zero (b ∷ bs) = (omega arith, from_zero bs)

-- blocks that are apart and end within so many bytes stand in a line, by their places
pub in_order_line : (end : ℕ) (bs : List Block) → AllApart bs → AllByRecursion (λ b. 0 < length b.bytes → block_end b ≤ end) bs → AreInLine end 0 (in_order bs)
unfolding in_order
in_order_line end bs apart within =
    let passed = passed_filter block_has_bytes bs in
    let ends = ends_of end (filter block_has_bytes bs) passed (each_filter block_has_bytes (λ b. 0 < length b.bytes → block_end b ≤ end) bs within) in
    line_of end 0 (sorted_by place (filter block_has_bytes bs)) (omega arith) (from_zero (sorted_by place (filter block_has_bytes bs)))
    (each_sorted place (λ b. block_end b ≤ end) (filter block_has_bytes bs) ends)
    (behind_sorted (filter block_has_bytes bs) (filled_of (filter block_has_bytes bs) passed) (apart_filter block_has_bytes bs apart))
