-- Blocks in a line: the bytes that are spread from them, and the places between them.
use Rattle.std.proofs.Common.{◌≡◌, ℕ, ◌+◌, ◌-◌, ◌<◌, ◌≤◌, Bool, true, false, List, [], ◌∷◌, ◌++◌, length, drop, get_or, refl, sym, ap, ◌∙◌, arith, ⊎_elim, ◌⊎◌, inl, inr}
use Rattle.std.specs.Prelude.{if◌then◌else◌, map}
use Rattle.std.specs.List.{range_with_len}
use Rattle.std.proofs.lemmas.Bool.{cases_lt, lt-ltb, le-leb}
use Rattle.std.proofs.lemmas.List.{length-append, get_or_append_left, get_or-append_right, length-drop, get_or-drop, ext_get_or}
use Rattle.std.proofs.lemmas.List.FromFn.{length-map-range_with_len, get_or-map-range_with_len}
use Rattle.elf_object.specs.Blocks.{Block, block_end, block_covers, is_covered, byte_over, spread}
use Rattle.law_object.proofs.BlockLaws.{length-spread, get_or-spread, byte_over-uncovered}
use Rattle.law_object.proofs.StandLaws.{covered_from}
use Rattle.law_object.specs.Writing.Lines.{AreInLine, in_line}

-- ---- What a block block_covers

pub covers_from : (b : Block) (k : ℕ) → b.at ≤ k → k < b.at + length b.bytes → block_covers b k ≡ true
unfolding block_covers block_end
covers_from b k from below =
    rw (le-leb b.at k from, lt-ltb k (b.at + length b.bytes) below) refl

pub not_covered : (b : Block) (k : ℕ) → k < b.at ⊎ b.at + length b.bytes ≤ k → block_covers b k ≡ false
not_covered b k outside = by_test (block_covers b k) refl
  where
    by_test : (c : Bool) → block_covers b k ≡ c → c ≡ false
    by_test false e = refl
    by_test true e =
        let is = covered_from b k e in
        let from = is.from in
        let below = is.below in
        absurd (⊎_elim (λ h. omega arith) (λ h. omega arith) outside)

pub end_is : (b : Block) → block_end b ≡ b.at + length b.bytes
unfolding block_end
end_is b = refl

-- ---- Blocks in a line

pub line_within : (end from : ℕ) (bs : List Block) → AreInLine end from bs → from ≤ end
line_within end from [] line = line
line_within end from (b ∷ bs) line =
    let rest = line_within end (block_end b) bs line.1 in
    let here = line.0 in
    let last = end_is b in
    omega arith

-- a place before them is covered by none
pub before_line : (end from : ℕ) (bs : List Block) (k : ℕ) → AreInLine end from bs → k < from → is_covered bs k ≡ false
unfolding is_covered
before_line end from [] k line h = refl
before_line end from (b ∷ bs) k line h =
    let here = line.0 in
    let last = end_is b in
    let out = not_covered b k (inl (omega arith)) in
    let rest = before_line end (block_end b) bs k line.1 (omega arith) in
    rw (out, rest) refl

pub length-in_line : (end : ℕ) (otherwise : ℕ → ℕ) (from : ℕ) (bs : List Block) → AreInLine end from bs → length (in_line end otherwise from bs) ≡ end - from
length-in_line end otherwise from [] line = length-map-range_with_len otherwise from (end - from)
length-in_line end otherwise from (b ∷ bs) line =
    let gap = length-map-range_with_len otherwise from (b.at - from) in
    let rest = length-in_line end otherwise (block_end b) bs line.1 in
    let whole = length-append (map otherwise (range_with_len from (b.at - from))) (b.bytes ++ in_line end otherwise (block_end b) bs) in
    let tail = length-append b.bytes (in_line end otherwise (block_end b) bs) in
    let inside = line_within end (block_end b) bs line.1 in
    let here = line.0 in
    let last = end_is b in
    omega arith

-- ---- The key law

-- a byte of the bytes between blocks and of theirs
get_or-in_line : (end : ℕ) (otherwise : ℕ → ℕ) (from : ℕ) (bs : List Block) (k : ℕ) → AreInLine end from bs → from + k < end → get_or (in_line end otherwise from bs) k 0 ≡ byte_over otherwise bs (from + k)
unfolding byte_over
get_or-in_line end otherwise from [] k line h = get_or-map-range_with_len otherwise from (end - from) k (from + k) 0 (omega arith) refl
get_or-in_line end otherwise from (b ∷ bs) k line h =
    let gap = length-map-range_with_len otherwise from (b.at - from) in
    let here = line.0 in
    let last = end_is b in
    ⊎_elim
    (λ before.
    let out = not_covered b (from + k) (inl (omega arith)) in
    let none = before_line end (block_end b) bs (from + k) line.1 (omega arith) in
    get_or_append_left (map otherwise (range_with_len from (b.at - from))) (b.bytes ++ in_line end otherwise (block_end b) bs) 0 k (omega arith)
    ∙ get_or-map-range_with_len otherwise from (b.at - from) k (from + k) 0 before refl
    ∙ sym (byte_over-uncovered otherwise bs (from + k) none)
    ∙ sym (outside (block_covers b (from + k)) (get_or b.bytes (from + k - b.at) 0) (byte_over otherwise bs (from + k)) out))
    (λ behind.
    get_or-append_right (map otherwise (range_with_len from (b.at - from))) (b.bytes ++ in_line end otherwise (block_end b) bs) (b.at - from) k 0 gap behind
    ∙ ⊎_elim
    (λ within.
    let over = covers_from b (from + k) (omega arith) (omega arith) in
    let place : k - (b.at - from) ≡ from + k - b.at = omega arith in
    get_or_append_left b.bytes (in_line end otherwise (block_end b) bs) 0 (k - (b.at - from)) within
    ∙ ap (λ (j : ℕ). get_or b.bytes j 0) place
    ∙ sym (inside (block_covers b (from + k)) (get_or b.bytes (from + k - b.at) 0) (byte_over otherwise bs (from + k)) over))
    (λ past.
    let out = not_covered b (from + k) (inr (omega arith)) in
    let place : block_end b + (k - (b.at - from) - length b.bytes) ≡ from + k = omega arith in
    get_or-append_right b.bytes (in_line end otherwise (block_end b) bs) (length b.bytes) (k - (b.at - from)) 0 refl past
    ∙ get_or-in_line end otherwise (block_end b) bs (k - (b.at - from) - length b.bytes) line.1 (omega arith)
    ∙ ap (byte_over otherwise bs) place
    ∙ sym (outside (block_covers b (from + k)) (get_or b.bytes (from + k - b.at) 0) (byte_over otherwise bs (from + k)) out))
    (cases_lt (k - (b.at - from)) (length b.bytes)))
    (cases_lt k (b.at - from))
  where
    outside : (c : Bool) (x y : ℕ) → c ≡ false → (if c then x else y) ≡ y
    outside true x y e = cc
    outside false x y e = refl

    inside : (c : Bool) (x y : ℕ) → c ≡ true → (if c then x else y) ≡ x
    inside true x y e = refl
    inside false x y e = cc

-- bytes that are spread from blocks in a line, from a place on
pub drop-spread : (end : ℕ) (otherwise : ℕ → ℕ) (from : ℕ) (bs : List Block) → AreInLine end from bs → drop from (spread end otherwise bs) ≡ in_line end otherwise from bs
drop-spread end otherwise from bs line =
    let whole = length-spread end otherwise bs in
    let left = length-drop from (spread end otherwise bs) in
    let right = length-in_line end otherwise from bs line in
    let start = line_within end from bs line in
    ext_get_or 0 (drop from (spread end otherwise bs)) (in_line end otherwise from bs) (omega arith) (λ k h.
    let below : from + k < end = omega arith in
    get_or-drop from (spread end otherwise bs) k 0
    ∙ get_or-spread end otherwise bs (from + k) below
    ∙ sym (get_or-in_line end otherwise from bs k line below))
