-- Pieces of bytes that stand in others.
use Rattle.std.proofs.Common.{◌≡◌, ℕ, ◌+◌, ◌-◌, ◌<◌, ◌≤◌, Bool, true, false, ◌&&◌, ◌||◌, List, [], ◌∷◌, length, take, drop, get_or, refl, sym, ap, ◌∙◌, arith, ⊎_elim, ◌⊎◌, inl, inr}
use Rattle.std.specs.Prelude.{if◌then◌else◌, ◌==◌}
use Rattle.std.specs.List.{AllByRecursion}
use Rattle.std.specs.Str.{bytes_eq}
use Rattle.std.proofs.lemmas.Bool.{cases_lt, eqb-true}
use Rattle.std.proofs.lemmas.List.{length-take-le, length-take, length-drop, get_or-take, get_or-drop, ext_get_or, nil_from_length}
use Rattle.std.proofs.lemmas.Slice.Eq.{bytes_eq-Decides}
use Rattle.elf_object.specs.Blocks.{Block, block_covers, is_covered, byte_over, spread, same_extent, same_block}
use Rattle.law_object.proofs.BlockLaws.{length-spread, get_or-spread}
use Rattle.law_object.proofs.StandLaws.{covered_from}
use Rattle.law_object.proofs.writing.Bools.{both_true}
use Rattle.law_object.specs.Writing.Lines.{StandsAt, HoldsBlock}

-- ---- Byte by byte

-- what stands somewhere ends there
pub stands_within : (bytes : List ℕ) (at : ℕ) (piece : List ℕ) (j : ℕ) → StandsAt bytes at piece → j < length piece → at + j < length bytes
stands_within bytes at piece j stands below =
    let len = ap length stands in
    let whole = length-take (length piece) (drop at bytes) in
    let rest = length-drop at bytes in
    omega arith

pub stands_byte : (bytes : List ℕ) (at : ℕ) (piece : List ℕ) (j : ℕ) → StandsAt bytes at piece → j < length piece → get_or piece j 0 ≡ get_or bytes (at + j) 0
stands_byte bytes at piece j stands below =
    sym (ap (λ (l : List ℕ). get_or l j 0) stands)
    ∙ get_or-take (length piece) (drop at bytes) j 0 below
    ∙ get_or-drop at bytes j 0

pub stands_from : (bytes : List ℕ) (at : ℕ) (piece : List ℕ) → (0 < length piece → at + length piece ≤ length bytes) → ((j : ℕ) → j < length piece → get_or bytes (at + j) 0 ≡ get_or piece j 0) → StandsAt bytes at piece
stands_from bytes at piece fits each =
    let rest = length-drop at bytes in
    ⊎_elim
    (λ some.
    let end = fits some in
    let len : length (take (length piece) (drop at bytes)) ≡ length piece = length-take-le (length piece) (drop at bytes) (omega arith) in
    ext_get_or 0 (take (length piece) (drop at bytes)) piece len (λ j h.
    get_or-take (length piece) (drop at bytes) j 0 (omega arith) ∙ get_or-drop at bytes j 0 ∙ each j (omega arith)))
    (λ none. let empty = nil_from_length piece (omega arith) in rw empty refl)
    (cases_lt 0 (length piece))

-- of a block
pub held_byte : (bytes : List ℕ) (b : Block) (k : ℕ) → HoldsBlock bytes b → block_covers b k ≡ true → get_or b.bytes (k - b.at) 0 ≡ get_or bytes k 0
held_byte bytes b k holds over =
    let is = covered_from b k over in
    let from = is.from in
    let below = is.below in
    let place : b.at + (k - b.at) ≡ k = omega arith in
    stands_byte bytes b.at b.bytes (k - b.at) holds (omega arith) ∙ ap (λ (j : ℕ). get_or bytes j 0) place

pub held_within : (bytes : List ℕ) (b : Block) (k : ℕ) → HoldsBlock bytes b → block_covers b k ≡ true → k < length bytes
held_within bytes b k holds over =
    let is = covered_from b k over in
    let from = is.from in
    let below = is.below in
    let inside = stands_within bytes b.at b.bytes (k - b.at) holds (omega arith) in
    omega arith

-- where each block stands in bytes, a place that one block_covers has the byte there
pub covered_byte : (bytes : List ℕ) (otherwise : ℕ → ℕ) (blocks : List Block) (k : ℕ) → AllByRecursion (HoldsBlock bytes) blocks → is_covered blocks k ≡ true → byte_over otherwise blocks k ≡ get_or bytes k 0
unfolding byte_over is_covered
covered_byte bytes otherwise [] k holds over = cc
covered_byte bytes otherwise (b ∷ bs) k holds over = by_test (block_covers b k) refl over (covered_byte bytes otherwise bs k holds.1)
  where
    by_test : (c : Bool) → block_covers b k ≡ c → (c || is_covered bs k) ≡ true → (is_covered bs k ≡ true → byte_over otherwise bs k ≡ get_or bytes k 0) → (if c then get_or b.bytes (k - b.at) 0 else byte_over otherwise bs k) ≡ get_or bytes k 0
    by_test true e any rest = held_byte bytes b k holds.0 e
    by_test false e any rest = rest any

pub covered_within : (bytes : List ℕ) (blocks : List Block) (k : ℕ) → AllByRecursion (HoldsBlock bytes) blocks → is_covered blocks k ≡ true → k < length bytes
unfolding is_covered
covered_within bytes [] k holds over = cc
covered_within bytes (b ∷ bs) k holds over = by_test (block_covers b k) refl over (covered_within bytes bs k holds.1)
  where
    by_test : (c : Bool) → block_covers b k ≡ c → (c || is_covered bs k) ≡ true → (is_covered bs k ≡ true → k < length bytes) → k < length bytes
    by_test true e any rest = held_within bytes b k holds.0 e
    by_test false e any rest = rest any

-- bytes that are spread from blocks that give the same bytes
pub spread_alike : (n : ℕ) (f g : ℕ → ℕ) (bs cs : List Block) → ((k : ℕ) → k < n → byte_over f bs k ≡ byte_over g cs k) → spread n f bs ≡ spread n g cs
spread_alike n f g bs cs same =
    let left = length-spread n f bs in
    let right = length-spread n g cs in
    ext_get_or 0 (spread n f bs) (spread n g cs) (left ∙ sym right) (λ k h.
    let below : k < n = omega arith in
    get_or-spread n f bs k below ∙ same k below ∙ sym (get_or-spread n g cs k below))

-- bytes that a device of a length has
pub spread_is : (n : ℕ) (f : ℕ → ℕ) (bs : List Block) (bytes : List ℕ) → length bytes ≡ n → ((k : ℕ) → k < n → byte_over f bs k ≡ get_or bytes k 0) → spread n f bs ≡ bytes
spread_is n f bs bytes len same =
    let left = length-spread n f bs in
    ext_get_or 0 (spread n f bs) bytes (left ∙ sym len) (λ k h.
    let below : k < n = omega arith in
    get_or-spread n f bs k below ∙ same k below)

-- ---- Blocks that are alike

-- extents that are alike are the same, or both are empty
pub same_extent_is : (a m b n : ℕ) → same_extent a m b n ≡ true → ((a ≡ b) × (m ≡ n)) ⊎ ((m ≡ 0) × (n ≡ 0))
unfolding same_extent
same_extent_is a m b n h = by_test (a == b && m == n) refl h
  where
    by_test : (t : Bool) → (a == b && m == n) ≡ t → (t || (m == 0 && n == 0)) ≡ true → ((a ≡ b) × (m ≡ n)) ⊎ ((m ≡ 0) × (n ≡ 0))
    by_test true e f = let both = both_true (a == b) (m == n) e in inl (eqb-true a b both.0, eqb-true m n both.1)
    by_test false e f = let both = both_true (m == 0) (n == 0) f in inr (eqb-true m 0 both.0, eqb-true n 0 both.1)

-- a block that is the same as one that stands in bytes stands there too
pub same_holds : (bytes : List ℕ) (a b : Block) → same_block a b ≡ true → HoldsBlock bytes b → HoldsBlock bytes a
unfolding same_block
same_holds bytes a b same holds =
    let both = both_true (same_extent a.at (length a.bytes) b.at (length b.bytes)) (bytes_eq a.bytes b.bytes) same in
    let equal = (bytes_eq-Decides a.bytes b.bytes).0 both.1 in
    ⊎_elim
    (λ e. let at = e.0 in cc)
    (λ e. let empty = nil_from_length a.bytes e.0 in rw empty refl)
    (same_extent_is a.at (length a.bytes) b.at (length b.bytes) both.0)

pub empty_holds : (bytes : List ℕ) (b : Block) → b.bytes ≡ [] → HoldsBlock bytes b
empty_holds bytes b empty = rw empty refl
