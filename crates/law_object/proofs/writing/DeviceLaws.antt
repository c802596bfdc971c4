-- Blocks that are written over a device, in the words of its calls: one after the other or by pieces, behind a device that
-- was lengthened, and one that is cut at the end.
use Rattle.std.proofs.Common.{◌≡◌, ℕ, ◌+◌, ◌-◌, ◌<◌, ◌≤◌, Bool, true, false, ◌||◌, List, [], ◌∷◌, ◌++◌, length, take, drop, replicate, get_or, sym, ap, ◌∙◌, subst, arith, ⊎_elim, ◌⊎◌, inl, inr}
use Rattle.std.proofs.lemmas.Bool.{cases_lt}
use Rattle.std.proofs.lemmas.List.{length-append, length-take, length-take-le, length-drop, length-replicate, get_or-append_right, get_or_append_left, get_or-take, get_or-drop, get_or-replicate, get_or_past, append-nil, ext_get_or}
use Rattle.elf_object.specs.elf_outside.Writes.{written_over, resized, IsTornBy}
use Rattle.elf_object.specs.elf_outside.Torn.{IsTorn}
use Rattle.elf_object.specs.Blocks.{Block, block_end, block_covers, is_covered}
use Rattle.law_object.specs.Writing.Lines.{HoldsBlock, patched, IsUnderWay}
use Rattle.law_object.proofs.writing.Bools.{neither}
use Rattle.law_object.proofs.writing.LineLaws.{covers_from, not_covered, end_is}
use Rattle.law_object.proofs.writing.HeldLaws.{stands_from, stands_byte, stands_within}
use Rattle.law_object.proofs.writing.UnderWayLaws.{length-patched, patched_byte, one_over, under_way_step, under_way_done}

-- ---- One piece

-- a piece that is written over bytes is a block that is
pub written_over_is : (bytes : List ℕ) (b : Block) → block_end b ≤ length bytes → written_over bytes b.at b.bytes ≡ patched (length bytes) (b ∷ []) bytes
written_over_is bytes b fits =
    let last = end_is b in
    let front = length-take-le b.at bytes (omega arith) in
    let rest = length-drop (b.at + length b.bytes) bytes in
    let both = length-append (take b.at bytes) b.bytes in
    let whole = length-append (take b.at bytes ++ b.bytes) (drop (b.at + length b.bytes) bytes) in
    let count = length-patched (length bytes) (b ∷ []) bytes in
    let middle : length (take b.at bytes ++ b.bytes) ≡ b.at + length b.bytes = omega arith in
    ext_get_or 0 (written_over bytes b.at b.bytes) (patched (length bytes) (b ∷ []) bytes) (omega arith) (λ k h.
    let inside : k < length bytes = omega arith in
    ⊎_elim
    (λ before.
    get_or_append_left (take b.at bytes ++ b.bytes) (drop (b.at + length b.bytes) bytes) 0 k (omega arith)
    ∙ get_or_append_left (take b.at bytes) b.bytes 0 k (omega arith)
    ∙ get_or-take b.at bytes k 0 before
    ∙ sym (patched_byte (length bytes) (b ∷ []) bytes k inside ∙ one_over (λ j. get_or bytes j 0) b k false (not_covered b k (inl before))))
    (λ from. ⊎_elim
    (λ below.
    get_or_append_left (take b.at bytes ++ b.bytes) (drop (b.at + length b.bytes) bytes) 0 k (omega arith)
    ∙ get_or-append_right (take b.at bytes) b.bytes b.at k 0 front from
    ∙ sym (patched_byte (length bytes) (b ∷ []) bytes k inside ∙ one_over (λ j. get_or bytes j 0) b k true (covers_from b k from below)))
    (λ past.
    let place : b.at + length b.bytes + (k - (b.at + length b.bytes)) ≡ k = omega arith in
    get_or-append_right (take b.at bytes ++ b.bytes) (drop (b.at + length b.bytes) bytes) (b.at + length b.bytes) k 0 middle past
    ∙ get_or-drop (b.at + length b.bytes) bytes (k - (b.at + length b.bytes)) 0
    ∙ ap (λ (j : ℕ). get_or bytes j 0) place
    ∙ sym (patched_byte (length bytes) (b ∷ []) bytes k inside ∙ one_over (λ j. get_or bytes j 0) b k false (not_covered b k (inr past))))
    (cases_lt k (b.at + length b.bytes)))
    (cases_lt k b.at))

-- a block of the new bytes is written
pub under_way_written : (old new held : List ℕ) (size : ℕ) (blocks : List Block) (b : Block) (left : List Block) → IsUnderWay old new held size blocks (b ∷ left) → HoldsBlock new b → block_end b ≤ size → IsUnderWay old new (written_over held b.at b.bytes) size blocks left
under_way_written old new held size blocks b left is stands fits =
    let len = is.len in
    let same = written_over_is held b (omega arith) ∙ ap (λ (n : ℕ). patched n (b ∷ []) held) len in
    subst (λ (l : List ℕ). IsUnderWay old new l size blocks left) (sym same) (under_way_step old new held size blocks b left is stands fits)

-- or is not, and some of its bytes may be there
pub under_way_failed : (old new held torn : List ℕ) (size : ℕ) (blocks left : List Block) (b : Block) → IsUnderWay old new held size blocks left → HoldsBlock new b → IsTornBy held torn b.at b.bytes → (size ≡ length old) ⊎ (size ≡ length new) → IsTorn old new torn
under_way_failed old new held torn size blocks left b is stands between one =
    let len : length torn ≡ size = between.same_len ∙ is.len in
    record {
      len = ⊎_elim (λ e. inl (len ∙ e)) (λ e. inr (len ∙ e)) one;
      each = λ k there. ⊎_elim
          (λ same. ⊎_elim (λ was. inl (same ∙ was)) (λ now. inr (now.0, same ∙ now.1)) (is.each k (omega (arith, between.same_len, there))))
          (λ put.
          let from = put.0 in
          let below = put.1 in
          let place : b.at + (k - b.at) ≡ k = omega arith in
          let inside = stands_within new b.at b.bytes (k - b.at) stands (omega arith) in
          inr (omega (arith, inside, from), put.2 ∙ stands_byte new b.at b.bytes (k - b.at) stands (omega arith) ∙ ap (λ (j : ℕ). get_or new j 0) place))
          (between.old_or_new k);
    }

-- ---- By pieces

-- the first bytes of a block, and the rest
pub front_of : ℕ → Block → Block
front_of n b = record { at = b.at; bytes = take n b.bytes }

pub rest_of : ℕ → Block → Block
rest_of n b = record { at = b.at + n; bytes = drop n b.bytes }

neither_covers : (b : Block) (n k : ℕ) → n ≤ length b.bytes → block_covers (front_of n b) k ≡ false → block_covers (rest_of n b) k ≡ false → block_covers b k ≡ false
unfolding front_of rest_of
neither_covers b n k within first second = not_covered b k (outside (cases_lt k b.at) (cases_lt k (b.at + length b.bytes)))
  where
    outside : (k < b.at) ⊎ (b.at ≤ k) → (k < b.at + length b.bytes) ⊎ (b.at + length b.bytes ≤ k) → (k < b.at) ⊎ (b.at + length b.bytes ≤ k)
    outside before after = ⊎_elim (λ h. inl h) (λ from. ⊎_elim (λ below. absurd (inside from below)) (λ past. inr past) after) before
      where
        inside : b.at ≤ k → k < b.at + length b.bytes → ⊥
        inside from below =
            let front = length-take-le n b.bytes within in
            let rest = length-drop n b.bytes in
            ⊎_elim
            (λ h. let over = covers_from (record { at = b.at; bytes = take n b.bytes }) k from (omega arith) in let clash : false ≡ true = sym first ∙ over in cc)
            (λ h. let over = covers_from (record { at = b.at + n; bytes = drop n b.bytes }) k h (omega arith) in let clash : false ≡ true = sym second ∙ over in cc)
            (cases_lt k (b.at + n))

-- what is left may be cut
pub under_way_split : (old new held : List ℕ) (size : ℕ) (blocks : List Block) (b : Block) (n : ℕ) (left : List Block) → n ≤ length b.bytes → IsUnderWay old new held size blocks (b ∷ left) → IsUnderWay old new held size blocks (front_of n b ∷ rest_of n b ∷ left)
unfolding is_covered
under_way_split old new held size blocks b n left within is = record {
  len = is.len;
  each = is.each;
  done = λ k over none.
      let first = neither (block_covers (front_of n b) k) (block_covers (rest_of n b) k || is_covered left k) none in
      let second = neither (block_covers (rest_of n b) k) (is_covered left k) first.1 in
      is.done k over (both_out (block_covers b k) (is_covered left k) (neither_covers b n k within first.0 second.0) second.1);
}
  where
    both_out : (x y : Bool) → x ≡ false → y ≡ false → (x || y) ≡ false
    both_out true y a b = cc
    both_out false y a b = b

pub front_holds : (bytes : List ℕ) (b : Block) (n : ℕ) → n ≤ length b.bytes → HoldsBlock bytes b → HoldsBlock bytes (front_of n b)
unfolding front_of
front_holds bytes b n within holds =
    let front = length-take-le n b.bytes within in
    stands_from bytes b.at (take n b.bytes) (λ some. let last = stands_within bytes b.at b.bytes (n - 1) holds (omega arith) in omega arith) (λ j h.
    sym (get_or-take n b.bytes j 0 (omega arith) ∙ stands_byte bytes b.at b.bytes j holds (omega arith)))

pub rest_holds : (bytes : List ℕ) (b : Block) (n : ℕ) → HoldsBlock bytes b → HoldsBlock bytes (rest_of n b)
unfolding rest_of
rest_holds bytes b n holds =
    let rest = length-drop n b.bytes in
    stands_from bytes (b.at + n) (drop n b.bytes) (λ some. let last = stands_within bytes b.at b.bytes (length b.bytes - 1) holds (omega arith) in omega arith) (λ j h.
    let place : b.at + n + j ≡ b.at + (n + j) = omega arith in
    ap (λ (i : ℕ). get_or bytes i 0) place ∙ sym (get_or-drop n b.bytes j 0 ∙ stands_byte bytes b.at b.bytes (n + j) holds (omega arith)))

-- ---- A device that is lengthened first, and cut at the end

-- a lengthened device has the same bytes
lengthened_byte : (n : ℕ) (bytes : List ℕ) (k : ℕ) → length bytes ≤ n → get_or (resized n bytes) k 0 ≡ get_or bytes k 0
lengthened_byte n bytes k longer =
    let whole = length-take n bytes in
    let count : length (take n bytes) ≡ length bytes = omega arith in
    let zeros = length-replicate {A = ℕ} (n - length bytes) 0 in
    let all = length-append (take n bytes) (replicate (n - length bytes) 0) in
    ⊎_elim
    (λ below. get_or_append_left (take n bytes) (replicate (n - length bytes) 0) 0 k (omega arith) ∙ get_or-take n bytes k 0 (omega arith))
    (λ past. ⊎_elim
    (λ inside. get_or-append_right (take n bytes) (replicate (n - length bytes) 0) (length bytes) k 0 count past ∙ get_or-replicate (n - length bytes) (k - length bytes) 0 0 (omega arith) ∙ sym (get_or_past bytes k 0 past))
    (λ outside. get_or_past (take n bytes ++ replicate (n - length bytes) 0) k 0 (omega arith) ∙ sym (get_or_past bytes k 0 past))
    (cases_lt k n))
    (cases_lt k (length bytes))

length-lengthened : (n : ℕ) (bytes : List ℕ) → length bytes ≤ n → length (resized n bytes) ≡ n
length-lengthened n bytes longer =
    let whole = length-take n bytes in
    let zeros = length-replicate {A = ℕ} (n - length bytes) 0 in
    let all = length-append (take n bytes) (replicate (n - length bytes) 0) in
    omega arith

pub under_way_lengthened : (old new : List ℕ) (size : ℕ) (blocks : List Block) → length old ≤ size → IsUnderWay old new (resized size old) size blocks blocks
under_way_lengthened old new size blocks longer = record {
  len = length-lengthened size old longer;
  each = λ k below. inl (lengthened_byte size old k longer);
  done = λ k over none. let clash : true ≡ false = sym over ∙ none in cc;
}

-- all is written, and the device is cut to the length of the new bytes
pub under_way_cut : (old new held : List ℕ) (size : ℕ) (blocks : List Block) → IsUnderWay old new held size blocks [] → length new ≤ size → ((k : ℕ) → k < length new → is_covered blocks k ≡ false → get_or old k 0 ≡ get_or new k 0) → resized (length new) held ≡ new
under_way_cut old new held size blocks is fits others =
    let len = is.len in
    let none : length new - length held ≡ 0 = omega arith in
    ap (λ (n : ℕ). take (length new) held ++ replicate n 0) none
    ∙ append-nil (take (length new) held)
    ∙ under_way_done old new held size blocks is fits others
