-- While bytes are written: in order, as they are left, and over a device, as it is under way.
use Rattle.std.proofs.Common.{◌≡◌, ℕ, ◌+◌, ◌-◌, ◌<◌, ◌≤◌, Bool, true, false, List, [], ◌∷◌, ◌++◌, length, take, drop, get_or, refl, sym, ap, ◌∙◌, arith, ⊎_elim, ◌⊎◌, inl, inr}
use Rattle.std.specs.Prelude.{map, if◌then◌else◌}
use Rattle.std.specs.List.{range_with_len}
use Rattle.std.proofs.lemmas.Bool.{cases_lt}
use Rattle.std.proofs.lemmas.List.{drop-drop, take_at, drop_at, get_or-take, get_or_past, length-take-le, ext_get_or}
use Rattle.std.proofs.lemmas.List.FromFn.{length-map-range_with_len}
use Rattle.elf_object.specs.elf_outside.Torn.{IsTorn}
use Rattle.elf_object.specs.Blocks.{Block, block_end, block_covers, is_covered, byte_over, spread}
use Rattle.law_object.proofs.BlockLaws.{length-spread, get_or-spread}
use Rattle.law_object.proofs.StandLaws.{covered_from}
use Rattle.law_object.specs.Writing.Lines.{StandsAt, HoldsBlock, AreInLine, in_line, IsLeft, patched, IsUnderWay}
use Rattle.law_object.proofs.writing.LineLaws.{drop-spread, end_is}
use Rattle.law_object.proofs.writing.HeldLaws.{held_byte, held_within}

-- ---- In order

-- all of it is left at first
pub left_start : (end : ℕ) (otherwise : ℕ → ℕ) (blocks : List Block) → AreInLine end 0 blocks → IsLeft end otherwise (spread end otherwise blocks) 0 blocks
left_start end otherwise blocks line = record { left = drop-spread end otherwise 0 blocks line; line = line }

-- a gap stands there, and then the block, and then the rest is left
pub record IsNext (end : ℕ) (otherwise : ℕ → ℕ) (bytes : List ℕ) (from : ℕ) (b : Block) (blocks : List Block) : Type 0 where
  pub gap : StandsAt bytes from (map otherwise (range_with_len from (b.at - from)))
  pub block : HoldsBlock bytes b
  pub rest : IsLeft end otherwise bytes (block_end b) blocks

pub left_next : (end : ℕ) (otherwise : ℕ → ℕ) (bytes : List ℕ) (from : ℕ) (b : Block) (blocks : List Block) → IsLeft end otherwise bytes from (b ∷ blocks) → IsNext end otherwise bytes from b blocks
left_next end otherwise bytes from b blocks is =
    let gap : List ℕ = map otherwise (range_with_len from (b.at - from)) in
    let count = length-map-range_with_len otherwise from (b.at - from) in
    let start = is.line.0 in
    let last = end_is b in
    let at : from + (b.at - from) ≡ b.at = omega arith in
    let here : drop b.at bytes ≡ b.bytes ++ in_line end otherwise (block_end b) blocks =
    ap (λ (n : ℕ). drop n bytes) (sym at) ∙ sym (drop-drop (b.at - from) from bytes) ∙ ap (drop (b.at - from)) is.left ∙ drop_at gap (b.bytes ++ in_line end otherwise (block_end b) blocks) (b.at - from) count in
    let behind : drop (block_end b) bytes ≡ in_line end otherwise (block_end b) blocks =
    ap (λ (n : ℕ). drop n bytes) last ∙ sym (drop-drop (length b.bytes) b.at bytes) ∙ ap (drop (length b.bytes)) here ∙ drop_at b.bytes (in_line end otherwise (block_end b) blocks) (length b.bytes) refl in
    record {
      gap = ap (take (length gap)) is.left ∙ take_at gap (b.bytes ++ in_line end otherwise (block_end b) blocks) (length gap) refl;
      block = ap (take (length b.bytes)) here ∙ take_at b.bytes (in_line end otherwise (block_end b) blocks) (length b.bytes) refl;
      rest = record { left = behind; line = is.line.1 };
    }

-- ---- Over a device

pub length-patched : (n : ℕ) (blocks : List Block) (bytes : List ℕ) → length (patched n blocks bytes) ≡ n
unfolding patched
length-patched n blocks bytes = length-spread n (λ k. get_or bytes k 0) blocks

pub patched_byte : (n : ℕ) (blocks : List Block) (bytes : List ℕ) (k : ℕ) → k < n → get_or (patched n blocks bytes) k 0 ≡ byte_over (λ j. get_or bytes j 0) blocks k
unfolding patched
patched_byte n blocks bytes k h = get_or-spread n (λ j. get_or bytes j 0) blocks k h

pub one_over : (otherwise : ℕ → ℕ) (b : Block) (k : ℕ) (c : Bool) → block_covers b k ≡ c → byte_over otherwise (b ∷ []) k ≡ (if c then get_or b.bytes (k - b.at) 0 else otherwise k)
unfolding byte_over
one_over otherwise b k c e = ap (λ (t : Bool). if t then get_or b.bytes (k - b.at) 0 else otherwise k) e

covered_below : (b : Block) (k n : ℕ) → block_covers b k ≡ true → block_end b ≤ n → k < n
covered_below b k n over fits =
    let is = covered_from b k over in
    let below = is.below in
    let last = end_is b in
    omega arith

not_first : (b : Block) (bs : List Block) (k : ℕ) → block_covers b k ≡ false → is_covered bs k ≡ false → is_covered (b ∷ bs) k ≡ false
unfolding is_covered
not_first b bs k out none = rw (out, none) refl

-- before anything is written, the device lengthened with zeros or not
pub under_way_start : (old new held : List ℕ) (blocks : List Block) → ((k : ℕ) → get_or held k 0 ≡ get_or old k 0) → IsUnderWay old new held (length held) blocks blocks
under_way_start old new held blocks same = record {
  len = refl;
  each = λ k below. inl (same k);
  done = λ k over none. let clash : true ≡ false = sym over ∙ none in cc;
}

-- one block is written, which stands in the new bytes
pub under_way_step : (old new held : List ℕ) (size : ℕ) (blocks : List Block) (b : Block) (left : List Block) → IsUnderWay old new held size blocks (b ∷ left) → HoldsBlock new b → block_end b ≤ size → IsUnderWay old new (patched size (b ∷ []) held) size blocks left
under_way_step old new held size blocks b left is stands fits = record {
  len = length-patched size (b ∷ []) held;
  each = λ k below. each k below (block_covers b k) refl;
  done = λ k over none. done k (block_covers b k) refl over none;
}
  where
    same : (k : ℕ) → block_covers b k ≡ false → get_or (patched size (b ∷ []) held) k 0 ≡ get_or held k 0
    same k e = ⊎_elim
        (λ below. patched_byte size (b ∷ []) held k below ∙ one_over (λ j. get_or held j 0) b k false e)
        (λ past.
        let count = length-patched size (b ∷ []) held in
        get_or_past (patched size (b ∷ []) held) k 0 (omega (arith, count, past)) ∙ sym (get_or_past held k 0 (omega (arith, is.len, past))))
        (cases_lt k size)

    written : (k : ℕ) → block_covers b k ≡ true → get_or (patched size (b ∷ []) held) k 0 ≡ get_or new k 0
    written k e =
        let below = covered_below b k size e fits in
        patched_byte size (b ∷ []) held k below ∙ one_over (λ j. get_or held j 0) b k true e ∙ held_byte new b k stands e

    each : (k : ℕ) → k < length (patched size (b ∷ []) held) → (c : Bool) → block_covers b k ≡ c → (get_or (patched size (b ∷ []) held) k 0 ≡ get_or old k 0) ⊎ ((k < length new) × (get_or (patched size (b ∷ []) held) k 0 ≡ get_or new k 0))
    each k below true e = inr (held_within new b k stands e, written k e)
    each k below false e =
        let count = length-patched size (b ∷ []) held in
        ⊎_elim (λ was. inl (same k e ∙ was)) (λ now. inr (now.0, same k e ∙ now.1)) (is.each k (omega (arith, is.len, count, below)))

    done : (k : ℕ) (c : Bool) → block_covers b k ≡ c → is_covered blocks k ≡ true → is_covered left k ≡ false → get_or (patched size (b ∷ []) held) k 0 ≡ get_or new k 0
    done k true e over none = written k e
    done k false e over none = same k e ∙ is.done k over (not_first b left k e none)

-- a failure on the way
pub under_way_torn : (old new held : List ℕ) (size : ℕ) (blocks left : List Block) → IsUnderWay old new held size blocks left → (size ≡ length old) ⊎ (size ≡ length new) → IsTorn old new held
under_way_torn old new held size blocks left is one = record {
  len = ⊎_elim (λ e. inl (is.len ∙ e)) (λ e. inr (is.len ∙ e)) one;
  each = is.each;
}

-- all is written: cut to their length, they are the new bytes
pub under_way_done : (old new held : List ℕ) (size : ℕ) (blocks : List Block) → IsUnderWay old new held size blocks [] → length new ≤ size → ((k : ℕ) → k < length new → is_covered blocks k ≡ false → get_or old k 0 ≡ get_or new k 0) → take (length new) held ≡ new
unfolding is_covered
under_way_done old new held size blocks is fits others =
    let count = is.len in
    let len : length (take (length new) held) ≡ length new = length-take-le (length new) held (omega arith) in
    ext_get_or 0 (take (length new) held) new len (λ k h.
    let below : k < length new = omega arith in
    get_or-take (length new) held k 0 below ∙ by_test k below (is_covered blocks k) refl)
  where
    by_test : (k : ℕ) → k < length new → (c : Bool) → is_covered blocks k ≡ c → get_or held k 0 ≡ get_or new k 0
    by_test k below true e = is.done k e refl
    by_test k below false e = ⊎_elim (λ was. was ∙ others k below e) (λ now. now.1) (is.each k (omega (arith, is.len, fits, below)))
