-- The places between blocks in a line: which they are, how many lie below a length, and the fill of the others.
use Rattle.std.proofs.Common.{◌≡◌, ℕ, zero, suc, ◌+◌, ◌-◌, ◌<◌, ◌≤◌, max, Bool, true, false, not, ◌&&◌, ◌||◌, List, [], ◌∷◌, ◌++◌, length, replicate, refl, sym, ap, ◌∙◌, arith, ⊎_elim, inl, inr}
use Rattle.std.specs.Prelude.{nat_lt, cond, sum_by}
use Rattle.std.specs.List.{range_with_len, filter}
use Rattle.std.proofs.lemmas.Bool.{cases_lt, lt-ltb, le-ltb}
use Rattle.std.proofs.lemmas.List.{length-append, length-replicate}
use Rattle.std.proofs.lemmas.List.Elements.{filter-append}
use Rattle.std.proofs.lemmas.List.Sums.{sum_by-cons}
use Rattle.elf_object.specs.Blocks.{Block, block_end, block_covers, is_covered}
use Rattle.std.proofs.Math.Bool.{or-true}
use Rattle.law_object.proofs.writing.Bools.{neither}
use Rattle.law_object.specs.Writing.Lines.{AreInLine, gap_places}
use Rattle.law_object.specs.Writing.Plan.{places_below, base_gaps, fill_block, fill_between}
use Rattle.law_object.proofs.writing.LineLaws.{covers_from, not_covered, end_is, line_within, before_line}

-- ---- Ranges

pub split_range : (a m n : ℕ) → range_with_len a (m + n) ≡ range_with_len a m ++ range_with_len (a + m) n
split_range a zero n =
    let start : a + 0 ≡ a = omega arith in
    let count : 0 + n ≡ n = omega arith in
    ap (range_with_len a) count ∙ ap (λ (k : ℕ). range_with_len k n) (sym start)
split_range a (suc m) n =
    let next : a + 1 + m ≡ a + suc m = omega arith in
    let count : suc m + n ≡ suc (m + n) = omega arith in
    ap (range_with_len a) count ∙ ap (λ (l : List ℕ). a ∷ l) (split_range (a + 1) m n ∙ ap (λ (k : ℕ). range_with_len (a + 1) m ++ range_with_len k n) next)

pub filter_range : (p q : ℕ → Bool) (a n : ℕ) → ((k : ℕ) → a ≤ k → k < a + n → p k ≡ q k) → filter p (range_with_len a n) ≡ filter q (range_with_len a n)
filter_range p q a zero same = refl
filter_range p q a (suc n) same =
    let here = same a (omega arith) (omega arith) in
    let rest = filter_range p q (a + 1) n (λ k from below. same k (omega arith) (omega arith)) in
    ap (λ (b : Bool). cond b (a ∷ filter p (range_with_len (a + 1) n)) (filter p (range_with_len (a + 1) n))) here
    ∙ ap (λ (l : List ℕ). cond (q a) (a ∷ l) l) rest

pub filter_range_none : (p : ℕ → Bool) (a n : ℕ) → ((k : ℕ) → a ≤ k → k < a + n → p k ≡ false) → filter p (range_with_len a n) ≡ []
filter_range_none p a zero none = refl
filter_range_none p a (suc n) none =
    let here = none a (omega arith) (omega arith) in
    ap (λ (b : Bool). cond b (a ∷ filter p (range_with_len (a + 1) n)) (filter p (range_with_len (a + 1) n))) here
    ∙ filter_range_none p (a + 1) n (λ k from below. none k (omega arith) (omega arith))

-- ---- The places that no block block_covers

-- a place behind the first of them is covered by it no more
behind_first : (b : Block) (bs : List Block) (k : ℕ) → block_end b ≤ k → is_covered (b ∷ bs) k ≡ is_covered bs k
unfolding is_covered
behind_first b bs k h =
    let last = end_is b in
    let out = not_covered b k (inr (omega arith)) in
    rw out refl

in_first : (b : Block) (bs : List Block) (k : ℕ) → b.at ≤ k → k < block_end b → is_covered (b ∷ bs) k ≡ true
unfolding is_covered
in_first b bs k from below =
    let last = end_is b in
    let over = covers_from b k from (omega arith) in
    rw over refl

pub before_first : (b : Block) (bs : List Block) (end k : ℕ) → AreInLine end (block_end b) bs → k < b.at → is_covered (b ∷ bs) k ≡ false
unfolding is_covered
before_first b bs end k line h =
    let last = end_is b in
    let out = not_covered b k (inl h) in
    let rest = before_line end (block_end b) bs k line (omega arith) in
    rw (out, rest) refl

-- those that pass a further test
pub filter_gaps : (q : ℕ → Bool) (end from : ℕ) (bs : List Block) → AreInLine end from bs → filter (λ k. not (is_covered bs k) && q k) (range_with_len from (end - from)) ≡ filter q (gap_places end from bs)
unfolding is_covered
filter_gaps q end from [] line = filter_range (λ k. not (is_covered [] k) && q k) q from (end - from) (λ k a b. nothing k)
  where
    nothing : (k : ℕ) → (not (is_covered [] k) && q k) ≡ q k
    nothing k = refl
filter_gaps q end from (b ∷ bs) line =
    let test : ℕ → Bool = λ k. not (is_covered (b ∷ bs) k) && q k in
    let here = line.0 in
    let last = end_is b in
    let inside = line_within end (block_end b) bs line.1 in
    let whole : end - from ≡ (b.at - from) + (length b.bytes + (end - block_end b)) = omega arith in
    let at : from + (b.at - from) ≡ b.at = omega arith in
    let parts : range_with_len from (end - from) ≡ range_with_len from (b.at - from) ++ (range_with_len b.at (length b.bytes) ++ range_with_len (block_end b) (end - block_end b)) =
    ap (range_with_len from) whole
    ∙ split_range from (b.at - from) (length b.bytes + (end - block_end b))
    ∙ ap (λ (a : ℕ). range_with_len from (b.at - from) ++ range_with_len a (length b.bytes + (end - block_end b))) at
    ∙ ap (λ (l : List ℕ). range_with_len from (b.at - from) ++ l) (split_range b.at (length b.bytes) (end - block_end b) ∙ ap (λ (a : ℕ). range_with_len b.at (length b.bytes) ++ range_with_len a (end - block_end b)) (sym last)) in
    let first : filter (λ k. not (is_covered (b ∷ bs) k) && q k) (range_with_len from (b.at - from)) ≡ filter q (range_with_len from (b.at - from)) =
    filter_range (λ k. not (is_covered (b ∷ bs) k) && q k) q from (b.at - from) (λ k a c. ap (λ (t : Bool). not t && q k) (before_first b bs end k line.1 (omega arith))) in
    let second : filter (λ k. not (is_covered (b ∷ bs) k) && q k) (range_with_len b.at (length b.bytes)) ≡ [] =
    filter_range_none (λ k. not (is_covered (b ∷ bs) k) && q k) b.at (length b.bytes) (λ k a c. ap (λ (t : Bool). not t && q k) (in_first b bs k a (omega arith))) in
    let third : filter (λ k. not (is_covered (b ∷ bs) k) && q k) (range_with_len (block_end b) (end - block_end b)) ≡ filter q (gap_places end (block_end b) bs) =
    filter_range (λ k. not (is_covered (b ∷ bs) k) && q k) (λ k. not (is_covered bs k) && q k) (block_end b) (end - block_end b) (λ k a c. ap (λ (t : Bool). not t && q k) (behind_first b bs k a))
    ∙ filter_gaps q end (block_end b) bs line.1 in
    ap (filter (λ k. not (is_covered (b ∷ bs) k) && q k)) parts
    ∙ filter-append (λ k. not (is_covered (b ∷ bs) k) && q k) (range_with_len from (b.at - from)) (range_with_len b.at (length b.bytes) ++ range_with_len (block_end b) (end - block_end b))
    ∙ ap (λ (l : List ℕ). l ++ filter (λ k. not (is_covered (b ∷ bs) k) && q k) (range_with_len b.at (length b.bytes) ++ range_with_len (block_end b) (end - block_end b))) first
    ∙ ap (λ (l : List ℕ). filter q (range_with_len from (b.at - from)) ++ l) (filter-append (λ k. not (is_covered (b ∷ bs) k) && q k) (range_with_len b.at (length b.bytes)) (range_with_len (block_end b) (end - block_end b)))
    ∙ ap (λ (l : List ℕ). filter q (range_with_len from (b.at - from)) ++ (l ++ filter (λ k. not (is_covered (b ∷ bs) k) && q k) (range_with_len (block_end b) (end - block_end b)))) second
    ∙ ap (λ (l : List ℕ). filter q (range_with_len from (b.at - from)) ++ l) third
    ∙ sym (filter-append q (range_with_len from (b.at - from)) (gap_places end (block_end b) bs))

-- ---- How many of them lie below a length, and from it on

below_in_range : (kept a n : ℕ) → length (filter (λ k. nat_lt k kept) (range_with_len a n)) ≡ places_below kept a (a + n)
below_in_range kept a zero = omega arith
below_in_range kept a (suc n) =
    let rest = below_in_range kept (a + 1) n in
    ⊎_elim
    (λ h. ap (λ (b : Bool). length (cond b (a ∷ filter (λ k. nat_lt k kept) (range_with_len (a + 1) n)) (filter (λ k. nat_lt k kept) (range_with_len (a + 1) n)))) (lt-ltb a kept h) ∙ omega arith)
    (λ h. ap (λ (b : Bool). length (cond b (a ∷ filter (λ k. nat_lt k kept) (range_with_len (a + 1) n)) (filter (λ k. nat_lt k kept) (range_with_len (a + 1) n)))) (le-ltb a kept h) ∙ omega arith)
    (cases_lt a kept)

from_in_range : (kept a n : ℕ) → length (filter (λ k. not (nat_lt k kept)) (range_with_len a n)) ≡ a + n - max a kept
from_in_range kept a zero = omega arith
from_in_range kept a (suc n) =
    let rest = from_in_range kept (a + 1) n in
    ⊎_elim
    (λ h. ap (λ (b : Bool). length (cond (not b) (a ∷ filter (λ k. not (nat_lt k kept)) (range_with_len (a + 1) n)) (filter (λ k. not (nat_lt k kept)) (range_with_len (a + 1) n)))) (lt-ltb a kept h) ∙ omega arith)
    (λ h. ap (λ (b : Bool). length (cond (not b) (a ∷ filter (λ k. not (nat_lt k kept)) (range_with_len (a + 1) n)) (filter (λ k. not (nat_lt k kept)) (range_with_len (a + 1) n)))) (le-ltb a kept h) ∙ omega arith)
    (cases_lt a kept)

pub length-base_gaps : (kept end from : ℕ) (bs : List Block) → AreInLine end from bs → length (filter (λ k. nat_lt k kept) (gap_places end from bs)) ≡ base_gaps kept end from bs
length-base_gaps kept end from [] line =
    let at : from + (end - from) ≡ end = omega arith in
    below_in_range kept from (end - from) ∙ ap (places_below kept from) at
length-base_gaps kept end from (b ∷ bs) line =
    let here = line.0 in
    let at : from + (b.at - from) ≡ b.at = omega arith in
    let first = below_in_range kept from (b.at - from) ∙ ap (places_below kept from) at in
    let rest = length-base_gaps kept end (block_end b) bs line.1 in
    ap length (filter-append (λ k. nat_lt k kept) (range_with_len from (b.at - from)) (gap_places end (block_end b) bs))
    ∙ length-append (filter (λ k. nat_lt k kept) (range_with_len from (b.at - from))) (filter (λ k. nat_lt k kept) (gap_places end (block_end b) bs))
    ∙ ap (λ (n : ℕ). n + length (filter (λ k. nat_lt k kept) (gap_places end (block_end b) bs))) first
    ∙ ap (λ (n : ℕ). places_below kept from b.at + n) rest

-- the fill of the gaps has as many bytes as there are places in them from the length on
pub length-fill_between : (kept fill end from : ℕ) (bs : List Block) → AreInLine end from bs → sum_by (λ b. length b.bytes) (fill_between kept fill end from bs) ≡ length (filter (λ k. not (nat_lt k kept)) (gap_places end from bs))
length-fill_between kept fill end from [] line =
    let count = length-replicate (end - max from kept) fill in
    let places = from_in_range kept from (end - from) in
    omega arith
length-fill_between kept fill end from (b ∷ bs) line =
    let here = line.0 in
    let count = length-replicate (b.at - max from kept) fill in
    let places = from_in_range kept from (b.at - from) in
    let rest = length-fill_between kept fill end (block_end b) bs line.1 in
    let first : length (replicate (b.at - max from kept) fill) ≡ length (filter (λ k. not (nat_lt k kept)) (range_with_len from (b.at - from))) = omega arith in
    sum_by-cons (λ x. length x.bytes) (fill_block kept fill from b.at) (fill_between kept fill end (block_end b) bs)
    ∙ ap (λ (n : ℕ). n + sum_by (λ x. length x.bytes) (fill_between kept fill end (block_end b) bs)) first
    ∙ ap (λ (n : ℕ). length (filter (λ k. not (nat_lt k kept)) (range_with_len from (b.at - from))) + n) rest
    ∙ sym (length-append (filter (λ k. not (nat_lt k kept)) (range_with_len from (b.at - from))) (filter (λ k. not (nat_lt k kept)) (gap_places end (block_end b) bs)))
    ∙ sym (ap length (filter-append (λ k. not (nat_lt k kept)) (range_with_len from (b.at - from)) (gap_places end (block_end b) bs)))

-- ---- The fill

covers_fill : (kept fill from end k : ℕ) → from ≤ k → kept ≤ k → k < end → block_covers (fill_block kept fill from end) k ≡ true
covers_fill kept fill from end k a b c =
    let count = length-replicate (end - max from kept) fill in
    covers_from (fill_block kept fill from end) k (omega arith) (omega arith)

-- it block_covers the places that no block block_covers, from the length on
pub fill_covers : (kept fill end from : ℕ) (bs : List Block) (k : ℕ) → AreInLine end from bs → from ≤ k → k < end → kept ≤ k → is_covered bs k ≡ false → is_covered (fill_between kept fill end from bs) k ≡ true
unfolding is_covered
fill_covers kept fill end from [] k line a b c none =
    let over = covers_fill kept fill from end k a c b in
    ap (λ (t : Bool). t || false) over
fill_covers kept fill end from (b ∷ bs) k line a below c none =
    let last = end_is b in
    let both = neither (block_covers b k) (is_covered bs k) none in
    ⊎_elim
    (λ before.
    let over = covers_fill kept fill from b.at k a c before in
    ap (λ (t : Bool). t || is_covered (fill_between kept fill end (block_end b) bs) k) over)
    (λ behind.
    let past : block_end b ≤ k = ⊎_elim (λ h. absurd (let over = covers_from b k behind h in let clash : false ≡ true = sym both.0 ∙ over in cc)) (λ h. omega arith) (cases_lt k (b.at + length b.bytes)) in
    ap (λ (t : Bool). block_covers (fill_block kept fill from b.at) k || t) (fill_covers kept fill end (block_end b) bs k line.1 past below c both.1)
    ∙ or-true (block_covers (fill_block kept fill from b.at) k))
    (cases_lt k b.at)
