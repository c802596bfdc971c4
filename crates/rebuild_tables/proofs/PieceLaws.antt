-- Items of one size among bytes, some of them at a time.
use Rattle.std.proofs.Common.{◌≡◌, ◌+◌, ◌-◌, ◌*◌, ◌/◌, ◌%◌, ◌<◌, ◌≤◌, ℕ, List, [], length, take, drop, map, Some, sym, ap, ◌∙◌, arith}
use Rattle.std.specs.Prelude.{min}
use Rattle.std.specs.List.{range_with_len}
use Rattle.std.proofs.Math.Nat.{add-mul}
use Rattle.std.proofs.lemmas.Nat.{row_fits, mul-le, div-mul-add, mod-mul-add}
use Rattle.std.proofs.lemmas.List.{length-take-le, length-drop, get_or-take, get_or-drop, take-take, drop-take, drop-drop, take_min, drop_min}
use Rattle.std.proofs.lemmas.List.FromFn.{length-map-range_with_len, get_or-map-range_with_len, fill_by_all}
use Rattle.elf_xlate.specs.Translation.{items_of, listed, between}
use Rattle.elf_xlate.proofs.Pieces.{length_items_of}
use Rattle.elf_xlate.proofs.Decoded.{listed_whole}

-- ---- Numbers

-- the bytes of some items, one behind the other
pub sizes_add : (a b size : ℕ) → a * size + b * size ≡ (a + b) * size
sizes_add a b size = sym (add-mul a b size)

-- so many of them, behind so many others
pub sizes_fit : (a n count size : ℕ) → a + n ≤ count → a * size + n * size ≤ count * size
sizes_fit a n count size within =
    let all = sizes_add a n size in
    let less = mul-le (a + n) size count size within (omega arith) in
    omega (arith, all, less)

-- ---- Items of one size

module _ {X : Type 0} (item : List ℕ → X) (size : ℕ) where
  front_item : (k n : ℕ) (bytes : List ℕ) → k < n
      → take size (drop (k * size) (take (n * size) bytes)) ≡ take size (drop (k * size) bytes)
  front_item k n bytes low =
      let fits = row_fits k size n size low (omega arith) in
      let split : n * size ≡ k * size + (n * size - k * size) = omega (arith, fits) in
      ap (λ (m : ℕ). take size (drop (k * size) (take m bytes))) split
      ∙ ap (take size) (drop-take (k * size) (n * size - k * size) bytes)
      ∙ take-take size (n * size - k * size) (drop (k * size) bytes) (omega (arith, fits))

  -- those of the first bytes that so many take
  pub items_in_front : (n : ℕ) (bytes : List ℕ)
      → items_of item size n (take (n * size) bytes) ≡ items_of item size n bytes
  unfolding items_of
  items_in_front n bytes =
      let cut : ℕ → X = λ i. item (take size (drop (i * size) (take (n * size) bytes))) in
      let whole : ℕ → X = λ i. item (take size (drop (i * size) bytes)) in
      fill_by_all whole (map cut (range_with_len 0 n)) n (item [])
      (length-map-range_with_len cut 0 n)
      (λ k low. get_or-map-range_with_len cut 0 n k k (item []) low (omega arith)
      ∙ ap item (front_item k n bytes low))

  -- those behind others
  pub items_behind : (a n count : ℕ) (bytes : List ℕ) → a + n ≤ count
      → items_of item size n (drop (a * size) bytes)
      ≡ take n (drop a (items_of item size count bytes))
  unfolding items_of
  items_behind a n count bytes within =
      let part : ℕ → X = λ i. item (take size (drop (i * size) (drop (a * size) bytes))) in
      let whole : ℕ → X = λ i. item (take size (drop (i * size) bytes)) in
      let all : List X = map whole (range_with_len 0 count) in
      let long : length all ≡ count = length-map-range_with_len whole 0 count in
      let left : length (drop a all) ≡ length all - a = length-drop a all in
      sym (fill_by_all part (take n (drop a all)) n (item [])
      (length-take-le n (drop a all) (omega (arith, long, left, within)))
      (λ k low. get_or-take n (drop a all) k (item []) low
      ∙ get_or-drop a all k (item [])
      ∙ get_or-map-range_with_len whole 0 count (a + k) (a + k) (item [])
      (omega (arith, low, within)) (omega arith)
      ∙ ap (λ (m : ℕ). item (take size (drop m bytes))) (sym (sizes_add a k size))
      ∙ ap (λ (l : List ℕ). item (take size l)) (sym (drop-drop (k * size) (a * size) bytes))))

  -- bytes that are so many items
  pub listed_all : (n : ℕ) (bytes : List ℕ) → 0 < size → length bytes ≡ n * size
      → listed item size bytes ≡ Some (items_of item size n bytes)
  listed_all n bytes some long =
      let at : length bytes ≡ n * size + 0 = omega (arith, long) in
      listed_whole item size bytes
      (ap (λ (m : ℕ). m % size) at ∙ mod-mul-add n size 0 some)
      ∙ ap (λ (m : ℕ). Some (items_of item size m bytes))
      (ap (λ (m : ℕ). m / size) at ∙ div-mul-add n size 0 some)

-- ---- From one on and before another one, as many as there are

pub between_there : {X : Type 0} (l : List X) (from to count : ℕ) → length l ≡ count → from ≤ to
    → take (min to count - min from count) (drop (min from count) l) ≡ between from to l
between_there l from to count long order =
    let left : length (drop from l) ≡ length l - from = length-drop from l in
    let same : min to count - min from count ≡ min (to - from) (length (drop from l)) =
    omega (arith, long, left, order) in
    ap (λ (n : ℕ). take (min to count - min from count) (drop (min from n) l)) (sym long)
    ∙ ap (take (min to count - min from count)) (drop_min from l)
    ∙ ap (λ (n : ℕ). take n (drop from l)) same
    ∙ take_min (to - from) (drop from l)

module _ {X : Type 0} (item : List ℕ → X) (size at count from to : ℕ) (base : List ℕ)
    (order : from ≤ to) where
  abbrev first : ℕ
  first = min from count

  abbrev rows : ℕ
  rows = min to count - min from count

  -- the bytes of them
  pub rows_long : at + count * size ≤ length base
      → length (take (rows * size) (drop (at + first * size) base)) ≡ rows * size
  rows_long inside =
      let within : first + rows ≤ count = omega (arith, order) in
      let fits = sizes_fit first rows count size within in
      let left = length-drop (at + first * size) base in
      length-take-le (rows * size) (drop (at + first * size) base)
      (omega (arith, inside, fits, left))

  -- and what they hold
  pub rows_are : items_of item size rows (take (rows * size) (drop (at + first * size) base))
      ≡ between from to (items_of item size count (drop at base))
  rows_are =
      let within : first + rows ≤ count = omega (arith, order) in
      items_in_front item size rows (drop (at + first * size) base)
      ∙ ap (items_of item size rows) (sym (drop-drop (first * size) at base))
      ∙ items_behind item size first rows count (drop at base) within
      ∙ between_there (items_of item size count (drop at base)) from to count
      (length_items_of item size count (drop at base)) order
