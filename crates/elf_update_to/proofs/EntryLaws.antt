-- Ranges of bytes that are made of entries of one size.
use Rattle.std.proofs.Common.{◌≡◌, ℕ, ◌+◌, ◌-◌, ◌*◌, ◌/◌, ◌%◌, ◌<◌, ◌≤◌, min, List, ◌++◌, take, drop, sym, ap, ◌∙◌, arith, drop-drop, take-add, ⊎_elim}
use Rattle.std.proofs.Math.Nat.{div-add-mod, mod-lt, mul-le-mul_left}
use Rattle.elf_update_plan.proofs.elf_outside.RangeLemmas.{take-drop-range}
use Rattle.std.proofs.lemmas.Bool.{cases_lt}
use Rattle.std.proofs.lemmas.List.{append-nil}

-- two ranges, one behind the other
pub ranges_join : (from a n at : ℕ) (bytes : List ℕ) → a ≤ n → at ≡ from + a
    → take a (drop from bytes) ++ take (n - a) (drop at bytes) ≡ take n (drop from bytes)
ranges_join from a n at bytes low is =
    let count : a + (n - a) ≡ n = omega arith in
    ap (λ (k : ℕ). take a (drop from bytes) ++ take (n - a) (drop k bytes)) is
    ∙ ap (λ (l : List ℕ). take a (drop from bytes) ++ take (n - a) l) (sym (drop-drop a from bytes))
    ∙ sym (take-add a (n - a) (drop from bytes))
    ∙ ap (λ (k : ℕ). take k (drop from bytes)) count

-- a place within entries is in one of them
pub index_below : (size count from : ℕ) → from < size * count → from / size < count
index_below size count from below =
    ⊎_elim (λ h. h)
    (λ past. let more = mul-le-mul_left size past in absurd (omega (arith, div-add-mod from size, more, below)))
    (cases_lt (from / size) count)

-- ---- The steps of a copy

-- bytes of one entry
pub of_one : (size index skip n : ℕ) (bytes out : List ℕ) → skip + n ≤ size
    → out ≡ take (size * 1) (drop (size * index) bytes)
    → take n (drop skip out) ≡ take n (drop (size * index + skip) bytes)
of_one size index skip n bytes out fits is =
    ap (λ (l : List ℕ). take n (drop skip l)) is
    ∙ take-drop-range bytes (size * index) (size * 1) skip n (omega (arith, fits))

-- whole entries within them all
pub whole_within : (size index len count q : ℕ) → 0 < size → size * q ≤ len → size * index + len ≤ size * count
    → index + q ≤ count
whole_within size index len count q some less within =
    ⊎_elim
    (λ past. let more = mul-le-mul_left {m = count + 1} {n = index + q} size
    (omega (arith, past)) in absurd (omega (arith, more, less, within, some)))
    (λ h. h) (cases_lt count (index + q))

-- and one that is begun behind them
pub begun_within : (size index len count q : ℕ) → size * q < len → size * index + len ≤ size * count
    → index + q < count
begun_within size index len count q more within =
    ⊎_elim (λ h. h)
    (λ past. let all = mul-le-mul_left {m = count} {n = index + q} size
    past in absurd (omega (arith, all, more, within)))
    (cases_lt (index + q) count)

pub entries_join : (size index q len r : ℕ) (bytes x y : List ℕ) → size * q ≤ len → r ≡ len - size * q
    → x ≡ take (size * q) (drop (size * index) bytes) → y ≡ take r (drop (size * (index + q) + 0) bytes)
    → x ++ y ≡ take len (drop (size * index) bytes)
entries_join size index q len r bytes x y less rest first second =
    ap (λ (l : List ℕ). l ++ y) first
    ∙ ap (λ (l : List ℕ). take (size * q) (drop (size * index) bytes) ++ l)
    (second ∙ ap (λ (n : ℕ). take n (drop (size * (index + q) + 0) bytes)) rest)
    ∙ ranges_join (size * index) (size * q) len (size * (index + q) + 0) bytes less (omega arith)

-- the rest of the first entry, and what stands behind it
pub begun_join : (size from first len h r : ℕ) (bytes x y : List ℕ) → 0 < size → first ≡ min (size - from % size) len
    → h ≡ first → r + first ≡ len
    → x ≡ take h (drop (size * (from / size) + from % size) bytes)
    → y ≡ take r (drop (size * (from / size + 1)) bytes)
    → x ++ y ≡ take len (drop from bytes)
begun_join size from first len h r bytes x y some is head rest front back =
    let place = div-add-mod from size in
    let below = mod-lt from some in
    let begins : x ≡ take first (drop from bytes) = front
    ∙ ap (λ (n : ℕ). take n (drop (size * (from / size) + from % size) bytes)) head
    ∙ ap (λ (n : ℕ). take first (drop n bytes)) place in
    let left : r ≡ len - first = omega (arith, rest) in
    ⊎_elim
    (λ more.
    ap (λ (l : List ℕ). l ++ y) begins
    ∙ ap (λ (l : List ℕ). take first (drop from bytes) ++ l)
    (back ∙ ap (λ (n : ℕ). take n (drop (size * (from / size + 1)) bytes)) left)
    ∙ ranges_join from first len (size * (from / size + 1)) bytes (omega (arith, is))
    (omega (arith, is, rest, more, place, below)))
    (λ none.
    let nothing : r ≡ 0 = omega (arith, none) in
    let whole : first ≡ len = omega (arith, rest, nothing) in
    ap (λ (l : List ℕ). l ++ y) begins
    ∙ ap (λ (l : List ℕ). take first (drop from bytes) ++ l)
    (back ∙ ap (λ (n : ℕ). take n (drop (size * (from / size + 1)) bytes)) nothing)
    ∙ append-nil (take first (drop from bytes))
    ∙ ap (λ (n : ℕ). take n (drop from bytes)) whole)
    (cases_lt 0 r)

-- by another name of the size
pub begun_join_by : (size s from first len h r : ℕ) (bytes x y : List ℕ) → s ≡ size → 0 < s
    → first ≡ min (s - from % s) len
    → h ≡ first → r + first ≡ len
    → x ≡ take h (drop (size * (from / s) + from % s) bytes)
    → y ≡ take r (drop (size * (from / s + 1)) bytes)
    → x ++ y ≡ take len (drop from bytes)
begun_join_by size s from first len h r bytes x y same some is head rest front back =
    begun_join s from first len h r bytes x y some is head rest
    (front ∙ ap (λ (n : ℕ). take h (drop (n * (from / s) + from % s) bytes)) (sym same))
    (back ∙ ap (λ (n : ℕ). take r (drop (n * (from / s + 1)) bytes)) (sym same))
