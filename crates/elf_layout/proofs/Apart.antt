-- Where nothing is refused no byte of the image is one of two parts, and each lies within its length.
use Rattle.std.proofs.Common.{◌≡◌, ℕ, ◌+◌, ◌<◌, ◌≤◌, max, List, [], ◌∷◌, length, zero, suc, Bool, true, false, cond, ◌&&◌, nat_lt, nat_le, IsTrue, Option, None, slice_get, ◌∙◌, refl, arith}
use Rattle.std.specs.Bool.{⊤}
use Rattle.std.specs.Option.{option_map}
use Rattle.std.specs.List.{AllByRecursion, AllPairs, filter, list_any}
use Rattle.std.proofs.lemmas.Bool.{lt-ltb, ltb-true, leb-true, both_ways, and_parts, and_from, and_left, and_right, or_parts, cond-true}
use Rattle.std.proofs.lemmas.List.Elements.{All-from_recursion}
use Rattle.elf_types.specs.declared.records.Part.{Part}
use Rattle.elf_layout.specs.declared.parts.PartAt.{PartAt}
use Rattle.elf_layout.specs.Meeting.{has_bytes, end_of, meets, covers, IsApart, LiesWithin, inserted_by, sorted_by, parts_by_position, first_met, overlap_of}
use Rattle.elf_layout.specs.Layout.{place_of, end_after, in_order_from, length_with, length_from}
use Rattle.elf_layout.proofs.Sorting.{all_weaker, all-inserted_by_back, all-sorted_by_back}
use Rattle.elf_layout.proofs.Lengths.{length_from_ge}
use Rattle.elf_layout.proofs.Successive.{place_of-ge, end_after-ge}

-- a relation between each item and each later one
abbrev Pairs : {X : Type 0} → (X → X → Type 0) → List X → Type 0
Pairs R [] = ⊤
Pairs R (x ∷ xs) = AllByRecursion (R x) xs × Pairs R xs

all_pairs_from : {X : Type 0} (R : X → X → Type 0) (xs : List X) → Pairs R xs → AllPairs R xs
all_pairs_from R [] pairs i j d below inside = absurd (omega arith)
all_pairs_from R (x ∷ xs) pairs zero zero d below inside = absurd (omega arith)
all_pairs_from R (x ∷ xs) pairs zero (suc j) d below inside = All-from_recursion (R x) xs pairs.0 j d (omega arith)
all_pairs_from R (x ∷ xs) pairs (suc i) zero d below inside = absurd (omega arith)
all_pairs_from R (x ∷ xs) pairs (suc i) (suc j) d below inside = all_pairs_from R xs pairs.1 i j d (omega arith) (omega arith)

-- a sort keeps such a relation where it holds both ways
pairs_either : {X : Type 0} (key : X → ℕ) (R : X → X → Type 0) → ((x y : X) → R x y → R y x) → (x y : X) (ys : List X) → (Pairs R (inserted_by key x ys) → Pairs R (x ∷ ys)) → (b : Bool) → Pairs R (cond b (x ∷ y ∷ ys) (y ∷ inserted_by key x ys)) → Pairs R (x ∷ y ∷ ys)
pairs_either key R back x y ys rest true pairs = pairs
pairs_either key R back x y ys rest false pairs =
    let here = all-inserted_by_back key (R y) x ys pairs.0 in
    let later = rest pairs.1 in
    ((back y x here.0, later.0), (here.1, later.1))

pairs-inserted_by : {X : Type 0} (key : X → ℕ) (R : X → X → Type 0) → ((x y : X) → R x y → R y x) → (x : X) (xs : List X) → Pairs R (inserted_by key x xs) → Pairs R (x ∷ xs)
pairs-inserted_by key R back x [] pairs = pairs
pairs-inserted_by key R back x (y ∷ ys) pairs =
    pairs_either key R back x y ys (pairs-inserted_by key R back x ys) (nat_le (key x) (key y)) pairs

pairs-sorted_by : {X : Type 0} (key : X → ℕ) (R : X → X → Type 0) → ((x y : X) → R x y → R y x) → (xs : List X) → Pairs R (sorted_by key xs) → Pairs R xs
pairs-sorted_by key R back [] pairs = tt
pairs-sorted_by key R back (x ∷ xs) pairs =
    let parts = pairs-inserted_by key R back x (sorted_by key xs) pairs in
    (all-sorted_by_back key (R x) xs parts.0, pairs-sorted_by key R back xs parts.1)

meets_swap : (a b c d : Bool) → (((a && b) && c) && d) ≡ (((b && a) && d) && c)
meets_swap true true true true = refl
meets_swap true true true false = refl
meets_swap true true false true = refl
meets_swap true true false false = refl
meets_swap true false c d = refl
meets_swap false true c d = refl
meets_swap false false c d = refl

abbrev IsMissed : PartAt → PartAt → Type 0
IsMissed p q = meets p q ≡ false

missed_back : (p q : PartAt) → IsMissed p q → IsMissed q p
unfolding meets
missed_back p q e = meets_swap (has_bytes q) (has_bytes p) (nat_lt q.at (end_of p)) (nat_lt p.at (end_of q)) ∙ e

-- where no first part is met none is
all_missed : (p : PartAt) (ps : List PartAt) → list_any (meets p) ps ≡ false → AllByRecursion (IsMissed p) ps
all_missed p [] none = tt
all_missed p (q ∷ qs) none =
    let parts = or_parts (meets p q) (list_any (meets p) qs) none in
    (parts.0, all_missed p qs parts.1)

some_next : (p : PartAt) (ps : List PartAt) → list_any (meets p) ps ≡ true → ◌≡◌ {A = Option (Part × Part)} (option_map (λ (b : PartAt). (p.part, b.part)) (slice_get ps 0)) None → ⊥
some_next p [] some none = cc
some_next p (q ∷ qs) some none = cc

missed_either : (p : PartAt) (ps : List PartAt) (rest : Option (Part × Part)) → (rest ≡ None → Pairs IsMissed ps) → (b : Bool) → list_any (meets p) ps ≡ b → cond b (option_map (λ (b : PartAt). (p.part, b.part)) (slice_get ps 0)) rest ≡ None → Pairs IsMissed (p ∷ ps)
missed_either p ps rest later true some none = absurd (some_next p ps some none)
missed_either p ps rest later false missed none = (all_missed p ps missed, later none)

pairs_of_none : (ps : List PartAt) → first_met ps ≡ None → Pairs IsMissed ps
unfolding first_met
pairs_of_none [] none = tt
pairs_of_none (p ∷ ps) none = missed_either p ps (first_met ps) (pairs_of_none ps) (list_any (meets p) ps) refl none

-- an empty part is met by none
missed_empty : (p q : PartAt) → has_bytes q ≡ false → IsMissed p q
unfolding meets
missed_empty p q empty = and_left _ _ (and_left _ _ (and_right _ _ empty))

all_with_empty : (p : PartAt) (ps : List PartAt) → AllByRecursion (IsMissed p) (filter has_bytes ps) → AllByRecursion (IsMissed p) ps
all_with_empty p [] all = tt
all_with_empty p (q ∷ qs) all = either (has_bytes q) refl all (λ rest. all_with_empty p qs rest)
  where
    either : (b : Bool) → has_bytes q ≡ b → AllByRecursion (IsMissed p) (cond b (q ∷ filter has_bytes qs) (filter has_bytes qs)) → (AllByRecursion (IsMissed p) (filter has_bytes qs) → AllByRecursion (IsMissed p) qs) → IsMissed p q × AllByRecursion (IsMissed p) qs
    either true full all rest = (all.0, rest all.1)
    either false empty all rest = (missed_empty p q empty, rest all)

all_of_empty : (p : PartAt) (ps : List PartAt) → has_bytes p ≡ false → AllByRecursion (IsMissed p) ps
all_of_empty p [] empty = tt
all_of_empty p (q ∷ qs) empty = (missed_back q p (missed_empty q p empty), all_of_empty p qs empty)

pairs_with_empty : (ps : List PartAt) → Pairs IsMissed (filter has_bytes ps) → Pairs IsMissed ps
pairs_with_empty [] pairs = tt
pairs_with_empty (p ∷ ps) pairs = either (has_bytes p) refl pairs (λ rest. pairs_with_empty ps rest)
  where
    either : (b : Bool) → has_bytes p ≡ b → Pairs IsMissed (cond b (p ∷ filter has_bytes ps) (filter has_bytes ps)) → (Pairs IsMissed (filter has_bytes ps) → Pairs IsMissed ps) → AllByRecursion (IsMissed p) ps × Pairs IsMissed ps
    either true full pairs rest = (all_with_empty p ps pairs.0, rest pairs.1)
    either false empty pairs rest = (all_of_empty p ps empty, rest pairs)

-- a byte of a part
pub record IsCovered (p : PartAt) (n : ℕ) : Type 0 where
  pub filled : p.filled ≡ true
  pub from : p.at ≤ n
  pub below : n < p.at + p.len

pub covered_from : (p : PartAt) (n : ℕ) → IsTrue (covers p n) → IsCovered p n
unfolding covers end_of
covered_from p n covered =
    let parts = and_parts (p.filled && nat_le p.at n) (nat_lt n (p.at + p.len)) covered in
    let front = and_parts p.filled (nat_le p.at n) parts.0 in
    record { filled = front.0; from = leb-true p.at n front.1; below = ltb-true n (p.at + p.len) parts.1 }

pub full_from : (p : PartAt) (n : ℕ) → IsCovered p n → has_bytes p ≡ true
unfolding has_bytes
full_from p n covered = and_from _ _ covered.filled (lt-ltb 0 p.len (omega (arith, covered.from, covered.below)))

meets_from : (p q : PartAt) (n : ℕ) → IsCovered p n → IsCovered q n → meets p q ≡ true
unfolding meets end_of
meets_from p q n first second =
    and_from _ _ (and_from _ _ (and_from _ _ (full_from p n first) (full_from q n second)) (lt-ltb _ _ (omega (arith, first.from, second.below)))) (lt-ltb _ _ (omega (arith, second.from, first.below)))

abbrev IsDisjoint : PartAt → PartAt → Type 0
IsDisjoint p q = (n : ℕ) → IsTrue (covers p n) → IsTrue (covers q n) → ⊥

disjoint_from : (p q : PartAt) → IsMissed p q → IsDisjoint p q
disjoint_from p q missed n first second =
    let met = meets_from p q n (covered_from p n first) (covered_from q n second) in
    both_ways (meets p q) missed met

pub apart_by_caller : (ps : List PartAt) → overlap_of ps ≡ None → IsApart ps
unfolding overlap_of parts_by_position
apart_by_caller ps none i j d below inside =
    disjoint_from _ _ (all_pairs_from IsMissed ps (pairs_with_empty ps (pairs-sorted_by (λ p. p.at) IsMissed missed_back (filter has_bytes ps) (pairs_of_none (sorted_by (λ p. p.at) (filter has_bytes ps)) none))) i j d below inside)

-- parts one after the other
behind : (end : ℕ) (ps : List PartAt) → AllByRecursion (λ q. end ≤ q.at) (in_order_from end ps)
unfolding in_order_from
behind end [] = tt
behind end (p ∷ ps) =
    (place_of-ge end p, all_weaker (λ q. end_after end p ≤ q.at) (λ q. end ≤ q.at) (λ q h. omega (arith, end_after-ge end p)) (in_order_from (end_after end p) ps) (behind (end_after end p) ps))

disjoint_behind : (end : ℕ) (p q : PartAt) → end_after end p ≤ q.at → IsDisjoint (record p { at = place_of end p }) q
unfolding end_after
disjoint_behind end p q after n first second =
    let here = covered_from (record p { at = place_of end p }) n first in
    let there = covered_from q n second in
    let end_is = cond-true p.filled (place_of end p + p.len) end here.filled in
    omega (arith, end_is, here.below, there.from)

pairs_in_order : (end : ℕ) (ps : List PartAt) → Pairs IsDisjoint (in_order_from end ps)
unfolding in_order_from
pairs_in_order end [] = tt
pairs_in_order end (p ∷ ps) = (
  all_weaker (λ q. end_after end p ≤ q.at) (IsDisjoint (record p { at = place_of end p })) (λ q after. disjoint_behind end p q after) (in_order_from (end_after end p) ps) (behind (end_after end p) ps),
  pairs_in_order (end_after end p) ps,
)

pub apart_in_order : (ps : List PartAt) → IsApart (in_order_from 0 ps)
apart_in_order ps = all_pairs_from IsDisjoint (in_order_from 0 ps) (pairs_in_order 0 ps)

-- the length
length_with_covers : (length n : ℕ) (p : PartAt) → IsCovered p n → n < length_with length p
unfolding length_with end_of
length_with_covers length n p covered =
    let e = cond-true (has_bytes p) (max length (p.at + p.len)) length (full_from p n covered) in
    omega (arith, e, covered.below)

within : (length : ℕ) (ps : List PartAt) → AllByRecursion (λ p. (n : ℕ) → IsTrue (covers p n) → n < length_from length ps) ps
unfolding length_from
within length [] = tt
within length (p ∷ ps) = (
  (λ n covered. omega (arith, length_with_covers length n p (covered_from p n covered), length_from_ge (length_with length p) ps)),
  within (length_with length p) ps,
)

pub lies_within : (length : ℕ) (ps : List PartAt) → LiesWithin (length_from length ps) ps
lies_within length ps = All-from_recursion _ ps (within length ps)
