-- Sums over items that are sorted, and over the parts of an image in the order of its plan.
use Rattle.std.proofs.Common.{◌≡◌, ℕ, zero, suc, ◌+◌, ◌≤◌, Bool, true, false, List, [], ◌∷◌, length, refl, sym, ap, ◌∙◌, arith}
use Rattle.std.specs.Prelude.{nat_le, if◌then◌else◌, map, cond, sum_by}
use Rattle.std.specs.List.{range_with_len, enumerate_from, filter, AllByRecursion}
use Rattle.std.proofs.lemmas.List.Sums.{sum_by-cons}
use Rattle.elf_object.specs.elf_layout.declared.parts.PartAt.{PartAt}
use Rattle.elf_object.specs.elf_layout.Meeting.{has_bytes, inserted_by, sorted_by, ranked_from, ranks_by_position}

sum_inserted : {X : Type 0} (f : X → ℕ) (key : X → ℕ) (x : X) (ys : List X)
    → sum_by f (inserted_by key x ys) ≡ f x + sum_by f ys
sum_inserted f key x [] = sum_by-cons f x []
sum_inserted f key x (y ∷ ys) = by_test (nat_le (key x) (key y)) (sum_inserted f key x ys)
  where
    by_test : (t : Bool) → sum_by f (inserted_by key x ys) ≡ f x + sum_by f ys
        → sum_by f (if t then x ∷ y ∷ ys else y ∷ inserted_by key x ys) ≡ f x + sum_by f (y ∷ ys)
    by_test true rest = sum_by-cons f x (y ∷ ys)
    by_test false rest =
        let here = sum_by-cons f y (inserted_by key x ys) in
        let there = sum_by-cons f y ys in
        omega (arith, rest)

-- sorting keeps a sum
pub sum_sorted : {X : Type 0} (f : X → ℕ) (key : X → ℕ) (xs : List X)
    → sum_by f (sorted_by key xs) ≡ sum_by f xs
sum_sorted f key [] = refl
sum_sorted f key (x ∷ xs) =
    let rest = sum_sorted f key xs in
    sum_inserted f key x (sorted_by key xs)
    ∙ ap (λ (n : ℕ). f x + n) rest
    ∙ sym (sum_by-cons f x xs)

-- and so does leaving out what counts nothing
pub sum_filter : {X : Type 0} (f : X → ℕ) (test : X → Bool) (xs : List X)
    → AllByRecursion (λ x. test x ≡ false → f x ≡ 0) xs
    → sum_by f (filter test xs) ≡ sum_by f xs
sum_filter f test [] none = refl
sum_filter f test (x ∷ xs) none = by_test (test x) refl (sum_filter f test xs none.1)
  where
    by_test : (t : Bool) → test x ≡ t → sum_by f (filter test xs) ≡ sum_by f xs
        → sum_by f (cond t (x ∷ filter test xs) (filter test xs)) ≡ sum_by f (x ∷ xs)
    by_test true e rest =
        sum_by-cons f x (filter test xs)
        ∙ ap (λ (n : ℕ). f x + n) rest
        ∙ sym (sum_by-cons f x xs)
    by_test false e rest =
        let nothing = none.0 e in
        let all = sum_by-cons f x xs in
        omega (arith, rest)

pub sum_mapped : {X Y : Type 0} (f : Y → ℕ) (g : X → Y) (xs : List X)
    → sum_by f (map g xs) ≡ sum_by (λ x. f (g x)) xs
sum_mapped f g [] = refl
sum_mapped f g (x ∷ xs) =
    sum_by-cons f (g x) (map g xs)
    ∙ ap (λ (n : ℕ). f (g x) + n) (sum_mapped f g xs)
    ∙ sym (sum_by-cons (λ y. f (g y)) x xs)

-- a sum over the indexes of a list
pub sum_indexes : {X : Type 0} (f : ℕ → ℕ) (n : ℕ) (xs : List X)
    → sum_by (λ x. f x.0) (enumerate_from n xs) ≡ sum_by f (range_with_len n (length xs))
sum_indexes f n [] = refl
sum_indexes {X} f n (x ∷ xs) =
    sum_by-cons (λ (y : ℕ × X). f y.0) (n, x) (enumerate_from (n + 1) xs)
    ∙ ap (λ (k : ℕ). f n + k) (sum_indexes f (n + 1) xs)
    ∙ sym (sum_by-cons f n (range_with_len (n + 1) (length xs)))

-- a sum over numbers that are shifted by one
pub sum_shifted : (f g : ℕ → ℕ) (a n : ℕ) → ((k : ℕ) → a ≤ k → f (k + 1) ≡ g k)
    → sum_by f (range_with_len (a + 1) n) ≡ sum_by g (range_with_len a n)
sum_shifted f g a zero same = refl
sum_shifted f g a (suc n) same =
    sum_by-cons f (a + 1) (range_with_len (a + 1 + 1) n)
    ∙ ap (λ (k : ℕ). k + sum_by f (range_with_len (a + 1 + 1) n)) (same a (omega arith))
    ∙ ap (λ (k : ℕ). g a + k) (sum_shifted f g (a + 1) n (λ k from. same k (omega arith)))
    ∙ sym (sum_by-cons g a (range_with_len (a + 1) n))

-- one more number
pub range_more : (f : ℕ → ℕ) (a n : ℕ)
    → sum_by f (range_with_len a (n + 1)) ≡ sum_by f (range_with_len a n) + f (a + n)
range_more f a zero =
    let at : f a ≡ f (a + 0) = ap f (omega arith) in
    omega (arith, at)
range_more f a (suc n) =
    let rest = range_more f (a + 1) n in
    let here = sum_by-cons f a (range_with_len (a + 1) (n + 1)) in
    let there = sum_by-cons f a (range_with_len (a + 1) n) in
    let at : f (a + 1 + n) ≡ f (a + suc n) = ap f (omega arith) in
    let count : suc n + 1 ≡ suc (n + 1) = omega arith in
    ap (λ (k : ℕ). sum_by f (range_with_len a k)) count ∙ omega (arith, rest, here, there, at)

-- the first two of a range
pub first_two : (f : ℕ → ℕ) (n : ℕ)
    → sum_by f (range_with_len 0 (2 + n)) ≡ f 0 + (f 1 + sum_by f (range_with_len 2 n))
first_two f n =
    let count : 2 + n ≡ suc (suc n) = omega arith in
    ap (λ (k : ℕ). sum_by f (range_with_len 0 k)) count
    ∙ sum_by-cons f 0 (range_with_len 1 (suc n))
    ∙ ap (λ (k : ℕ). f 0 + k) (sum_by-cons f 1 (range_with_len 2 n))

-- ---- The order of the plan

-- a part that is empty counts nothing
abbrev pub CountsNone : (ℕ → ℕ) → ℕ × PartAt → Type 0
CountsNone f x = has_bytes x.1 ≡ false → f x.0 ≡ 0

-- a sum over the ranks of the plan is one over all parts, where empty ones count nothing
pub sum_by_position : (f : ℕ → ℕ) (ps : List PartAt)
    → AllByRecursion (CountsNone f) (enumerate_from 0 ps)
    → sum_by f (ranks_by_position ps) ≡ sum_by f (range_with_len 0 (length ps))
unfolding ranks_by_position ranked_from
sum_by_position f ps none =
    let ranked : List (ℕ × PartAt) = filter (λ x. has_bytes x.1) (enumerate_from 0 ps) in
    sum_mapped f (λ (x : ℕ × PartAt). x.0) (sorted_by (λ x. x.1.at) ranked)
    ∙ sum_sorted (λ (x : ℕ × PartAt). f x.0) (λ x. x.1.at) ranked
    ∙ sum_filter (λ (x : ℕ × PartAt). f x.0) (λ x. has_bytes x.1) (enumerate_from 0 ps) none
    ∙ sum_indexes f 0 ps
