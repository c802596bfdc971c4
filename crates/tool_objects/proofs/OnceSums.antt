-- Sums over lists in which each number stands at most once.
use Rattle.std.proofs.Common.{◌≡◌, ℕ, zero, suc, ◌+◌, ◌-◌, ◌<◌, ◌≤◌, Bool, true, false, List, [], ◌∷◌, ◌++◌, refl, sym, ap, ◌∙◌, subst, arith}
use Rattle.std.specs.Prelude.{if◌then◌else◌, not, ◌==◌, ◌||◌, filter, Contains}
use Rattle.std.specs.List.{sum_by, list_any, range_with_len}
use Rattle.std.proofs.lemmas.Bool.{eqb-true, eq-eqb}
use Rattle.std.proofs.lemmas.List.Sums.{sum_by-append, sum_by-cons}
use Rattle.std.proofs.lemmas.Map.Views.{Contains-from_any}
use Rattle.gelf_view.specs.elf_object.Due.{with_others}

-- whether a number is in a list
abbrev pub has : List ℕ → ℕ → Bool
has xs x = list_any (λ y. y == x) xs

abbrev at : ℕ → (ℕ → ℕ) → ℕ → ℕ
at s f x = if s == x then f x else 0

abbrev where_in : List ℕ → (ℕ → ℕ) → ℕ → ℕ
where_in xs f x = if has xs x then f x else 0

-- each number stands in it at most once: what a number adds to a sum, it adds once
pub record Once (xs : List ℕ) : Type 0 where
  pub at_most : (s : ℕ) (f : ℕ → ℕ) → sum_by (at s f) xs ≤ f s

sum_none : (f : ℕ → ℕ) → sum_by f [] ≡ 0
sum_none f = refl

-- ---- Sums, number by number

zeros : (f : ℕ → ℕ) (xs : List ℕ) → ((x : ℕ) → f x ≡ 0) → sum_by f xs ≡ 0
zeros f [] none = refl
zeros f (x ∷ xs) none = omega (arith, sum_by-cons f x xs, none x, zeros f xs none)

pub sums_same : (f g : ℕ → ℕ) (xs : List ℕ) → ((x : ℕ) → f x ≡ g x) → sum_by f xs ≡ sum_by g xs
sums_same f g [] same = refl
sums_same f g (x ∷ xs) same = omega (arith, sum_by-cons f x xs, sum_by-cons g x xs, same x, sums_same f g xs same)

below_both : (f g h : ℕ → ℕ) (xs : List ℕ) → ((x : ℕ) → f x ≤ g x + h x) → sum_by f xs ≤ sum_by g xs + sum_by h xs
below_both f g h [] le = omega arith
below_both f g h (x ∷ xs) le =
    omega (arith, sum_by-cons f x xs, sum_by-cons g x xs, sum_by-cons h x xs, le x, below_both f g h xs le)

-- a sum is what is left of it and what went
parted : (f g : ℕ → ℕ) (xs : List ℕ) → ((x : ℕ) → g x ≤ f x) → sum_by f xs ≡ sum_by g xs + sum_by (λ x. f x - g x) xs
parted f g [] le = refl
parted f g (x ∷ xs) le =
    omega (arith, sum_by-cons f x xs, sum_by-cons g x xs, sum_by-cons (λ y. f y - g y) x xs, le x, parted f g xs le)

-- ---- Numbers of one list that are in another

either_adds : (a b : Bool) (n : ℕ) → (if a || b then n else 0) ≤ (if a then n else 0) + (if b then n else 0)
either_adds true b n = omega arith
either_adds false b n = omega arith

-- of numbers that stand once, those that are in a list add no more than that list
pub within_list : (xs ys : List ℕ) (f : ℕ → ℕ) → Once xs → sum_by (where_in ys f) xs ≤ sum_by f ys
within_list xs [] f once = omega (arith, zeros (where_in [] f) xs (λ x. refl))
within_list xs (y ∷ ys) f once =
    omega (
      arith,
      below_both (where_in (y ∷ ys) f) (at y f) (where_in ys f) xs (λ x. either_adds (y == x) (has ys x) (f x)),
      once.at_most y f,
      within_list xs ys f once,
      sum_by-cons f y ys,
    )

all_in : (xs ys : List ℕ) (f : ℕ → ℕ) → ((x : ℕ) → has xs x ≡ true → has ys x ≡ true) → sum_by f xs ≡ sum_by (where_in ys f) xs
all_in [] ys f sub = refl
all_in (x ∷ xs) ys f sub =
    omega (
      arith,
      sum_by-cons f x xs,
      sum_by-cons (where_in ys f) x xs,
      ap (λ b. if b then f x else 0) (sub x (here x xs)),
      all_in xs ys f (λ z is. sub z (later x z xs is)),
    )
  where
    here : (x : ℕ) (xs : List ℕ) → has (x ∷ xs) x ≡ true
    here x xs = ap (λ b. b || has xs x) (eq-eqb x x refl)

    or_true : (b : Bool) → (b || true) ≡ true
    or_true true = refl
    or_true false = refl

    later : (x z : ℕ) (xs : List ℕ) → has xs z ≡ true → has (x ∷ xs) z ≡ true
    later x z xs is = ap (λ b. (x == z) || b) is ∙ or_true (x == z)

-- a list of such numbers adds no more than one that has them all
pub sum_within : (xs ys : List ℕ) (f : ℕ → ℕ) → Once xs → ((x : ℕ) → has xs x ≡ true → has ys x ≡ true) → sum_by f xs ≤ sum_by f ys
sum_within xs ys f once sub = omega (arith, all_in xs ys f sub, within_list xs ys f once)

-- What went of a sum over a list went of the sum over one that has its numbers. The count rose by
-- no more than went.
pub went_within : (xs ys : List ℕ) (f g : ℕ → ℕ) (before now : ℕ) → Once xs → ((x : ℕ) → has xs x ≡ true → has ys x ≡ true) → ((x : ℕ) → g x ≤ f x)
    → now + sum_by g xs ≤ before + sum_by f xs → now + sum_by g ys ≤ before + sum_by f ys
went_within xs ys f g before now once sub le h =
    omega (arith, h, parted f g xs le, parted f g ys le, sum_within xs ys (λ x. f x - g x) once sub)

-- ---- What is zero outside a list

all_at : (xs ys : List ℕ) (f : ℕ → ℕ) → ((x : ℕ) → has ys x ≡ false → f x ≡ 0)
    → sum_by f xs ≡ sum_by (where_in ys f) xs
all_at xs ys f none = sums_same f (where_in ys f) xs (λ x. by_test x (has ys x) refl)
  where
    by_test : (x : ℕ) (t : Bool) → has ys x ≡ t → f x ≡ (if t then f x else 0)
    by_test x true is = refl
    by_test x false is = none x is

-- What went of a sum over a list went of the sum over one outside of which it is zero. The count
-- rose by no more than went.
pub went_outside : (xs ys : List ℕ) (f g : ℕ → ℕ) (before now : ℕ) → Once xs
    → ((x : ℕ) → has ys x ≡ false → f x ≡ 0) → ((x : ℕ) → g x ≤ f x)
    → now + sum_by g xs ≤ before + sum_by f xs → now + sum_by g ys ≤ before + sum_by f ys
went_outside xs ys f g before now once none le h =
    let went = λ (x : ℕ). f x - g x in
    let fewer = all_at xs ys went (λ x out. let z = none x out in omega (arith, z)) in
    omega (arith, h, parted f g xs le, parted f g ys le, fewer, within_list xs ys went once)

-- ---- Lists in which each number stands once

at_le : (s x : ℕ) (f : ℕ → ℕ) → at s f x ≤ f s
at_le s x f = by_test (s == x) (eqb-true s x)
  where
    by_test : (b : Bool) → (b ≡ true → s ≡ x) → (if b then f x else 0) ≤ f s
    by_test true same = subst (λ y. f y ≤ f s) (same refl) (omega arith)
    by_test false same = omega arith

pub once_none : Once []
once_none = record { at_most = λ s f. omega (arith, sum_none (at s f)) }

pub once_one : (x : ℕ) → Once (x ∷ [])
once_one x = record { at_most = λ s f. omega (arith, sum_by-cons (at s f) x [], sum_none (at s f), at_le s x f) }

or_false : (a b : Bool) → (a || b) ≡ false → (a ≡ false) × (b ≡ false)
or_false true b h = cc
or_false false b h = (refl, h)

other_way : (a b : ℕ) → (a == b) ≡ false → (b == a) ≡ false
other_way a b h = by_test (b == a) refl
  where
    by_test : (t : Bool) → (b == a) ≡ t → (b == a) ≡ false
    by_test false is = is
    by_test true is = let same : (a == b) ≡ true = eq-eqb a b (sym (eqb-true b a is)) in cc

-- a number that is not in a list adds nothing
not_in : (s : ℕ) (f : ℕ → ℕ) (xs : List ℕ) → has xs s ≡ false → sum_by (at s f) xs ≡ 0
not_in s f [] out = refl
not_in s f (x ∷ xs) out =
    let parts = or_false (x == s) (has xs s) out in
    omega (arith, sum_by-cons (at s f) x xs, ap (λ b. if b then f x else 0) (other_way x s parts.0), not_in s f xs parts.1)

abbrev others : List ℕ → List ℕ → List ℕ
others xs ys = filter (λ y. not (has xs y)) ys

-- one that is in the first list is none of the others
not_other : (s : ℕ) (f : ℕ → ℕ) (xs ys : List ℕ) → has xs s ≡ true → sum_by (at s f) (others xs ys) ≡ 0
not_other s f xs [] is_in = refl
not_other s f xs (y ∷ ys) is_in = by_test (has xs y) refl (not_other s f xs ys is_in)
  where
    by_equal : (e : Bool) → (s == y) ≡ e → has xs y ≡ false → at s f y ≡ 0
    by_equal true is out = let same : has xs y ≡ true = subst (λ z. has xs z ≡ true) (eqb-true s y is) is_in in cc
    by_equal false is out = ap (λ b. if b then f y else 0) is

    by_test : (t : Bool) → has xs y ≡ t → sum_by (at s f) (others xs ys) ≡ 0 → sum_by (at s f) (others xs (y ∷ ys)) ≡ 0
    by_test true is rest = rw is rest
    by_test false is rest =
        rw is (omega (arith, sum_by-cons (at s f) y (others xs ys), by_equal (s == y) refl is, rest))

fewer : (f : ℕ → ℕ) (xs ys : List ℕ) → sum_by f (others xs ys) ≤ sum_by f ys
fewer f xs [] = omega arith
fewer f xs (y ∷ ys) = by_test (has xs y) refl (fewer f xs ys)
  where
    by_test : (t : Bool) → has xs y ≡ t → sum_by f (others xs ys) ≤ sum_by f ys → sum_by f (others xs (y ∷ ys)) ≤ sum_by f (y ∷ ys)
    by_test true is rest = rw is (omega (arith, sum_by-cons f y ys, rest))
    by_test false is rest = rw is (omega (arith, sum_by-cons f y ys, sum_by-cons f y (others xs ys), rest))

pub once_others : (xs ys : List ℕ) → Once xs → Once ys → Once (with_others xs ys)
unfolding with_others
once_others xs ys first second = record { at_most = λ s f. by_test s f (has xs s) refl }
  where
    by_test : (s : ℕ) (f : ℕ → ℕ) (t : Bool) → has xs s ≡ t → sum_by (at s f) (xs ++ others xs ys) ≤ f s
    by_test s f true is = omega (arith, sum_by-append (at s f) xs (others xs ys), first.at_most s f, not_other s f xs ys is)
    by_test s f false is =
        omega (arith, sum_by-append (at s f) xs (others xs ys), not_in s f xs is, second.at_most s f, fewer (at s f) xs ys)

-- a range has each of its numbers once

-- below its first number none is in it
below_range : (a n x : ℕ) → x < a → has (range_with_len a n) x ≡ false
below_range a zero x lt = refl
below_range a (suc n) x lt = by_test (a == x) refl (below_range (a + 1) n x (omega arith))
  where
    by_test : (t : Bool) → (a == x) ≡ t → has (range_with_len (a + 1) n) x ≡ false
        → (t || has (range_with_len (a + 1) n) x) ≡ false
    by_test false is rest = rest
    by_test true is rest = let same = eqb-true a x is in absurd (omega (arith, same, lt))

pub once_range : (a n : ℕ) → Once (range_with_len a n)
once_range a zero = once_none
once_range a (suc n) =
    let rest = once_range (a + 1) n in
    record { at_most = λ s f. by_test s f (s == a) refl (rest.at_most s f) }
  where
    by_test : (s : ℕ) (f : ℕ → ℕ) (t : Bool) → (s == a) ≡ t
        → sum_by (at s f) (range_with_len (a + 1) n) ≤ f s
        → sum_by (at s f) (a ∷ range_with_len (a + 1) n) ≤ f s
    by_test s f false is rest =
        let first = ap (λ b. if b then f a else 0) is in
        omega (arith, sum_by-cons (at s f) a (range_with_len (a + 1) n), first, rest)
    by_test s f true is rest =
        let same = eqb-true s a is in
        let out = below_range (a + 1) n s (omega (arith, same)) in
        let none = not_in s f (range_with_len (a + 1) n) out in
        omega (arith, sum_by-cons (at s f) a (range_with_len (a + 1) n), none, at_le s a f)

-- a sum of what differs at one number rose by no more than what that number adds
pub rose_at : (f g h : ℕ → ℕ) (s : ℕ) (xs : List ℕ) → Once xs
    → ((x : ℕ) → g x ≤ f x + (if s == x then h x else 0)) → sum_by g xs ≤ sum_by f xs + h s
rose_at f g h s xs once le = omega (arith, below_both g f (at s h) xs le, once.at_most s h)

-- ---- What is in both lists

or_left : (a b : Bool) → a ≡ true → (a || b) ≡ true
or_left true b h = refl
or_left false b h = cc

has_append : (xs ys : List ℕ) (x : ℕ) → has (xs ++ ys) x ≡ (has xs x || has ys x)
has_append [] ys x = refl
has_append (y ∷ xs) ys x = ap (λ b. (y == x) || b) (has_append xs ys x) ∙ assoc (y == x) (has xs x) (has ys x)
  where
    assoc : (a b c : Bool) → (a || (b || c)) ≡ ((a || b) || c)
    assoc true b c = refl
    assoc false b c = refl

pub first_in_both : (xs ys : List ℕ) (x : ℕ) → has xs x ≡ true → has (with_others xs ys) x ≡ true
unfolding with_others
first_in_both xs ys x is_in = has_append xs (others xs ys) x ∙ or_left (has xs x) (has (others xs ys) x) is_in

kept : (xs ys : List ℕ) (x : ℕ) → has xs x ≡ false → has (others xs ys) x ≡ has ys x
kept xs [] x out = refl
kept xs (y ∷ ys) x out = by_test (has xs y) refl (kept xs ys x out)
  where
    by_equal : (e : Bool) → (y == x) ≡ e → has xs y ≡ true → (y == x) ≡ false
    by_equal false is is_in = is
    by_equal true is is_in = let same : has xs x ≡ true = subst (λ z. has xs z ≡ true) (eqb-true y x is) is_in in cc

    by_test : (t : Bool) → has xs y ≡ t → has (others xs ys) x ≡ has ys x → has (others xs (y ∷ ys)) x ≡ has (y ∷ ys) x
    by_test true is rest = rw is (rest ∙ sym (ap (λ b. b || has ys x) (by_equal (y == x) refl is)))
    by_test false is rest = rw is (ap (λ b. (y == x) || b) rest)

pub second_in_both : (xs ys : List ℕ) (x : ℕ) → has ys x ≡ true → has (with_others xs ys) x ≡ true
unfolding with_others
second_in_both xs ys x is_in = by_test (has xs x) refl
  where
    by_test : (t : Bool) → has xs x ≡ t → has (xs ++ others xs ys) x ≡ true
    by_test true is = has_append xs (others xs ys) x ∙ or_left (has xs x) (has (others xs ys) x) is
    by_test false is = has_append xs (others xs ys) x ∙ ap (λ b. b || has (others xs ys) x) is ∙ kept xs ys x is ∙ is_in

-- what is not in a list, in the words of contracts
pub is_out : (xs : List ℕ) (x : ℕ) → (Contains xs x → ⊥) → has xs x ≡ false
is_out xs x out = by_test (has xs x) refl
  where
    by_test : (t : Bool) → has xs x ≡ t → has xs x ≡ false
    by_test false is = is
    by_test true is = absurd (out (Contains-from_any {eq = λ a b. b == a} (λ a b same. sym (eqb-true b a same)) x xs is))
