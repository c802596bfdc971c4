-- A sorted list is the only one with its items: what a sort leaves is known from what it was given.
use Rattle.std.proofs.Common.{◌≡◌, ℕ, ◌+◌, List, [], ◌∷◌, get_or, zero, suc, Bool, true, false, cond, Ordering, sym, ap, subst, refl, arith}
use Rattle.std.specs.Bool.{⊤}
use Rattle.std.specs.Ordering.{is_lt, ordering_reverse}
use Rattle.std.specs.declared.cmp.Ordering.TheVariants.{Less, Equal, Greater}
use Rattle.std.specs.Cmp.{IsTotalOrder}
use Rattle.std.specs.List.{AllByRecursion, sum_by}
use Rattle.std.specs.List.Sorted.{IsSorted}
use Rattle.std.proofs.lemmas.Cmp.{tied_itself}
use Rattle.std.proofs.lemmas.List.Sums.{sum_by-cons}
use Rattle.std.proofs.lemmas.List.Elements.{recursion_from_All}
use Rattle.std.proofs.lemmas.List.Sorted.{ranks_by, sorted_far}

-- no item comes before an earlier one
abbrev pub Rises : {X : Type 0} → (X → X → Ordering) → List X → Type 0
Rises R [] = ⊤
Rises R (x ∷ xs) = AllByRecursion (λ y. is_lt (R y x) ≡ false) xs × Rises R xs

IsSorted-tail : {X : Type 0} (R : X → X → Ordering) (x : X) (xs : List X) → IsSorted R (x ∷ xs) → IsSorted R xs
IsSorted-tail R x xs sorted k d low inside =
    let g : suc k + 1 ≡ suc (k + 1) = omega arith in
    subst (λ (n : ℕ). is_lt (R (get_or (x ∷ xs) n d) (get_or xs k d)) ≡ false) g (sorted (suc k) d (omega arith) (omega arith))

-- the same from what a sort ensures
pub Rises-from_sorted : {X : Type 0} (R : X → X → Ordering) → IsTotalOrder R → (xs : List X) → IsSorted R xs → Rises R xs
Rises-from_sorted R o [] sorted = tt
Rises-from_sorted {X} R o (x ∷ xs) sorted = (
  recursion_from_All (λ y. is_lt (R y x) ≡ false) xs
      (λ k d h. sorted_far (λ y z. is_lt (R y z)) (ranks_by o (λ (y : X). y)) (x ∷ xs) sorted 0 (suc k) d (omega arith) (omega arith)),
  Rises-from_sorted R o xs (IsSorted-tail R x xs sorted),
)

-- and back
pub IsSorted-from_rises : {X : Type 0} (R : X → X → Ordering) (xs : List X) → Rises R xs → IsSorted R xs
IsSorted-from_rises R [] rises k d low inside = absurd (omega (arith, inside))
IsSorted-from_rises R (x ∷ []) rises k d low inside = absurd (omega (arith, inside))
IsSorted-from_rises R (x ∷ y ∷ ys) rises zero d low inside = rises.0.0
IsSorted-from_rises R (x ∷ y ∷ ys) rises (suc k) d low inside =
    let g : suc k + 1 ≡ suc (k + 1) = omega arith in
    let rest = IsSorted-from_rises R (y ∷ ys) rises.1 k d (omega arith) (omega (arith, inside)) in
    subst (λ (n : ℕ). is_lt (R (get_or (x ∷ y ∷ ys) n d) (get_or (y ∷ ys) k d)) ≡ false) (sym g) rest

sum_by-none : {X : Type 0} (f : X → ℕ) (xs : List X) → AllByRecursion (λ x. f x ≡ 0) xs → sum_by f xs ≡ 0
sum_by-none f [] none = refl
sum_by-none f (x ∷ xs) none = omega (arith, sum_by-cons f x xs, none.0, sum_by-none f xs none.1)

-- how often an item stands in a list that comes before y
abbrev earlier : {X : Type 0} → (X → X → Ordering) → X → X → ℕ
earlier R y x = cond (is_lt (R x y)) 1 0

none_earlier : {X : Type 0} (R : X → X → Ordering) (y : X) (xs : List X) → AllByRecursion (λ x. is_lt (R x y) ≡ false) xs → AllByRecursion (λ x. earlier R y x ≡ 0) xs
none_earlier R y [] later = tt
none_earlier R y (x ∷ xs) later = (ap (λ b. cond b 1 0) later.0, none_earlier R y xs later.1)

not_earlier : (b : Bool) → ◌≡◌ {A = ℕ} (cond b 1 0) 0 → b ≡ false
not_earlier true e = absurd (omega arith)
not_earlier false e = refl

-- the first of one list does not come before that of the other
first_not_before : {X : Type 0} (R : X → X → Ordering) → IsTotalOrder R → (x y : X) (xs ys : List X) → Rises R (y ∷ ys) → ((f : X → ℕ) → sum_by f (x ∷ xs) ≡ sum_by f (y ∷ ys)) → is_lt (R x y) ≡ false
first_not_before R o x y xs ys rises same =
    let f = earlier R y in
    let itself : f y ≡ 0 = ap (λ r. cond (is_lt r) 1 0) (tied_itself o y) in
    let others = sum_by-none f ys (none_earlier R y ys rises.0) in
    not_earlier (is_lt (R x y)) (omega (arith, same f, sum_by-cons f x xs, sum_by-cons f y ys, itself, others))

equal_by_cases : (r s : Ordering) → r ≡ ordering_reverse s → is_lt r ≡ false → is_lt s ≡ false → r ≡ Equal
equal_by_cases Less s e h k = cc
equal_by_cases Equal s e h k = refl
equal_by_cases Greater Less e h k = cc
equal_by_cases Greater Equal e h k = cc
equal_by_cases Greater Greater e h k = cc

pub unique : {X : Type 0} (R : X → X → Ordering) → IsTotalOrder R → ((x y : X) → R x y ≡ Equal → x ≡ y) → (xs ys : List X) → Rises R xs → Rises R ys → ((f : X → ℕ) → sum_by f xs ≡ sum_by f ys) → xs ≡ ys
unique R o exact [] [] rises rises' same = refl
unique {X} R o exact [] (y ∷ ys) rises rises' same =
    absurd (omega (arith, same (λ _. 1), sum_by-cons (λ (_ : X). 1) y ys))
unique {X} R o exact (x ∷ xs) [] rises rises' same =
    absurd (omega (arith, same (λ _. 1), sum_by-cons (λ (_ : X). 1) x xs))
unique R o exact (x ∷ xs) (y ∷ ys) rises rises' same =
    let e = exact x y (equal_by_cases _ _ (o.antisymm x y) (first_not_before R o x y xs ys rises' same) (first_not_before R o y x ys xs rises (λ f. sym (same f)))) in
    let rest = unique R o exact xs ys rises.1 rises'.1 (λ f. omega (arith, same f, sum_by-cons f x xs, sum_by-cons f y ys, ap f e)) in
    cc
