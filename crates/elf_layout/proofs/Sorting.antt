-- What a stable sort by a key keeps and gives.
use Rattle.std.proofs.Common.{◌≡◌, ℕ, ◌+◌, ◌<◌, ◌≤◌, List, [], ◌∷◌, map, Bool, true, false, cond, nat_le, ◌∙◌, ap, refl, arith}
use Rattle.std.specs.Bool.{⊤}
use Rattle.std.specs.List.{AllByRecursion, sum_by}
use Rattle.std.proofs.lemmas.List.Sums.{sum_by-cons}
use Rattle.std.proofs.lemmas.Bool.{leb-true, leb-false}
use Rattle.elf_layout.specs.Meeting.{inserted_by, sorted_by}

pub all_weaker : {X : Type 0} (P Q : X → Type 0) → ((x : X) → P x → Q x) → (xs : List X) → AllByRecursion P xs → AllByRecursion Q xs
all_weaker P Q weaker [] all = tt
all_weaker P Q weaker (x ∷ xs) all = (weaker x all.0, all_weaker P Q weaker xs all.1)

pub all_both : {X : Type 0} (P Q R : X → Type 0) → ((x : X) → P x → Q x → R x) → (xs : List X) → AllByRecursion P xs → AllByRecursion Q xs → AllByRecursion R xs
all_both P Q R both [] all all' = tt
all_both P Q R both (x ∷ xs) all all' = (both x all.0 all'.0, all_both P Q R both xs all.1 all'.1)

pub all_map : {X Y : Type 0} (f : X → Y) (P : Y → Type 0) (xs : List X) → AllByRecursion (λ x. P (f x)) xs → AllByRecursion P (map f xs)
all_map f P [] all = tt
all_map f P (x ∷ xs) all = (all.0, all_map f P xs all.1)

sum_by-inserted_by : {X : Type 0} (key f : X → ℕ) (x : X) (xs : List X) → sum_by f (inserted_by key x xs) ≡ f x + sum_by f xs
sum_by-inserted_by key f x [] = sum_by-cons f x []
sum_by-inserted_by key f x (y ∷ ys) =
    elim (nat_le (key x) (key y)) as (λ b. sum_by f (cond b (x ∷ y ∷ ys) (y ∷ inserted_by key x ys)) ≡ f x + sum_by f (y ∷ ys)) [
      | true ↦ sum_by-cons f x (y ∷ ys)
      | false ↦ omega (arith, sum_by-cons f y (inserted_by key x ys), sum_by-cons f y ys, sum_by-inserted_by key f x ys)
    ]

-- the items stay
pub sum_by-sorted_by : {X : Type 0} (key f : X → ℕ) (xs : List X) → sum_by f (sorted_by key xs) ≡ sum_by f xs
sum_by-sorted_by key f [] = refl
sum_by-sorted_by key f (x ∷ xs) = omega (arith, sum_by-inserted_by key f x (sorted_by key xs), sum_by-cons f x xs, sum_by-sorted_by key f xs)

pub all-inserted_by : {X : Type 0} (key : X → ℕ) (P : X → Type 0) (x : X) (xs : List X) → P x → AllByRecursion P xs → AllByRecursion P (inserted_by key x xs)
all-inserted_by key P x [] here all = (here, tt)
all-inserted_by key P x (y ∷ ys) here all =
    elim (nat_le (key x) (key y)) as (λ b. AllByRecursion P (cond b (x ∷ y ∷ ys) (y ∷ inserted_by key x ys))) [
      | true ↦ (here, all)
      | false ↦ (all.0, all-inserted_by key P x ys here all.1)
    ]

-- so does what holds of each
pub all-inserted_by_back : {X : Type 0} (key : X → ℕ) (P : X → Type 0) (x : X) (xs : List X) → AllByRecursion P (inserted_by key x xs) → P x × AllByRecursion P xs
all-inserted_by_back key P x [] all = (all.0, tt)
all-inserted_by_back key P x (y ∷ ys) all =
    all_either key P x y ys (nat_le (key x) (key y)) all (λ rest. all-inserted_by_back key P x ys rest)
  where
    all_either : {X : Type 0} (key : X → ℕ) (P : X → Type 0) (x y : X) (ys : List X) (b : Bool) → AllByRecursion P (cond b (x ∷ y ∷ ys) (y ∷ inserted_by key x ys)) → (AllByRecursion P (inserted_by key x ys) → P x × AllByRecursion P ys) → P x × (P y × AllByRecursion P ys)
    all_either key P x y ys true all rest = (all.0, all.1)
    all_either key P x y ys false all rest = ((rest all.1).0, (all.0, (rest all.1).1))

pub all-sorted_by_back : {X : Type 0} (key : X → ℕ) (P : X → Type 0) (xs : List X) → AllByRecursion P (sorted_by key xs) → AllByRecursion P xs
all-sorted_by_back key P [] all = tt
all-sorted_by_back key P (x ∷ xs) all =
    let parts = all-inserted_by_back key P x (sorted_by key xs) all in
    (parts.0, all-sorted_by_back key P xs parts.1)

pub all-sorted_by : {X : Type 0} (key : X → ℕ) (P : X → Type 0) (xs : List X) → AllByRecursion P xs → AllByRecursion P (sorted_by key xs)
all-sorted_by key P [] all = tt
all-sorted_by key P (x ∷ xs) all = all-inserted_by key P x (sorted_by key xs) all.0 (all-sorted_by key P xs all.1)

map-inserted_by : {X Y : Type 0} (g : X → Y) (key : Y → ℕ) (x : X) (xs : List X) → map g (inserted_by (λ z. key (g z)) x xs) ≡ inserted_by key (g x) (map g xs)
map-inserted_by g key x [] = refl
map-inserted_by g key x (y ∷ ys) =
    elim (nat_le (key (g x)) (key (g y))) as (λ b. map g (cond b (x ∷ y ∷ ys) (y ∷ inserted_by (λ z. key (g z)) x ys)) ≡ cond b (g x ∷ g y ∷ map g ys) (g y ∷ inserted_by key (g x) (map g ys))) [
      | true ↦ refl
      | false ↦ ap (λ zs. g y ∷ zs) (map-inserted_by g key x ys)
    ]

-- the key alone decides the order
pub map-sorted_by : {X Y : Type 0} (g : X → Y) (key : Y → ℕ) (xs : List X) → map g (sorted_by (λ z. key (g z)) xs) ≡ sorted_by key (map g xs)
map-sorted_by g key [] = refl
map-sorted_by g key (x ∷ xs) =
    map-inserted_by g key x (sorted_by (λ z. key (g z)) xs) ∙ ap (λ zs. inserted_by key (g x) zs) (map-sorted_by g key xs)

-- no key is below an earlier one
abbrev pub Climbs : {X : Type 0} → (X → ℕ) → List X → Type 0
Climbs key [] = ⊤
Climbs key (x ∷ xs) = AllByRecursion (λ y. key x ≤ key y) xs × Climbs key xs

climbs_either : {X : Type 0} (key : X → ℕ) (x y : X) (ys : List X) → Climbs key (y ∷ ys) → Climbs key (inserted_by key x ys) → (b : Bool) → (b ≡ true → key x ≤ key y) → (b ≡ false → key y < key x) → Climbs key (cond b (x ∷ y ∷ ys) (y ∷ inserted_by key x ys))
climbs_either key x y ys climbs rest true below above =
    let first : key x ≤ key y = below refl in
    ((first, all_weaker (λ z. key y ≤ key z) (λ z. key x ≤ key z) (λ z h. omega arith) ys climbs.0), climbs)
climbs_either key x y ys climbs rest false below above =
    let first : key y < key x = above refl in
    (all-inserted_by key (λ z. key y ≤ key z) x ys (omega arith) climbs.0, rest)

climbs-inserted_by : {X : Type 0} (key : X → ℕ) (x : X) (xs : List X) → Climbs key xs → Climbs key (inserted_by key x xs)
climbs-inserted_by key x [] climbs = (tt, tt)
climbs-inserted_by key x (y ∷ ys) climbs =
    climbs_either key x y ys climbs (climbs-inserted_by key x ys climbs.1) (nat_le (key x) (key y)) (leb-true (key x) (key y)) (leb-false (key x) (key y))

pub climbs-sorted_by : {X : Type 0} (key : X → ℕ) (xs : List X) → Climbs key (sorted_by key xs)
climbs-sorted_by key [] = tt
climbs-sorted_by key (x ∷ xs) = climbs-inserted_by key x (sorted_by key xs) (climbs-sorted_by key xs)
