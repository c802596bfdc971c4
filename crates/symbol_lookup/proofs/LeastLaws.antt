-- The least number of a list that passes, against the first place of a list that passes; and what
-- holds of each listed name.
use Rattle.std.proofs.Common.{◌≡◌, ℕ, zero, suc, ◌+◌, ◌<◌, ◌≤◌, Bool, true, false, eqb, List, [], ◌∷◌, length, get_or, Option, Some, None, refl, sym, ap, ◌∙◌, subst, inl, inr, arith}
use Rattle.std.specs.Prelude.{◌⊎◌, ◌||◌, ◌&&◌, min, if◌then◌else◌}
use Rattle.std.specs.List.{position, position_or_len, enumerate_from, list_all}
use Rattle.std.proofs.Math.Nat.{min-eq_left}
use Rattle.std.proofs.lemmas.Bool.{eqb-true, lt-ltb, both_ways, and_parts, not-true, cases_lt}
use Rattle.std.proofs.lemmas.List.{get_or_past}
use Rattle.std.proofs.lemmas.List.Sums.{prefix_len_passes}
use Rattle.std.proofs.lemmas.List.Quantifiers.{position-Some}
use Rattle.std.proofs.lemmas.Slice.Eq.{bytes_eq-Decides}
use Rattle.hash_model.specs.elf_object.Strings.{is_name}
use Rattle.hash_model.specs.elf_object.Sections.{is_among}
use Rattle.hash_model.specs.HashSections.{each_listed}
use Rattle.symbol_lookup.specs.Walks.{lesser, least_of}

-- ---- The least that passes

module _ (test : ℕ → Bool) (k : ℕ) (below : (j : ℕ) → j < k → test j ≡ false) where
  at_least : (i : ℕ) → test i ≡ true → k ≤ i
  at_least i passes = by_order (cases_lt i k)
    where
      by_order : (i < k) ⊎ (k ≤ i) → k ≤ i
      by_order (inl less) = absurd (both_ways (test i) (below i less) passes)
      by_order (inr not) = not

  -- what is found is no less than a bound that all that pass have
  bounded : (l : List ℕ) (found : ℕ) → least_of test l ≡ Some found → k ≤ found
  unfolding least_of
  bounded [] found is = cc
  bounded (i ∷ l) found is = by_head (test i) refl (least_of test l) (λ m rest. bounded l m rest) is
    where
      by_head : (t : Bool) → test i ≡ t → (rest : Option ℕ) → ((m : ℕ) → rest ≡ Some m → k ≤ m) → lesser (if t then Some i else None) rest ≡ Some found → k ≤ found
      by_head false known None later is = cc
      by_head false known (Some m) later is = later found is
      by_head true known None later is = let same : i ≡ found = cc in subst (λ (n : ℕ). k ≤ n) same (at_least i known)
      by_head true known (Some m) later is =
          let same : min i m ≡ found = cc in
          omega (arith, same, at_least i known, later m refl)

  -- the least of all that pass, where it stands in the list
  pub least_is : (l : List ℕ) → test k ≡ true → is_among l k ≡ true → least_of test l ≡ Some k
  unfolding least_of is_among
  least_is [] passes within = cc
  least_is (i ∷ l) passes within = by_here (eqb k i) refl within (λ there. least_is l passes there)
    where
      head_is : k ≡ i → (rest : Option ℕ) → least_of test l ≡ rest → lesser (Some i) rest ≡ Some k
      head_is same None rest = ap Some (sym same)
      head_is same (Some m) rest =
          let least = bounded l m rest in
          ap Some (min-eq_left (subst (λ (n : ℕ). n ≤ m) same least) ∙ sym same)

      later_is : (t : Bool) → test i ≡ t → lesser (if t then Some i else None) (Some k) ≡ Some k
      later_is false known = refl
      later_is true known = let least = at_least i known in let is : min i k ≡ k = omega (arith, least) in ap Some is

      by_here : (b : Bool) → eqb k i ≡ b → (b || is_among l k) ≡ true → (is_among l k ≡ true → least_of test l ≡ Some k) → least_of test (i ∷ l) ≡ Some k
      by_here true same within later =
          let same = eqb-true k i same in
          ap (λ (t : Bool). lesser (if t then Some i else None) (least_of test l)) (ap test (sym same) ∙ passes) ∙ head_is same (least_of test l) refl
      by_here false other within later =
          ap (λ (rest : Option ℕ). lesser (if test i then Some i else None) rest) (later within) ∙ later_is (test i) refl

-- none of those that all fail
pub least_none : (test : ℕ → Bool) (l : List ℕ) → ((i : ℕ) → test i ≡ false) → least_of test l ≡ None
unfolding least_of
least_none test [] fails = refl
least_none test (i ∷ l) fails =
    ap (λ (t : Bool). lesser (if t then Some i else None) (least_of test l)) (fails i) ∙ least_none test l fails

-- ---- The first place that passes

pub position_none : {X : Type 0} (p : X → Bool) (xs : List X) → position p xs ≡ None → (i : ℕ) (d : X) → i < length xs → p (get_or xs i d) ≡ false
position_none {X} p xs is i d below = by_place (cases_lt (position_or_len p xs) (length xs))
  where
    by_place : (position_or_len p xs < length xs) ⊎ (length xs ≤ position_or_len p xs) → p (get_or xs i d) ≡ false
    by_place (inl there) = let b = lt-ltb (position_or_len p xs) (length xs) there in cc
    by_place (inr past) = not-true (p (get_or xs i d)) (prefix_len_passes (λ x. elim (p x) [ true ↦ false | false ↦ true ]) xs i d (omega arith))

-- ---- Names

pub found_name_is : (name : List ℕ) (found : Option (List ℕ)) → is_name name found ≡ true → found ≡ Some name
found_name_is name None is = cc
found_name_is name (Some other) is = ap Some ((bytes_eq-Decides other name).0 is)

-- a list in which stands each number that has a name: the least of them is the first of all names
pub first_of_all : (name : List ℕ) (names : List (Option (List ℕ))) (l : List ℕ)
    → ((k : ℕ) → k < length names → get_or names k None ≡ Some name → is_among l k ≡ true)
    → least_of (λ i. is_name name (get_or names i None)) l ≡ position (is_name name) names
first_of_all name names l reached = by_first (position (is_name name) names) refl
  where
    fails_past : position (is_name name) names ≡ None → (i : ℕ) → is_name name (get_or names i None) ≡ false
    fails_past none i = by_place (cases_lt i (length names))
      where
        by_place : (i < length names) ⊎ (length names ≤ i) → is_name name (get_or names i None) ≡ false
        by_place (inl within) = position_none (is_name name) names none i None within
        by_place (inr past) = ap (is_name name) (get_or_past names i None past)

    by_first : (first : Option ℕ) → position (is_name name) names ≡ first → least_of (λ i. is_name name (get_or names i None)) l ≡ first
    by_first None none = least_none (λ i. is_name name (get_or names i None)) l (fails_past none)
    by_first (Some k) is =
        let first = position-Some (is_name name) names k None is in
        least_is (λ i. is_name name (get_or names i None)) k first.2 l first.1
        (reached k first.0 (found_name_is name (get_or names k None) first.1))

-- what holds of each listed name holds of the one at a place
listed_from : (test : ℕ → List ℕ → Bool) (s : ℕ) (names : List (Option (List ℕ)))
    → list_all (λ row. elim (row.1) [ None ↦ true | Some name ↦ test row.0 name ]) (enumerate_from s names) ≡ true
    → (k : ℕ) (name : List ℕ) → k < length names → get_or names k None ≡ Some name → test (s + k) name ≡ true
listed_from test s [] all k name below at = absurd (omega arith)
listed_from test s (x ∷ names) all zero name below at =
    let here = (and_parts _ _ all).0 in
    subst (λ (i : ℕ). test i name ≡ true) (omega arith)
    (subst (λ (found : Option (List ℕ)). elim found [ None ↦ true | Some name ↦ test s name ] ≡ true) at here)
listed_from test s (x ∷ names) all (suc k) name below at =
    subst (λ (i : ℕ). test i name ≡ true) (omega arith) (listed_from test (s + 1) names (and_parts _ _ all).1 k name (omega arith) at)

pub listed_at : (test : ℕ → List ℕ → Bool) (names : List (Option (List ℕ))) → each_listed test names ≡ true
    → (k : ℕ) (name : List ℕ) → k < length names → get_or names k None ≡ Some name → test k name ≡ true
listed_at test names all k name below at =
    subst (λ (i : ℕ). test i name ≡ true) (omega arith) (listed_from test 0 names all k name below at)

-- what holds of each element holds of the one at a place
pub all_at : {X : Type 0} (test : X → Bool) (xs : List X) → list_all test xs ≡ true → (i : ℕ) (d : X) → i < length xs → test (get_or xs i d) ≡ true
all_at {X} test [] all i d below = absurd (omega arith)
all_at {X} test (x ∷ xs) all zero d below = (and_parts _ _ all).0
all_at {X} test (x ∷ xs) all (suc i) d below = all_at test xs (and_parts _ _ all).1 i d (omega arith)

-- ---- Tests

-- six tests that all pass
pub all_six : (a b c d e f : Bool) → (a && b && c && d && e && f) ≡ true → (a ≡ true) × (b ≡ true) × (c ≡ true) × (d ≡ true) × (e ≡ true) × (f ≡ true)
all_six true true true true true true is = (refl, refl, refl, refl, refl, refl)
all_six true true true true true false is = cc
all_six true true true true false f is = cc
all_six true true true false e f is = cc
all_six true true false d e f is = cc
all_six true false c d e f is = cc
all_six false b c d e f is = cc
