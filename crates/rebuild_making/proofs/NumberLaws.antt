-- Numbers of a range that pass a test: where they stand in their list.
use Rattle.std.proofs.Common.{◌≡◌, ◌+◌, ◌-◌, ◌<◌, ◌≤◌, ℕ, zero, suc, Bool, true, false, cond, List, [], ◌∷◌, ◌++◌, length, Some, None, refl, sym, ap, ◌∙◌, arith}
use Rattle.std.specs.Prelude.{filter, nat_eq}
use Rattle.std.specs.List.{AllByRecursion, range_with_len, position, position_from}
use Rattle.std.proofs.lemmas.Bool.{eq-eqb, ne_eqb}
use Rattle.std.proofs.lemmas.List.{map-id}
use Rattle.std.proofs.lemmas.List.Elements.{filter-append}
use Rattle.std.proofs.lemmas.List.FromFn.{filter_of_map_range_with_len_more}
use Rattle.std.proofs.lemmas.Iterator.Adapters.{position_from-zero}

-- ---- Ranges

range_split : (a m k : ℕ)
    → range_with_len a (m + k) ≡ range_with_len a m ++ range_with_len (a + m) k
range_split a zero k =
    ap (λ (n : ℕ). range_with_len a n) (let none : zero + k ≡ k = omega arith in none)
    ∙ ap (λ (n : ℕ). range_with_len n k) (let none : a ≡ a + zero = omega arith in none)
range_split a (suc m) k =
    ap (λ (n : ℕ). range_with_len a n) (let next : suc m + k ≡ suc (m + k) = omega arith in next)
    ∙ ap (λ (l : List ℕ). a ∷ l) (range_split (a + 1) m k)
    ∙ ap (λ (n : ℕ). a ∷ (range_with_len (a + 1) m ++ range_with_len n k))
    (let next : a + 1 + m ≡ a + suc m = omega arith in next)

-- one number more, where it passes
pub passing_more : (p : ℕ → Bool) (a n j : ℕ) → a + n ≡ j
    → filter p (range_with_len a (n + 1))
    ≡ filter p (range_with_len a n) ++ cond (p j) (j ∷ []) []
passing_more p a n j at =
    ap (λ (l : List ℕ). filter p l) (sym (map-id (range_with_len a (n + 1))))
    ∙ filter_of_map_range_with_len_more p (λ (x : ℕ). x) a n j at
    ∙ ap (λ (l : List ℕ). filter p l ++ cond (p j) (j ∷ []) []) (map-id (range_with_len a n))

-- around one that passes
pub passing_split : (p : ℕ → Bool) (n s : ℕ) → 1 ≤ s → s < n → p s ≡ true
    → filter p (range_with_len 1 (n - 1))
    ≡ filter p (range_with_len 1 (s - 1)) ++ s ∷ filter p (range_with_len (s + 1) (n - (s + 1)))
passing_split p n s first there is =
    let rest = n - (s + 1) in
    ap (λ (k : ℕ). filter p (range_with_len 1 k))
    (let all : n - 1 ≡ s - 1 + suc (n - (s + 1)) = omega (arith, first, there) in all)
    ∙ ap (λ (l : List ℕ). filter p l) (range_split 1 (s - 1) (suc rest))
    ∙ filter-append p (range_with_len 1 (s - 1)) (range_with_len (1 + (s - 1)) (suc rest))
    ∙ ap (λ (a : ℕ). filter p (range_with_len 1 (s - 1)) ++ filter p (range_with_len a (suc rest)))
    (let at : 1 + (s - 1) ≡ s = omega (arith, first) in at)
    ∙ ap (λ (b : Bool). filter p (range_with_len 1 (s - 1))
    ++ cond b (s ∷ filter p (range_with_len (s + 1) rest)) (filter p (range_with_len (s + 1) rest)))
    is

-- ---- No other number is the one

abbrev AreOthers : ℕ → List ℕ → Type 0
AreOthers s l = AllByRecursion (λ t. nat_eq s t ≡ false) l

-- none that is below it
others_below : (p : ℕ → Bool) (s a m : ℕ) → a + m ≤ s → AreOthers s (filter p (range_with_len a m))
others_below p s a zero below = tt
others_below p s a (suc m) below =
    by_test (p a) (others_below p s (a + 1) m (omega (arith, below)))
  where
    by_test : (b : Bool) → AreOthers s (filter p (range_with_len (a + 1) m))
        → AreOthers s (cond b (a ∷ filter p (range_with_len (a + 1) m))
        (filter p (range_with_len (a + 1) m)))
    by_test true later = (ne_eqb s a (λ same. omega (arith, same, below)), later)
    by_test false later = later

-- none that is above it
others_above : (p : ℕ → Bool) (s a m : ℕ) → s < a → AreOthers s (filter p (range_with_len a m))
others_above p s a zero above = tt
others_above p s a (suc m) above =
    by_test (p a) (others_above p s (a + 1) m (omega (arith, above)))
  where
    by_test : (b : Bool) → AreOthers s (filter p (range_with_len (a + 1) m))
        → AreOthers s (cond b (a ∷ filter p (range_with_len (a + 1) m))
        (filter p (range_with_len (a + 1) m)))
    by_test true later = (ne_eqb s a (λ same. omega (arith, same, above)), later)
    by_test false later = later

-- none that passes, where it does not
others_pass : (p : ℕ → Bool) (s : ℕ) (l : List ℕ) → p s ≡ false → AreOthers s (filter p l)
others_pass p s [] out = tt
others_pass p s (x ∷ l) out = by_test (p x) refl (others_pass p s l out)
  where
    by_test : (b : Bool) → p x ≡ b → AreOthers s (filter p l)
        → AreOthers s (cond b (x ∷ filter p l) (filter p l))
    by_test true passes later = (
      ne_eqb s x (λ same.
          let clash : false ≡ true = sym out ∙ ap p same ∙ passes in cc),
      later,
    )
    by_test false passes later = later

-- ---- Where it stands

stands_behind : (s i : ℕ) (before after : List ℕ) → AreOthers s before
    → position_from (nat_eq s) i (before ++ s ∷ after) ≡ Some (i + length before)
stands_behind s i [] after others =
    ap (λ (b : Bool). cond b (Some i) (position_from (nat_eq s) (i + 1) after)) (eq-eqb s s refl)
    ∙ ap (λ (n : ℕ). Some n) (let none : i ≡ i + 0 = omega arith in none)
stands_behind s i (t ∷ before) after others =
    ap (λ (b : Bool). cond b (Some i)
    (position_from (nat_eq s) (i + 1) (before ++ s ∷ after))) others.0
    ∙ stands_behind s (i + 1) before after others.1
    ∙ ap (λ (n : ℕ). Some n)
    (let next : i + 1 + length before ≡ i + suc (length before) = omega arith in next)

stands_nowhere : (s i : ℕ) (l : List ℕ) → AreOthers s l → position_from (nat_eq s) i l ≡ None
stands_nowhere s i [] others = refl
stands_nowhere s i (t ∷ l) others =
    ap (λ (b : Bool). cond b (Some i) (position_from (nat_eq s) (i + 1) l)) others.0
    ∙ stands_nowhere s (i + 1) l others.1

-- behind those that pass and are below it
pub passing_position : (p : ℕ → Bool) (n s : ℕ) → 1 ≤ s → s < n → p s ≡ true
    → position (nat_eq s) (filter p (range_with_len 1 (n - 1)))
    ≡ Some (length (filter p (range_with_len 1 (s - 1))))
passing_position p n s first there is =
    let before = filter p (range_with_len 1 (s - 1)) in
    let after = filter p (range_with_len (s + 1) (n - (s + 1))) in
    ap (λ (l : List ℕ). position (nat_eq s) l) (passing_split p n s first there is)
    ∙ position_from-zero (nat_eq s) (before ++ s ∷ after)
    ∙ stands_behind s 0 before after (others_below p s 1 (s - 1) (omega (arith, first)))
    ∙ ap (λ (n : ℕ). Some n)
    (let none : 0 + length (filter p (range_with_len 1 (s - 1)))
    ≡ length (filter p (range_with_len 1 (s - 1))) = omega arith in none)

-- nowhere, where it does not pass
pub failing_position : (p : ℕ → Bool) (l : List ℕ) (s : ℕ) → p s ≡ false
    → position (nat_eq s) (filter p l) ≡ None
failing_position p l s out =
    position_from-zero (nat_eq s) (filter p l)
    ∙ stands_nowhere s 0 (filter p l) (others_pass p s l out)

-- and so it is of 0, which is before the range
pub zero_position : (p : ℕ → Bool) (n : ℕ)
    → position (nat_eq 0) (filter p (range_with_len 1 n)) ≡ None
zero_position p n =
    position_from-zero (nat_eq 0) (filter p (range_with_len 1 n))
    ∙ stands_nowhere 0 0 (filter p (range_with_len 1 n)) (others_above p 0 1 n (omega arith))
