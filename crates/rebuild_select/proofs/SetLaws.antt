-- Lists of numbers that pass tests, and the numbers of a list of marks.
use Rattle.std.proofs.Common.{◌≡◌, ◌&&◌, ◌||◌, ◌+◌, ◌-◌, ◌<◌, ◌≤◌, ℕ, zero, suc, Bool, true, false, cond, List, [], ◌∷◌, ◌++◌, length, map, refl, sym, ap, ◌∙◌, inl, inr, arith}
use Rattle.std.specs.Prelude.{filter, slice_get, unwrap_or, nat_eq, Option}
use Rattle.std.specs.List.{range_with_len, list_any}
use Rattle.std.proofs.lemmas.Bool.{eq-eqb, eqb-true, and_right, cases_lt}
use Rattle.std.proofs.lemmas.Option.{unwrap_or-slice_get, slice_get_past}
use Rattle.std.proofs.lemmas.List.FromFn.{get_or-map-range_with_len, length-map-range_with_len}
use Rattle.rebuild_model.specs.elf_object.Sections.{is_among}
use Rattle.rebuild_select.specs.Sets.{is_marked, marked_numbers}

-- ---- Tests of two lists

pub or_false_right : (b : Bool) → (b || false) ≡ b
or_false_right true = refl
or_false_right false = refl

-- one filter after another
pub filter_filter : (p q : ℕ → Bool) (l : List ℕ)
    → filter q (filter p l) ≡ filter (λ s. p s && q s) l
filter_filter p q [] = refl
filter_filter p q (x ∷ l) = step (p x) (filter_filter p q l)
  where
    step : (b : Bool) → filter q (filter p l) ≡ filter (λ s. p s && q s) l
        → filter q (cond b (x ∷ filter p l) (filter p l))
        ≡ cond (b && q x) (x ∷ filter (λ s. p s && q s) l) (filter (λ s. p s && q s) l)
    step true later = ap (λ (t : List ℕ). cond (q x) (x ∷ t) t) later
    step false later = later

-- tests that agree on the members of a list
pub filter_members : (p q : ℕ → Bool) (l : List ℕ)
    → ((s : ℕ) → list_any (nat_eq s) l ≡ true → p s ≡ q s) → filter p l ≡ filter q l
filter_members p q [] same = refl
filter_members p q (x ∷ l) same =
    ap (λ (b : Bool). cond b (x ∷ filter p l) (filter p l)) (same x first)
    ∙ ap (λ (t : List ℕ). cond (q x) (x ∷ t) t)
    (filter_members p q l (λ s is. same s (later (nat_eq s x) (list_any (nat_eq s) l) is)))
  where
    either : (a b : Bool) → a ≡ true → (a || b) ≡ true
    either true b is = refl
    either false b is = let no : false ≡ true = is in cc

    first : (nat_eq x x || list_any (nat_eq x) l) ≡ true
    first = either (nat_eq x x) (list_any (nat_eq x) l) (eq-eqb x x refl)

    later : (a b : Bool) → b ≡ true → (a || b) ≡ true
    later true b is = refl
    later false b is = is

-- tests that agree on a range
pub filter_same_on_range : (p q : ℕ → Bool) (a n : ℕ)
    → ((s : ℕ) → a ≤ s → s < a + n → p s ≡ q s)
    → filter p (range_with_len a n) ≡ filter q (range_with_len a n)
filter_same_on_range p q a zero same = refl
filter_same_on_range p q a (suc n) same =
    ap (λ (b : Bool). cond b (a ∷ filter p (range_with_len (a + 1) n))
    (filter p (range_with_len (a + 1) n))) (same a (omega arith) (omega arith))
    ∙ ap (λ (t : List ℕ). cond (q a) (a ∷ t) t)
    (filter_same_on_range p q (a + 1) n (λ s from below. same s (omega arith) (omega arith)))

-- a range with one number more
pub range_with_one_more : (a n : ℕ) → range_with_len a (n + 1) ≡ range_with_len a n ++ (a + n) ∷ []
range_with_one_more a zero = ap (λ (k : ℕ). k ∷ []) (let at : a ≡ a + 0 = omega arith in at)
range_with_one_more a (suc n) =
    ap (λ (k : ℕ). range_with_len a k) (let next : suc n + 1 ≡ suc (n + 1) = omega arith in next)
    ∙ ap (λ (l : List ℕ). a ∷ l) (range_with_one_more (a + 1) n
    ∙ ap (λ (k : ℕ). range_with_len (a + 1) n ++ k ∷ [])
    (let at : a + 1 + n ≡ a + suc n = omega arith in at))

-- a range from 0 on, without 0, through two filters
pub one_filter : (h g f : ℕ → Bool) (n : ℕ) → f 0 ≡ false
    → ((s : ℕ) → 0 < s → s < n → f s ≡ (h s && g s))
    → filter f (range_with_len 0 n) ≡ filter g (filter h (range_with_len 1 (n - 1)))
one_filter h g f zero none same = refl
one_filter h g f (suc m) none same =
    ap (λ (b : Bool). cond b (0 ∷ filter f (range_with_len 1 m)) (filter f (range_with_len 1 m)))
    none
    ∙ filter_same_on_range f (λ s. h s && g s) 1 m (λ s from below. same s (omega arith) (omega arith))
    ∙ sym (filter_filter h g (range_with_len 1 m))
    ∙ ap (λ (k : ℕ). filter g (filter h (range_with_len 1 k)))
    (let one : m ≡ suc m - 1 = omega arith in one)

-- ---- Members

-- of a list that was filtered: those of the list that pass
pub among_filter : (p : ℕ → Bool) (l : List ℕ) (s : ℕ)
    → list_any (nat_eq s) (filter p l) ≡ (list_any (nat_eq s) l && p s)
among_filter p [] s = refl
among_filter p (x ∷ l) s =
    by_tests (nat_eq s x) (p x) refl refl (among_filter p l s)
  where
    here : nat_eq s x ≡ true → s ≡ x
    here is = eqb-true s x is

    by_tests : (e b : Bool) → nat_eq s x ≡ e → p x ≡ b
        → list_any (nat_eq s) (filter p l) ≡ (list_any (nat_eq s) l && p s)
        → list_any (nat_eq s) (cond b (x ∷ filter p l) (filter p l))
        ≡ ((e || list_any (nat_eq s) l) && p s)
    by_tests true true at passes later =
        ap (λ (t : Bool). t || list_any (nat_eq s) (filter p l)) at
        ∙ sym (ap p (here at) ∙ passes)
    by_tests true false at passes later =
        later ∙ and_right (list_any (nat_eq s) l) (p s) (ap p (here at) ∙ passes)
        ∙ sym (ap p (here at) ∙ passes)
    by_tests false true at passes later =
        ap (λ (t : Bool). t || list_any (nat_eq s) (filter p l)) at ∙ later
    by_tests false false at passes later = later

-- of a range
pub among_range : (a n s : ℕ) → a ≤ s → s < a + n
    → list_any (nat_eq s) (range_with_len a n) ≡ true
among_range a zero s from below = absurd (omega arith)
among_range a (suc n) s from below =
    by_test (nat_eq s a) refl (λ behind. among_range (a + 1) n s behind (omega arith))
  where
    by_test : (t : Bool) → nat_eq s a ≡ t
        → (a + 1 ≤ s → list_any (nat_eq s) (range_with_len (a + 1) n) ≡ true)
        → (t || list_any (nat_eq s) (range_with_len (a + 1) n)) ≡ true
    by_test true is later = refl
    by_test false is later = later (omega (arith, other))
      where
        other : s ≡ a → ⊥
        other same = let yes : nat_eq s a ≡ true = eq-eqb s a same in cc

-- a filter by membership in what passes
pub filter_among : (p : ℕ → Bool) (l : List ℕ) → filter (is_among (filter p l)) l ≡ filter p l
unfolding is_among
filter_among p l =
    filter_members (λ s. list_any (nat_eq s) (filter p l)) p l
    (λ s is. among_filter p l s ∙ ap (λ (t : Bool). t && p s) is)

-- ---- Marks

past : (marks : List Bool) (s : ℕ) → length marks ≤ s → is_marked marks s ≡ false
past marks s le = ap (λ (x : Option Bool). unwrap_or x false) (slice_get_past marks s le)

pub among_numbers : (marks : List Bool) (s : ℕ)
    → is_among (marked_numbers marks) s ≡ unwrap_or (slice_get marks s) false
unfolding is_among marked_numbers
among_numbers marks s =
    among_filter (is_marked marks) (range_with_len 0 (length marks)) s
    ∙ elim (cases_lt s (length marks)) [
      | inl below ↦ ap (λ (t : Bool). t && is_marked marks s)
          (among_range 0 (length marks) s (omega arith) (omega arith))
      | inr le ↦ and_right (list_any (nat_eq s) (range_with_len 0 (length marks))) (is_marked marks s)
          (past marks s le) ∙ sym (past marks s le)
    ]

-- marks that a test gives
pub numbers_map : (f : ℕ → Bool) (n : ℕ)
    → marked_numbers (map f (range_with_len 0 n)) ≡ filter f (range_with_len 0 n)
unfolding marked_numbers
numbers_map f n =
    let marks = map f (range_with_len 0 n) in
    ap (λ (k : ℕ). filter (is_marked marks) (range_with_len 0 k)) (length-map-range_with_len f 0 n)
    ∙ filter_same_on_range (is_marked marks) f 0 n
    (λ s from below. unwrap_or-slice_get marks s false
    ∙ get_or-map-range_with_len f 0 n s s false (omega arith) (omega arith))
