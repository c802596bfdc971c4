-- Tests of the numbers of a range.
use Rattle.std.proofs.Common.{◌≡◌, ◌==◌, ◌&&◌, ◌||◌, ◌+◌, ◌-◌, ◌<◌, ◌≤◌, ℕ, zero, suc, Bool, true, false, not, cond, List, [], ◌∷◌, refl, sym, ap, ◌∙◌, inl, inr, arith}
use Rattle.std.specs.Prelude.{filter, nat_eq, nat_lt}
use Rattle.std.specs.List.{range_with_len, list_any}
use Rattle.std.proofs.lemmas.Bool.{eq-eqb, ne_eqb, lt-ltb, le-ltb, cases_lt, cases_eq, and_from, and_left, and_right, or_from, or_left, or_right}
use Rattle.rebuild_select.proofs.SetLaws.{among_range}

-- ---- Members

out_of_range : (a n s : ℕ) → (a ≤ s → s < a + n → ⊥)
    → list_any (nat_eq s) (range_with_len a n) ≡ false
out_of_range a zero s out = refl
out_of_range a (suc n) s out =
    or_from (nat_eq s a) (list_any (nat_eq s) (range_with_len (a + 1) n))
    (ne_eqb s a (λ same. out (omega (arith, same)) (omega (arith, same))))
    (out_of_range (a + 1) n s (λ from below. out (omega arith) (omega arith)))

-- the numbers from 1 on and below another
pub range_among : (n s : ℕ)
    → list_any (nat_eq s) (range_with_len 1 (n - 1)) ≡ (not (s == 0) && nat_lt s n)
range_among n s = elim (cases_eq s 0) [
  | inl none ↦ out_of_range 1 (n - 1) s (λ from below. omega (arith, none))
      ∙ sym (and_left (not (s == 0)) (nat_lt s n) (ap not (eq-eqb s 0 none)))
  | inr some ↦ elim (cases_lt s n) [
    | inl below ↦ among_range 1 (n - 1) s (omega (arith, some)) (omega (arith, some))
        ∙ sym (and_from (not (s == 0)) (nat_lt s n) (ap not (ne_eqb s 0 some)) (lt-ltb s n below))
    | inr past ↦ out_of_range 1 (n - 1) s (λ from below. omega (arith, past))
        ∙ sym (and_right (not (s == 0)) (nat_lt s n) (le-ltb s n past))
  ]
]

-- the end of a range from 1 on that is gone through
pub last_number : (n end s : ℕ) → end ≡ n → end ≤ s → (1 ≤ end → s ≤ end) → s ≤ end + 1
    → s - 1 ≡ n - 1
last_number n end s same past within most = elim (cases_lt 0 end) [
  | inl some ↦ (let low : 1 ≤ end = omega arith in
      let high : s ≤ end = within low in omega (arith, same, high, past))
  | inr none ↦ omega (arith, same, most, none)
]

-- ---- Whether one passes

-- tests that agree on a range
pub any_range : (p q : ℕ → Bool) (a n : ℕ)
    → ((s : ℕ) → a ≤ s → s < a + n → p s ≡ q s)
    → list_any p (range_with_len a n) ≡ list_any q (range_with_len a n)
any_range p q a zero same = refl
any_range p q a (suc n) same =
    ap (λ (b : Bool). b || list_any p (range_with_len (a + 1) n))
    (same a (omega arith) (omega arith))
    ∙ ap (λ (b : Bool). q a || b)
    (any_range p q (a + 1) n (λ s from below. same s (omega arith) (omega arith)))

-- one that passes
pub any_at : (p : ℕ → Bool) (a n s : ℕ) → a ≤ s → s < a + n → p s ≡ true
    → list_any p (range_with_len a n) ≡ true
any_at p a zero s from below is = absurd (omega arith)
any_at p a (suc n) s from below is = elim (cases_eq s a) [
  | inl same ↦ or_left (p a) (list_any p (range_with_len (a + 1) n)) (ap p (sym same) ∙ is)
  | inr other ↦ or_right (p a) (list_any p (range_with_len (a + 1) n))
      (any_at p (a + 1) n s (omega (arith, other)) (omega arith) is)
]

any_first : (p q : ℕ → Bool) (x : ℕ) (l : List ℕ) (b : Bool) → p x ≡ b
    → list_any q (filter p l) ≡ list_any (λ s. p s && q s) l
    → list_any q (cond b (x ∷ filter p l) (filter p l))
    ≡ ((b && q x) || list_any (λ s. p s && q s) l)
any_first p q x l true is later = ap (λ (b : Bool). q x || b) later
any_first p q x l false is later = later

-- of a list that was filtered
pub any_filter : (p q : ℕ → Bool) (l : List ℕ)
    → list_any q (filter p l) ≡ list_any (λ s. p s && q s) l
any_filter p q [] = refl
any_filter p q (x ∷ l) = any_first p q x l (p x) refl (any_filter p q l)
