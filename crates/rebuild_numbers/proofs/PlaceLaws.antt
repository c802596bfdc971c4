-- Where a number stands among the numbers of a range that pass a test.
use Rattle.std.proofs.Common.{◌≡◌, ◌≢◌, ◌||◌, ◌+◌, ◌-◌, ◌<◌, ◌≤◌, ℕ, zero, suc, Bool, true, false, cond, List, [], ◌∷◌, length, Some, None, refl, sym, ap, ◌∙◌, inl, inr, arith}
use Rattle.std.specs.Prelude.{filter, nat_eq}
use Rattle.std.specs.List.{range_with_len, list_any, position, position_from}
use Rattle.std.proofs.lemmas.Bool.{eq-eqb, ne_eqb, cases_eq}
use Rattle.std.proofs.lemmas.Iterator.Adapters.{position_from-zero}

pub position_is : (t : ℕ → Bool) (l : List ℕ) → position t l ≡ position_from t 0 l
position_is t l = position_from-zero t l

-- ---- A member

stands_here : (keep : ℕ → Bool) (i a n s : ℕ) → s ≡ a → keep s ≡ true
    → position_from (nat_eq s) i (filter keep (range_with_len a (suc n)))
    ≡ Some (i + length (filter keep (range_with_len a (s - a))))
stands_here keep i a n s same kept =
    ap (λ (b : Bool). position_from (nat_eq s) i
    (cond b (a ∷ filter keep (range_with_len (a + 1) n)) (filter keep (range_with_len (a + 1) n))))
    (ap keep (sym same) ∙ kept)
    ∙ ap (λ (b : Bool). cond b (Some i)
    (position_from (nat_eq s) (i + 1) (filter keep (range_with_len (a + 1) n))))
    (eq-eqb s a same)
    ∙ ap (λ (k : ℕ). Some k) (let none : i ≡ i + 0 = omega arith in none)
    ∙ ap (λ (k : ℕ). Some (i + length (filter keep (range_with_len a k))))
    (let gap : 0 ≡ s - a = omega (arith, same) in gap)

-- how many pass before it, of which the range's first number may be one
passed_before : (keep : ℕ → Bool) (i a s : ℕ) → s ≢ a → a ≤ s → (b : Bool) → keep a ≡ b
    → Some (i + length (cond b (a ∷ filter keep (range_with_len (a + 1) (s - (a + 1))))
    (filter keep (range_with_len (a + 1) (s - (a + 1))))))
    ≡ Some (i + length (filter keep (range_with_len a (s - a))))
passed_before keep i a s other from b is =
    ap (λ (b : Bool). Some (i + length (cond b
    (a ∷ filter keep (range_with_len (a + 1) (s - (a + 1))))
    (filter keep (range_with_len (a + 1) (s - (a + 1))))))) (sym is)
    ∙ ap (λ (k : ℕ). Some (i + length (filter keep (range_with_len a k))))
    (let next : suc (s - (a + 1)) ≡ s - a = omega (arith, other) in next)

stands_later : (keep : ℕ → Bool) (i a n s : ℕ) → s ≢ a → a ≤ s → (b : Bool) → keep a ≡ b
    → position_from (nat_eq s) (i + 1) (filter keep (range_with_len (a + 1) n))
    ≡ Some (i + 1 + length (filter keep (range_with_len (a + 1) (s - (a + 1)))))
    → position_from (nat_eq s) i (filter keep (range_with_len (a + 1) n))
    ≡ Some (i + length (filter keep (range_with_len (a + 1) (s - (a + 1)))))
    → position_from (nat_eq s) i (filter keep (range_with_len a (suc n)))
    ≡ Some (i + length (filter keep (range_with_len a (s - a))))
stands_later keep i a n s other from true is behind same =
    ap (λ (b : Bool). position_from (nat_eq s) i
    (cond b (a ∷ filter keep (range_with_len (a + 1) n)) (filter keep (range_with_len (a + 1) n))))
    is
    ∙ ap (λ (b : Bool). cond b (Some i)
    (position_from (nat_eq s) (i + 1) (filter keep (range_with_len (a + 1) n)))) (ne_eqb s a other)
    ∙ behind
    ∙ ap (λ (k : ℕ). Some k)
    (one_more i (length (filter keep (range_with_len (a + 1) (s - (a + 1))))))
    ∙ passed_before keep i a s other from true is
  where
    one_more : (i n : ℕ) → i + 1 + n ≡ i + suc n
    one_more i n = omega arith
stands_later keep i a n s other from false is behind same =
    ap (λ (b : Bool). position_from (nat_eq s) i
    (cond b (a ∷ filter keep (range_with_len (a + 1) n)) (filter keep (range_with_len (a + 1) n))))
    is
    ∙ same
    ∙ passed_before keep i a s other from false is

-- a number that passes stands behind those that pass before it
pub stands_at : (keep : ℕ → Bool) (i a n s : ℕ) → a ≤ s → s < a + n → keep s ≡ true
    → position_from (nat_eq s) i (filter keep (range_with_len a n))
    ≡ Some (i + length (filter keep (range_with_len a (s - a))))
stands_at keep i a zero s from below kept = absurd (omega arith)
stands_at keep i a (suc n) s from below kept = elim (cases_eq s a) [
  | inl same ↦ stands_here keep i a n s same kept
  | inr other ↦ stands_later keep i a n s other from (keep a) refl
      (stands_at keep (i + 1) (a + 1) n s (omega (arith, other)) (omega arith) kept)
      (stands_at keep i (a + 1) n s (omega (arith, other)) (omega arith) kept)
]

-- ---- What is no member

nowhere_behind : (s i : ℕ) (l : List ℕ) (b : Bool) → (b || list_any (nat_eq s) l) ≡ false
    → (list_any (nat_eq s) l ≡ false → position_from (nat_eq s) (i + 1) l ≡ None)
    → cond b (Some i) (position_from (nat_eq s) (i + 1) l) ≡ None
nowhere_behind s i l true out later = let no : true ≡ false = out in cc
nowhere_behind s i l false out later = later out

pub stands_nowhere : (s i : ℕ) (l : List ℕ) → list_any (nat_eq s) l ≡ false
    → position_from (nat_eq s) i l ≡ None
stands_nowhere s i [] out = refl
stands_nowhere s i (x ∷ l) out =
    nowhere_behind s i l (nat_eq s x) out (λ none. stands_nowhere s (i + 1) l none)
