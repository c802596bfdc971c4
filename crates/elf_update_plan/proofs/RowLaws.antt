-- The first refusal of the rows of a list, found one after the other.
use Rattle.std.proofs.Common.{◌≡◌, ℕ, zero, suc, ◌+◌, ◌<◌, ◌≤◌, List, [], ◌∷◌, length, get_or, Option, Some, None, Result, Ok, refl, sym, ap, ◌∙◌, subst, arith, ◌⊎◌, inl, inr}
use Rattle.std.proofs.lemmas.Bool.{cases_lt}
use Rattle.std.specs.Prelude.{map}
use Rattle.std.specs.List.{enumerate_from}
use Rattle.elf_types.specs.declared.errors.ElfError.{ElfError}
use Rattle.elf_types.specs.declared.records.Ehdr.{Ehdr}
use Rattle.elf_types.specs.Answers.{first_refusal}
use Rattle.elf_descriptor.specs.elf_object.Object.{Object, header_of}

-- what a call that is not refused answers
pub ok_is : {T : Type 0} (a b : T) → ◌≡◌ {A = Result T ElfError} (Ok a) (Ok b) → a ≡ b
ok_is a b h = cc

-- the class of an object, as its header is told
pub told_class_is : (o : Object) (h : Ehdr) → ◌≡◌ {A = Result Ehdr ElfError} (Ok h) (Ok (header_of o))
    → h.class ≡ o.header.class
unfolding header_of
told_class_is o h e = ap (λ (x : Ehdr). x.class) (ok_is h (header_of o) e)

module _ {X : Type 0} (f : ℕ → X → Option ElfError) (d : X) where
  abbrev pub rows_from : ℕ → List X → List (Option ElfError)
  rows_from n l = map (λ row. f row.0 row.1) (enumerate_from n l)

  none_from : (n : ℕ) (l : List X) → ((j : ℕ) → j < length l → f (n + j) (get_or l j d) ≡ None)
      → first_refusal (rows_from n l) ≡ None
  none_from n [] each = refl
  none_from n (x ∷ l) each =
      let start : n + 0 ≡ n = omega arith in
      let here : f n x ≡ None = ap (λ (k : ℕ). f k x) (sym start) ∙ each 0 (omega arith) in
      ap (λ (r : Option ElfError). first_refusal (r ∷ rows_from (n + 1) l)) here
      ∙ none_from (n + 1) l (λ j h. let next : n + 1 + j ≡ n + suc j = omega arith in
      ap (λ (k : ℕ). f k (get_or l j d)) next ∙ each (suc j) (omega arith))

  first_from : (n : ℕ) (l : List X) (i : ℕ) (e : ElfError) → i < length l
      → ((j : ℕ) → j < i → f (n + j) (get_or l j d) ≡ None) → f (n + i) (get_or l i d) ≡ Some e
      → first_refusal (rows_from n l) ≡ Some e
  first_from n [] i e there before here = absurd (omega arith)
  first_from n (x ∷ l) zero e there before here =
      let start : n + 0 ≡ n = omega arith in
      ap (λ (r : Option ElfError). first_refusal (r ∷ rows_from (n + 1) l)) (ap (λ (k : ℕ). f k x) (sym start) ∙ here)
  first_from n (x ∷ l) (suc i) e there before here =
      let start : n + 0 ≡ n = omega arith in
      let next : n + 1 + i ≡ n + suc i = omega arith in
      let first : f n x ≡ None = ap (λ (k : ℕ). f k x) (sym start) ∙ before 0 (omega arith) in
      ap (λ (r : Option ElfError). first_refusal (r ∷ rows_from (n + 1) l)) first
      ∙ first_from (n + 1) l i e (omega arith)
      (λ j h. let later : n + 1 + j ≡ n + suc j = omega arith in ap (λ (k : ℕ). f k (get_or l j d))
      later ∙ before (suc j) (omega arith))
      (ap (λ (k : ℕ). f k (get_or l i d)) next ∙ here)

  -- none of the rows before one refuses
  abbrev pub NoneBefore : List X → ℕ → Type 0
  NoneBefore l i = (j : ℕ) → j < i → f j (get_or l j d) ≡ None

  pub none_at_first : (l : List X) → NoneBefore l 0
  none_at_first l = λ j h. absurd (omega arith)

  pub none_more : (l : List X) (i : ℕ) → NoneBefore l i → f i (get_or l i d) ≡ None → NoneBefore l (i + 1)
  none_more l i before here = λ j h. by_place j h (cases_lt j i)
    where
      by_place : (j : ℕ) → j < i + 1 → (j < i) ⊎ (i ≤ j) → f j (get_or l j d) ≡ None
      by_place j h (inl earlier) = before j earlier
      by_place j h (inr past) =
          let same : i ≡ j = omega arith in
          subst (λ (k : ℕ). f k (get_or l k d) ≡ None) same here

  pub rows_none : (l : List X) (i : ℕ) → length l ≤ i → NoneBefore l i → first_refusal (rows_from 0 l) ≡ None
  rows_none l i all before =
      none_from 0 l (λ j h. let start : 0 + j
      ≡ j = omega arith in ap (λ (k : ℕ). f k (get_or l j d)) start ∙ before j (omega arith))

  pub rows_first : (l : List X) (i : ℕ) (e : ElfError) → i < length l → NoneBefore l i → f i (get_or l i d) ≡ Some e
      → first_refusal (rows_from 0 l) ≡ Some e
  rows_first l i e there before here =
      let at : 0 + i ≡ i = omega arith in
      first_from 0 l i e there (λ j h. let start : 0 + j
      ≡ j = omega arith in ap (λ (k : ℕ). f k (get_or l j d)) start ∙ before j h)
      (ap (λ (k : ℕ). f k (get_or l i d)) at ∙ here)

  -- where no row refuses, each one passes
  head_passed : (r : Option ElfError) (rest : List (Option ElfError)) → first_refusal (r ∷ rest)
      ≡ None → (r ≡ None) × (first_refusal rest ≡ None)
  head_passed None rest h = (refl, h)
  head_passed (Some e) rest h = cc

  passed_at : (n : ℕ) (l : List X) (i : ℕ) → first_refusal (rows_from n l) ≡ None → i < length l
      → f (n + i) (get_or l i d) ≡ None
  passed_at n [] i none there = absurd (omega arith)
  passed_at n (x ∷ l) zero none there =
      let start : n + 0 ≡ n = omega arith in
      ap (λ (k : ℕ). f k x) start ∙ (head_passed (f n x) (rows_from (n + 1) l) none).0
  passed_at n (x ∷ l) (suc i) none there =
      let next : n + suc i ≡ n + 1 + i = omega arith in
      ap (λ (k : ℕ). f k (get_or l i d)) next
      ∙ passed_at (n + 1) l i (head_passed (f n x) (rows_from (n + 1) l) none).1 (omega arith)

  pub row_passed : (l : List X) (i : ℕ) → first_refusal (rows_from 0 l) ≡ None → i < length l
      → f i (get_or l i d) ≡ None
  row_passed l i none there =
      let at : i ≡ 0 + i = omega arith in
      ap (λ (k : ℕ). f k (get_or l i d)) at ∙ passed_at 0 l i none there
