-- What a reordering refuses, section by section.
use Rattle.std.proofs.Common.{◌≡◌, ◌+◌, ◌-◌, ◌<◌, ◌≤◌, ℕ, suc, [], ◌∷◌, map, Option, Some, None, Result, Ok, Err, refl, sym, ap, ◌∙◌, arith}
use Rattle.std.specs.List.{range_with_len}
use Rattle.elf_types.specs.declared.errors.ElfError.{ElfError}
use Rattle.elf_types.specs.Answers.{answered, first_refusal}
use Rattle.elf_types.specs.declared.records.Kind.TheVariants as kinds
use Rattle.symbol_lookup.specs.elf_object.Object.{Object}
use Rattle.symbol_lookup.specs.elf_object.Answers.{lend_refusal}
use Rattle.symbol_lookup.specs.elf_object.Due.{all_sections}
use Rattle.symbol_lookup.proofs.elf_object.AnswerLaws.{answered_value, answered_refusal}
use Rattle.symbol_lookup.specs.hash_model.Reordered.{reorder_refusal, reorder_refusal_of}

module _ (f : ℕ → Option ElfError) (n : ℕ) where
  -- what is left to check
  abbrev pub left_to_check : ℕ → Option ElfError
  left_to_check i = first_refusal (map f (range_with_len i (n - i)))

  unfolded : (i : ℕ) → i < n
      → left_to_check i ≡ first_refusal (f i ∷ map f (range_with_len (i + 1) (n - (i + 1))))
  unfolded i below =
      ap (λ (m : ℕ). first_refusal (map f (range_with_len i m)))
      (let one : n - i ≡ suc (n - (i + 1)) = omega (arith, below) in one)

  pub check_more : (i : ℕ) → i < n → f i ≡ None → left_to_check (i + 1) ≡ left_to_check i
  check_more i below passed =
      sym (unfolded i below
      ∙ ap (λ (r : Option ElfError).
      first_refusal (r ∷ map f (range_with_len (i + 1) (n - (i + 1))))) passed)

  pub check_stops : (i : ℕ) (e : ElfError) → i < n → f i ≡ Some e → left_to_check i ≡ Some e
  check_stops i e below refused =
      unfolded i below
      ∙ ap (λ (r : Option ElfError).
      first_refusal (r ∷ map f (range_with_len (i + 1) (n - (i + 1))))) refused

  pub check_begins : left_to_check 0 ≡ first_refusal (map f (range_with_len 0 n))
  check_begins =
      ap (λ (m : ℕ). first_refusal (map f (range_with_len 0 m)))
      (let same : n - 0 ≡ n = omega arith in same)

  pub check_all : (i : ℕ) → n ≤ i → left_to_check i ≡ None
  check_all i past =
      ap (λ (m : ℕ). first_refusal (map f (range_with_len i m)))
      (let none : n - i ≡ 0 = omega (arith, past) in none)

-- ---- One after another

alone : (r : Option ElfError) → first_refusal (r ∷ []) ≡ r
alone None = refl
alone (Some e) = refl

module _ {A : Type 0} (first second : Option ElfError) (v : A) where
  abbrev both : Result (Unit {0}) ElfError
  both = answered (first_refusal (first ∷ second ∷ [])) tt

  pub second_answers : (x : A) (r : Result (Unit {0}) ElfError) → Ok x ≡ answered first v
      → r ≡ answered second tt → r ≡ both
  second_answers x r came is =
      is ∙ ap (λ (q : Option ElfError). answered q (tt {0})) (sym (alone second))
      ∙ ap (λ (q : Option ElfError). answered (first_refusal (q ∷ second ∷ [])) (tt {0}))
      (sym (answered_value first v x (sym came)).0)

  pub first_answers : (e : ElfError) → Err e ≡ answered first v → Err e ≡ both
  first_answers e came =
      sym (ap (λ (q : Option ElfError). answered (first_refusal (q ∷ second ∷ [])) (tt {0}))
      (answered_refusal first v e (sym came)))

-- ---- All sections

module _ (f : ℕ → Option ElfError) (n : ℕ) where
  abbrev all_of : Option ElfError
  all_of = first_refusal (map f (range_with_len 0 n))

  pub ends_refused : (i : ℕ) (e : ElfError) → i < n → left_to_check f n i ≡ all_of
      → Err e ≡ answered (f i) (tt {0}) → Err e ≡ answered all_of (tt {0})
  ends_refused i e below is came =
      sym (ap (λ (q : Option ElfError). answered q (tt {0}))
      (sym is ∙ check_stops f n i e below (answered_refusal (f i) (tt {0}) e (sym came))))

  pub goes_on : (i : ℕ) → i < n → left_to_check f n i ≡ all_of
      → Ok (tt {0}) ≡ answered (f i) (tt {0}) → left_to_check f n (i + 1) ≡ all_of
  goes_on i below is came =
      check_more f n i below (answered_value (f i) (tt {0}) (tt {0}) (sym came)).0 ∙ is

  pub ends_passed : (i : ℕ) → n ≤ i → left_to_check f n i ≡ all_of
      → Ok (tt {0}) ≡ answered all_of (tt {0})
  ends_passed i past is =
      sym (ap (λ (q : Option ElfError). answered q (tt {0})) (sym is ∙ check_all f n i past))

pub count_is : (a b : ℕ) → ◌≡◌ {A = Result ℕ ElfError} (Ok a) (Ok b) → a ≡ b
count_is a b same = cc

-- ---- The whole

module _ (o : Object) (s : ℕ) where
  abbrev followers : Option ElfError
  followers = first_refusal (map (reorder_refusal_of o s) (all_sections o))

  pub order_refused : (v w : ℕ) (e : ElfError) → Err e ≡ answered (lend_refusal o kinds.Sym s 0) v
      → Err e ≡ answered (reorder_refusal o s) w
  unfolding reorder_refusal
  order_refused v w e came =
      sym (ap (λ (q : Option ElfError).
      answered (first_refusal (q ∷ map (reorder_refusal_of o s) (all_sections o))) w)
      (answered_refusal (lend_refusal o kinds.Sym s 0) v e (sym came)))

  module _ (passed : lend_refusal o kinds.Sym s 0 ≡ None) where
    refusal_is : reorder_refusal o s ≡ followers
    unfolding reorder_refusal
    refusal_is =
        ap (λ (q : Option ElfError).
        first_refusal (q ∷ map (reorder_refusal_of o s) (all_sections o))) passed

    pub follower_refused : (w : ℕ) (e : ElfError) → Err e ≡ answered followers (tt {0})
        → Err e ≡ answered (reorder_refusal o s) w
    follower_refused w e came =
        sym (ap (λ (q : Option ElfError). answered q w)
        (refusal_is ∙ answered_refusal followers (tt {0}) e (sym came)))

    pub all_passed : (count w : ℕ) → count ≡ w → Ok (tt {0}) ≡ answered followers (tt {0})
        → Ok count ≡ answered (reorder_refusal o s) w
    all_passed count w same came =
        ap (λ (n : ℕ). Ok n) same
        ∙ sym (ap (λ (q : Option ElfError). answered q w)
        (refusal_is ∙ (answered_value followers (tt {0}) (tt {0}) (sym came)).0))
