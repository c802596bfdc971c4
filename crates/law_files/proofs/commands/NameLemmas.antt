-- Numbered names: a front and a decimal number. Each is another one, and their table is as long as
-- the digits say.
use Rattle.std.proofs.Common.{◌≡◌, ◌≢◌, ℕ, zero, suc, ◌+◌, ◌*◌, ◌^◌, ◌<◌, ◌≤◌, ◌==◌, false, List, [], ◌∷◌, ◌++◌, length, get_or, drop, All, refl, sym, ap, ◌∙◌, subst, arith}
use Rattle.std.specs.Prelude.{map, decimal, codes}
use Rattle.std.specs.List.{range_with_len, list_any}
use Rattle.std.specs.Str.{bytes_eq}
use Rattle.std.proofs.lemmas.Bool.{false_from_ne_true, or_from, ne_eqb}
use Rattle.std.proofs.lemmas.Slice.Eq.{bytes_eq-Decides}
use Rattle.std.proofs.lemmas.Fmt.{decimal_injective, decimal_is_IsNumeral, decimal_nonempty, length-decimal-le}
use Rattle.std.proofs.lemmas.Str.Parse.{digit_at}
use Rattle.std.proofs.lemmas.List.{drop_at}
use Rattle.std.proofs.lemmas.List.Elements.{All-from_get_or}
use Rattle.std.proofs.lemmas.List.FromFn.{map-range_with_len_more}
use Rattle.strtab_build.specs.Names.{unclosed, IsNew, IsTable}
use Rattle.strtab_build.proofs.KeptLemmas.{IsTable-nil, IsTable-push}
use Rattle.strtab_build.proofs.TableLemmas.{length-unclosed-push}
use Rattle.law_files.proofs.commands.NumberLemmas.{sum_to, sum_to-next}

-- ---- Names that are apart

-- two numbers behind one front
pub numbers_apart : (front : List ℕ) (i j : ℕ) → i < j → j < 2 ^ 64 → bytes_eq (front ++ decimal j) (front ++ decimal i) ≡ false
numbers_apart front i j less small =
    false_from_ne_true (bytes_eq (front ++ decimal j) (front ++ decimal i)) (λ e.
    let same = (bytes_eq-Decides (front ++ decimal j) (front ++ decimal i)).0 e in
    let digits : decimal j ≡ decimal i =
    sym (drop_at front (decimal j) (length front) refl) ∙ ap (drop (length front)) same ∙ drop_at front (decimal i) (length front) refl in
    let number = decimal_injective j i small (omega arith) digits in
    omega arith)

-- a letter and a number behind one front
pub letter_apart : (front : List ℕ) (letter : ℕ) (rest : List ℕ) (i : ℕ) → 57 < letter → i < 2 ^ 64 → bytes_eq (front ++ letter ∷ rest) (front ++ decimal i) ≡ false
letter_apart front letter rest i above small =
    false_from_ne_true (bytes_eq (front ++ letter ∷ rest) (front ++ decimal i)) (λ e.
    let same = (bytes_eq-Decides (front ++ letter ∷ rest) (front ++ decimal i)).0 e in
    let digits : letter ∷ rest ≡ decimal i =
    sym (drop_at front (letter ∷ rest) (length front) refl) ∙ ap (drop (length front)) same ∙ drop_at front (decimal i) (length front) refl in
    let first : letter ≡ get_or (decimal i) 0 0 = ap (λ (l : List ℕ). get_or l 0 0) digits in
    let digit = digit_at (decimal i) 0 (decimal_is_IsNumeral i small).0.1 (decimal_nonempty i small) in
    omega (arith, digit))

-- a number has no NUL
pub decimal_without_nul : (i : ℕ) → i < 2 ^ 64 → All (λ b. b ≢ 0) (decimal i)
decimal_without_nul i small = All-from_get_or (λ b. b ≢ 0) (decimal i) 0 (λ k below (none : get_or (decimal i) k 0 ≡ 0).
    let digit = digit_at (decimal i) k (decimal_is_IsNumeral i small).0.1 below in
    omega arith)

pub number_bytes : (i : ℕ) → i < 2 ^ 64 → All (λ b. b < 2 ^ 8) (decimal i)
number_bytes i small = All-from_get_or (λ b. b < 2 ^ 8) (decimal i) 0 (λ k below.
    let digit = digit_at (decimal i) k (decimal_is_IsNumeral i small).0.1 below in
    omega arith)

-- ---- A table of numbered names

-- names by their numbers, no two of which are the same
pub record AreDistinctNames (name : ℕ → List ℕ) : Type 0 where
  pub some : (i : ℕ) → i < 100000 → (length (name i) == 0) ≡ false
  pub short : (i : ℕ) → i < 100000 → length (name i) ≤ 8
  pub apart : (i j : ℕ) → i < j → j < 100000 → bytes_eq (name j) (name i) ≡ false

abbrev pub numbered_names : (ℕ → List ℕ) → ℕ → List (List ℕ)
numbered_names name n = map name (range_with_len 1 n)

pub numbered-next : (name : ℕ → List ℕ) (n : ℕ) → numbered_names name (n + 1) ≡ numbered_names name n ++ name (n + 1) ∷ []
numbered-next name n = map-range_with_len_more name 1 n (n + 1) (omega arith)

-- a name that is none of them
pub unused_by : (name : ℕ → List ℕ) (x : List ℕ) (a n : ℕ) → ((i : ℕ) → a ≤ i → i < a + n → bytes_eq x (name i) ≡ false) → list_any (bytes_eq x) (map name (range_with_len a n)) ≡ false
unused_by name x a zero other = refl
unused_by name x a (suc n) other =
    or_from _ _ (other a (omega arith) (omega arith)) (unused_by name x (a + 1) n (λ i from below. other i (omega arith) (omega arith)))

module _ (name : ℕ → List ℕ) (are : AreDistinctNames name) where
  length-unclosed-le : (n : ℕ) → n < 100000 → length (unclosed (numbered_names name n)) ≤ 9 * n
  unfolding unclosed
  length-unclosed-le zero small = omega arith
  length-unclosed-le (suc n) small =
      let one : n + 1 ≡ suc n = omega arith in
      let next = ap (λ m. length (unclosed (numbered_names name m))) (sym one) ∙ ap (λ l. length (unclosed l)) (numbered-next name n) ∙ length-unclosed-push (numbered_names name n) (name (n + 1)) in
      omega (arith, next, length-unclosed-le n (omega arith), are.short (n + 1) (omega arith))

  pub numbered_table : (n : ℕ) → n < 100000 → IsTable (numbered_names name n)
  numbered_table zero small = IsTable-nil
  numbered_table (suc n) small =
      let one : n + 1 ≡ suc n = omega arith in
      let new : IsNew (name (n + 1)) (numbered_names name n) = record {
        not_empty = are.some (n + 1) (omega arith);
        unused = unused_by name (name (n + 1)) 1 n (λ i from below. are.apart i (n + 1) (omega arith) (omega arith));
      } in
      let fits : length (unclosed (numbered_names name n)) + length (name (n + 1)) + 2 < 2 ^ 32 =
      omega (arith, length-unclosed-le n (omega arith), are.short (n + 1) (omega arith)) in
      let pushed = IsTable-push (numbered_names name n) (name (n + 1)) (numbered_table n (omega arith)) new fits in
      subst (λ (m : ℕ). IsTable (numbered_names name m)) one (subst IsTable (sym (numbered-next name n)) pushed)

  pub length-unclosed-numbered : (n : ℕ) → length (unclosed (numbered_names name n)) ≡ sum_to (λ i. length (name i) + 1) n
  unfolding unclosed
  length-unclosed-numbered zero = refl
  length-unclosed-numbered (suc n) =
      let one : n + 1 ≡ suc n = omega arith in
      let next = ap (λ m. length (unclosed (numbered_names name m))) (sym one) ∙ ap (λ l. length (unclosed l)) (numbered-next name n) ∙ length-unclosed-push (numbered_names name n) (name (n + 1)) in
      let sum = ap (sum_to (λ i. length (name i) + 1)) (sym one) ∙ sum_to-next (λ i. length (name i) + 1) n in
      omega (arith, next, sum, length-unclosed-numbered n)

-- ---- The names of the symbols

abbrev pub numbered_symbol_name : ℕ → List ℕ
numbered_symbol_name i = codes "y" ++ decimal i

pub symbol_names_are : AreDistinctNames numbered_symbol_name
symbol_names_are = record {
  some = λ i small. ne_eqb (length (numbered_symbol_name i)) 0 (λ none. omega arith);
  short = λ i small. omega (arith, length-decimal-le 5 i (omega arith) (omega arith) (omega arith));
  apart = λ i j less small. numbers_apart (codes "y") i j less (omega arith);
}

-- ---- The names of the sections

abbrev pub numbered_section_name : ℕ → List ℕ
numbered_section_name i = codes ".s" ++ decimal i

pub section_names_are : AreDistinctNames numbered_section_name
section_names_are = record {
  some = λ i small. ne_eqb (length (numbered_section_name i)) 0 (λ none. omega arith);
  short = λ i small. omega (arith, length-decimal-le 5 i (omega arith) (omega arith) (omega arith));
  apart = λ i j less small. numbers_apart (codes ".s") i j less (omega arith);
}
