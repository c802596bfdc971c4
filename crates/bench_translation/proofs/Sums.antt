-- Sums of longer lists.
use Rattle.std.proofs.Common.{◌≡◌, ℕ, List, [], ◌∷◌, ◌++◌, refl, ◌∙◌, ap, sym, ◌+◌, ◌<◌, suc, length, take, get_or, arith}
use Rattle.std.proofs.Math.Seq.{take-suc}
use Rattle.std.proofs.lemmas.List.{append-nil}
use Rattle.std.specs.List.{flat_map}
use Rattle.std.proofs.lemmas.Grind.{flat_map-append}
use Rattle.std.proofs.lemmas.List.Concat.{flat_map-cons}
use Rattle.elf_types.specs.declared.records.Sym.{Sym}
use Rattle.bench_translation.specs.Sums.{sum_with_number, with_all, symbol_field_values, with_symbols}

-- the numbers of two lists, one after the other
pub with_all_append : (sum : ℕ) (xs ys : List ℕ) → with_all sum (xs ++ ys) ≡ with_all (with_all sum xs) ys
unfolding with_all
with_all_append sum [] ys = refl
with_all_append sum (x ∷ xs) ys = with_all_append (sum_with_number sum x) xs ys

-- no number
pub with_none : (sum : ℕ) → sum ≡ with_all sum []
unfolding with_all
with_none sum = refl

-- one number more
pub with_one_more : (first sum : ℕ) (xs : List ℕ) (x : ℕ) → sum ≡ with_all first xs → sum_with_number sum x ≡ with_all first (xs ++ x ∷ [])
unfolding with_all
with_one_more first sum xs x h = ap (λ (s : ℕ). sum_with_number s x) h ∙ sym (with_all_append first xs (x ∷ []))

-- some numbers more
pub with_some_more : (first sum : ℕ) (xs ys : List ℕ) → sum ≡ with_all first xs → with_all sum ys ≡ with_all first (xs ++ ys)
with_some_more first sum xs ys h = ap (λ (s : ℕ). with_all s ys) h ∙ sym (with_all_append first xs ys)

-- no symbol
pub with_no_symbol : (sum : ℕ) → sum ≡ with_all sum (flat_map symbol_field_values [])
unfolding with_all
with_no_symbol sum = refl

-- the number at a place more
pub with_next : (first sum new i : ℕ) (xs : List ℕ) (d : ℕ) → i < length xs → sum ≡ with_all first (take i xs) → new ≡ sum_with_number sum (get_or xs i d) → new ≡ with_all first (take (i + 1) xs)
with_next first sum new i xs d within h is =
    let place : i + 1 ≡ suc i = omega arith in
    is ∙ with_one_more first sum (take i xs) (get_or xs i d) h ∙ ap (with_all first) (sym (ap (λ (k : ℕ). take k xs) place ∙ take-suc xs i d within))

-- the symbol at a place more
pub with_next_symbol : (first sum new i : ℕ) (xs : List Sym) (d : Sym) → i < length xs → sum ≡ with_symbols first (take i xs) → new ≡ with_all sum (symbol_field_values (get_or xs i d)) → new ≡ with_symbols first (take (i + 1) xs)
with_next_symbol first sum new i xs d within h is =
    let place : i + 1 ≡ suc i = omega arith in
    let longer = ap (flat_map symbol_field_values) (ap (λ (k : ℕ). take k xs) place ∙ take-suc xs i d within) ∙ flat_map-append symbol_field_values (take i xs) (get_or xs i d ∷ []) in
    let one : flat_map symbol_field_values (get_or xs i d ∷ []) ≡ symbol_field_values (get_or xs i d) = flat_map-cons symbol_field_values (get_or xs i d) [] ∙ append-nil (symbol_field_values (get_or xs i d)) in
    is ∙ with_some_more first sum (flat_map symbol_field_values (take i xs)) (symbol_field_values (get_or xs i d)) h
    ∙ ap (with_all first) (sym (longer ∙ ap (λ (ns : List ℕ). flat_map symbol_field_values (take i xs) ++ ns) one))
