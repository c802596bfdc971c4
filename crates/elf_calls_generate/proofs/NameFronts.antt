-- The names of the self test's image, as those that are used so far, the next one, and the rest.
use Rattle.std.proofs.Common.{◌≡◌, ◌+◌, ◌^◌, ◌<◌, ◌≤◌, ℕ, List, [], ◌∷◌, ◌++◌, length, take, drop, append_assoc, append-nil, refl, sym, ap, ◌∙◌, arith}
use Rattle.std.specs.Prelude.{map, codes}
use Rattle.std.specs.List.{range_with_len}
use Rattle.std.proofs.lemmas.List.{take-append-le, take-append-drop}
use Rattle.std.proofs.lemmas.List.FromFn.{length-map-range_with_len, take-map-range_with_len, map-range_with_len_more}
use Rattle.strtab_build.specs.Table.{table}
use Rattle.rebuild_model.specs.Generated.{numbered_name, generated_symbol_names, generated_section_names}
use Rattle.law_files.proofs.commands.TableLemmas.{length-symbol_table, length-section_table}
use Rattle.law_files.proofs.commands.RowLemmas.{three_in_one}
use Rattle.law_files.proofs.commands.GeneratedImage.{digits_small}
use Rattle.elf_calls_generate.specs.Stages.{data_names, symtab_names, strtab_names, symbol_names_to}

-- a front, and what is left
split_at : {X : Type 0} (all front : List X) (k : ℕ) → take k all ≡ front
    → front ++ drop k all ≡ all
split_at {X} all front k is = ap (λ (l : List X). l ++ drop k all) (sym is) ∙ take-append-drop k all

pub numbered_next : {X : Type 0} (f : ℕ → X) (k : ℕ)
    → map f (range_with_len 1 (k + 1)) ≡ map f (range_with_len 1 k) ++ f (k + 1) ∷ []
numbered_next f k = map-range_with_len_more f 1 k (k + 1) (omega arith)

-- ---- The names of sections

data_front : (n k : ℕ) → k < n
    → take (k + 1) (generated_section_names n)
    ≡ data_names k ++ numbered_name (codes ".s") (k + 1) ∷ []
unfolding generated_section_names
data_front n k below =
    let f = numbered_name (codes ".s") in
    let size = length-map-range_with_len f 1 n in
    take-append-le (k + 1) (map f (range_with_len 1 n))
    (codes ".symtab" ∷ codes ".strtab" ∷ codes ".shstrtab" ∷ []) (omega (arith, size, below))
    ∙ take-map-range_with_len f 1 n (k + 1) (omega (arith, below))
    ∙ numbered_next f k

pub data_split : (n k : ℕ) → k < n
    → (data_names k ++ numbered_name (codes ".s") (k + 1) ∷ [])
    ++ drop (k + 1) (generated_section_names n)
    ≡ generated_section_names n
data_split n k below =
    split_at (generated_section_names n) (data_names k ++ numbered_name (codes ".s") (k + 1) ∷ [])
    (k + 1) (data_front n k below)

pub symtab_split : (n : ℕ) → (data_names n ++ codes ".symtab" ∷ [])
    ++ codes ".strtab" ∷ codes ".shstrtab" ∷ []
    ≡ generated_section_names n
unfolding generated_section_names
symtab_split n =
    append_assoc (data_names n) (codes ".symtab" ∷ []) (codes ".strtab" ∷ codes ".shstrtab" ∷ [])

pub strtab_split : (n : ℕ) → (symtab_names n ++ codes ".strtab" ∷ []) ++ codes ".shstrtab" ∷ []
    ≡ generated_section_names n
unfolding generated_section_names
strtab_split n =
    three_in_one (data_names n) (codes ".symtab") (codes ".strtab") (codes ".shstrtab")

pub shstrtab_whole : (n : ℕ) → strtab_names n ++ codes ".shstrtab" ∷ []
    ≡ generated_section_names n
shstrtab_whole n = strtab_split n

pub shstrtab_split : (n : ℕ) → (strtab_names n ++ codes ".shstrtab" ∷ []) ++ []
    ≡ generated_section_names n
shstrtab_split n = append-nil (strtab_names n ++ codes ".shstrtab" ∷ []) ∙ strtab_split n

pub names_small : (n : ℕ) → n ≤ 60000 → length (table (generated_section_names n)) < 2 ^ 32
names_small n small =
    let size = length-section_table n (omega (arith, small)) in
    let digits = digits_small n in omega (arith, size, digits, small)

-- ---- The names of symbols

pub symbol_names_all : (n : ℕ) → symbol_names_to n ≡ generated_symbol_names n
unfolding generated_symbol_names
symbol_names_all n = refl

symbol_front : (n k : ℕ) → k < n
    → take (k + 1) (generated_symbol_names n)
    ≡ symbol_names_to k ++ numbered_name (codes "y") (k + 1) ∷ []
unfolding generated_symbol_names
symbol_front n k below =
    let f = numbered_name (codes "y") in
    take-map-range_with_len f 1 n (k + 1) (omega (arith, below)) ∙ numbered_next f k

pub symbol_split : (n k : ℕ) → k < n
    → (symbol_names_to k ++ numbered_name (codes "y") (k + 1) ∷ [])
    ++ drop (k + 1) (generated_symbol_names n)
    ≡ generated_symbol_names n
symbol_split n k below =
    split_at (generated_symbol_names n)
    (symbol_names_to k ++ numbered_name (codes "y") (k + 1) ∷ [])
    (k + 1) (symbol_front n k below)

pub strings_small : (n : ℕ) → n ≤ 60000 → length (table (generated_symbol_names n)) < 2 ^ 32
strings_small n small =
    let size = length-symbol_table n (omega (arith, small)) in
    let digits = digits_small n in omega (arith, size, digits, small)
