-- The two tables of names of the self test's image: how long they are, and that each name is read
-- at its place.
use Rattle.std.proofs.Common.{◌≡◌, ◌≢◌, ℕ, zero, suc, ◌+◌, ◌-◌, ◌*◌, ◌^◌, ◌<◌, ◌≤◌, ◌==◌, true, false, List, [], ◌∷◌, ◌++◌, length, get_or, drop, All, refl, sym, ap, ◌∙◌, subst, arith}
use Rattle.std.specs.Prelude.{map, decimal, codes}
use Rattle.std.specs.List.{range_with_len, list_any}
use Rattle.std.specs.Str.{bytes_eq}
use Rattle.std.proofs.lemmas.Bool.{or_from, or_right}
use Rattle.std.proofs.lemmas.List.{length-append, drop-append-le, get_or_append_left, get_or-append_right}
use Rattle.std.proofs.lemmas.List.Elements.{All-nil, All-cons, All-append, All-head, All-tail, Contains-get_or}
use Rattle.std.proofs.lemmas.List.Folds.{list_any-append}
use Rattle.std.proofs.lemmas.List.FromFn.{length-map-range_with_len, get_or-map-range_with_len}
use Rattle.strtab_build.specs.Table.{table, place_of, string_at}
use Rattle.strtab_build.specs.Names.{unclosed, IsNew, IsTable}
use Rattle.strtab_build.proofs.KeptLemmas.{IsTable-push}
use Rattle.strtab_build.proofs.TableLemmas.{table_is, length-table, length-unclosed-push, unclosed-through, string_at-place_of}
use Rattle.elfkit_outcomes.specs.elf_object.Strings.{has_nul}
use Rattle.elfkit_outcomes.specs.rebuild_model.Generated.{generated_symbol_names, generated_section_names}
use Rattle.law_files.specs.Commands.SelftestSizes.{above, digits_up_to}
use Rattle.law_files.proofs.commands.NumberLemmas.{sum_to, sum_to-next, digits_are}
use Rattle.law_files.proofs.commands.RowLemmas.{three_in_one}
use Rattle.law_files.proofs.commands.NameLemmas.{numbered_names, numbered_table, length-unclosed-numbered, unused_by, letter_apart, decimal_without_nul, number_bytes, numbered_symbol_name, symbol_names_are, numbered_section_name, section_names_are}

-- ---- A name in a table

-- a name is read at its place, where a NUL follows it
pub record IsNameInTable (names : List (List ℕ)) (name : List ℕ) : Type 0 where
  pub within : place_of name names < length (table names)
  pub ends : has_nul (drop (place_of name names) (table names)) ≡ true
  pub reads : string_at (table names) (place_of name names) ≡ name

pub placed_at : (names : List (List ℕ)) (i : ℕ) → IsTable names → i < length names → All (λ b. b ≢ 0) (get_or names i []) → IsNameInTable names (get_or names i [])
placed_at names i t below whole =
    let name = get_or names i [] in
    let place = t.places i below in
    let through = unclosed-through names i below in
    let size = length-table names t.once in
    let front : place_of name names ≤ length (unclosed names) = omega arith in
    record {
      within = omega arith;
      ends =
          ap (λ (l : List ℕ). has_nul (drop (place_of name names) l)) (table_is names t.once)
          ∙ ap has_nul (drop-append-le (place_of name names) (unclosed names) (0 ∷ []) front)
          ∙ list_any-append (λ b. b == 0) (drop (place_of name names) (unclosed names)) (0 ∷ [])
          ∙ or_right (has_nul (drop (place_of name names) (unclosed names))) true refl;
      reads = string_at-place_of name names (Contains-get_or names i [] below) whole;
    }

-- ---- The symbols' names

sum_more : (k : ℕ) (f : ℕ → ℕ) (n : ℕ) → sum_to (λ i. k + f i) n ≡ k * n + sum_to f n
sum_more k f zero = omega arith
sum_more k f (suc n) =
    let one : n + 1 ≡ suc n = omega arith in
    let left = ap (sum_to (λ i. k + f i)) (sym one) ∙ sum_to-next (λ i. k + f i) n in
    let right = ap (sum_to f) (sym one) ∙ sum_to-next f n in
    omega (arith, left, right, sum_more k f n)

pub symbol_names_is : (n : ℕ) → generated_symbol_names n ≡ numbered_names numbered_symbol_name n
unfolding generated_symbol_names
symbol_names_is n = refl

pub symbol_names_table : (n : ℕ) → n < 100000 → IsTable (generated_symbol_names n)
symbol_names_table n small = subst IsTable (sym (symbol_names_is n)) (numbered_table numbered_symbol_name symbol_names_are n small)

pub length-symbol_table : (n : ℕ) → n < 100000 → length (table (generated_symbol_names n)) ≡ 1 + 2 * n + digits_up_to n
length-symbol_table n small =
    let size = length-table (generated_symbol_names n) (symbol_names_table n small).once in
    let names = ap (λ (l : List (List ℕ)). length (unclosed l)) (symbol_names_is n) ∙ length-unclosed-numbered numbered_symbol_name symbol_names_are n in
    let each : sum_to (λ i. length (numbered_symbol_name i) + 1) n ≡ 2 * n + digits_up_to n = sums n ∙ ap (λ (m : ℕ). 2 * n + m) (digits_are n small) in
    omega arith
  where
    sums : (m : ℕ) → sum_to (λ i. length (numbered_symbol_name i) + 1) m ≡ 2 * m + sum_to (λ i. length (decimal i)) m
    sums zero = omega arith
    sums (suc m) =
        let one : m + 1 ≡ suc m = omega arith in
        let left = ap (sum_to (λ i. length (numbered_symbol_name i) + 1)) (sym one) ∙ sum_to-next (λ i. length (numbered_symbol_name i) + 1) m in
        let right = ap (sum_to (λ i. length (decimal i))) (sym one) ∙ sum_to-next (λ i. length (decimal i)) m in
        omega (arith, left, right, sums m)

pub symbol_placed : (n i : ℕ) → n < 100000 → 1 ≤ i → i ≤ n → IsNameInTable (generated_symbol_names n) (numbered_symbol_name i)
symbol_placed n i small from upto =
    let count : length (generated_symbol_names n) ≡ n = ap length (symbol_names_is n) ∙ length-map-range_with_len numbered_symbol_name 1 n in
    let here : get_or (generated_symbol_names n) (i - 1) [] ≡ numbered_symbol_name i =
    ap (λ (l : List (List ℕ)). get_or l (i - 1) []) (symbol_names_is n) ∙ get_or-map-range_with_len numbered_symbol_name 1 n (i - 1) i [] (omega arith) (omega arith) in
    let whole = All-cons (λ b. b ≢ 0) 121 (decimal i) (λ e. omega arith) (decimal_without_nul i (omega arith)) in
    subst (IsNameInTable (generated_symbol_names n)) here
    (placed_at (generated_symbol_names n) (i - 1) (symbol_names_table n small) (omega arith) (subst (All (λ b. b ≢ 0)) (sym here) whole))

-- all bytes of the table
unclosed_bytes : (names : List (List ℕ)) → All (All (λ b. b < 2 ^ 8)) names → All (λ b. b < 2 ^ 8) (unclosed names)
unfolding unclosed
unclosed_bytes [] each = All-nil (λ b. b < 2 ^ 8)
unclosed_bytes (name ∷ names) each =
    All-append (λ b. b < 2 ^ 8) (0 ∷ name) (unclosed names)
    (All-cons (λ b. b < 2 ^ 8) 0 name (omega arith) (All-head (All (λ b. b < 2 ^ 8)) name names each))
    (unclosed_bytes names (All-tail (All (λ b. b < 2 ^ 8)) name names each))

symbol_names_bytes : (a n : ℕ) → a + n < 100001 → All (All (λ b. b < 2 ^ 8)) (map numbered_symbol_name (range_with_len a n))
symbol_names_bytes a zero small = All-nil (All (λ b. b < 2 ^ 8))
symbol_names_bytes a (suc n) small =
    All-cons (All (λ b. b < 2 ^ 8)) (numbered_symbol_name a) (map numbered_symbol_name (range_with_len (a + 1) n))
    (All-cons (λ b. b < 2 ^ 8) 121 (decimal a) (omega arith) (number_bytes a (omega arith)))
    (symbol_names_bytes (a + 1) n (omega arith))

pub symbol_table_bytes : (n : ℕ) → n < 100000 → All (λ b. b < 2 ^ 8) (table (generated_symbol_names n))
symbol_table_bytes n small =
    let names = subst (All (All (λ b. b < 2 ^ 8))) (sym (symbol_names_is n)) (symbol_names_bytes 1 n (omega arith)) in
    subst (All (λ b. b < 2 ^ 8)) (sym (table_is (generated_symbol_names n) (symbol_names_table n small).once))
    (All-append (λ b. b < 2 ^ 8) (unclosed (generated_symbol_names n)) (0 ∷ []) (unclosed_bytes (generated_symbol_names n) names)
    (All-cons (λ b. b < 2 ^ 8) 0 [] (omega arith) (All-nil (λ b. b < 2 ^ 8))))

-- ---- The sections' names

-- a name that is none of the numbered ones
unnumbered : (letter : ℕ) (rest : List ℕ) (n : ℕ) → n < 100000 → 57 < letter → list_any (bytes_eq (codes ".s" ++ letter ∷ rest)) (numbered_names numbered_section_name n) ≡ false
unnumbered letter rest n small above =
    unused_by numbered_section_name (codes ".s" ++ letter ∷ rest) 1 n (λ i from below. letter_apart (codes ".s") letter rest i above (omega arith))

abbrev names_to_symtab : ℕ → List (List ℕ)
names_to_symtab n = numbered_names numbered_section_name n ++ codes ".symtab" ∷ []

abbrev names_to_strtab : ℕ → List (List ℕ)
names_to_strtab n = names_to_symtab n ++ codes ".strtab" ∷ []

abbrev names_to_shstrtab : ℕ → List (List ℕ)
names_to_shstrtab n = names_to_strtab n ++ codes ".shstrtab" ∷ []

pub section_names_is : (n : ℕ) → generated_section_names n ≡ names_to_shstrtab n
unfolding generated_section_names
section_names_is n = sym (three_in_one (numbered_names numbered_section_name n) (codes ".symtab") (codes ".strtab") (codes ".shstrtab"))

symtab_new : (n : ℕ) → n < 100000 → IsNew (codes ".symtab") (numbered_names numbered_section_name n)
symtab_new n small = record { not_empty = refl; unused = unnumbered 121 (codes "mtab") n small (omega arith) }

strtab_new : (n : ℕ) → n < 100000 → IsNew (codes ".strtab") (names_to_symtab n)
strtab_new n small = record {
  not_empty = refl;
  unused =
      list_any-append (bytes_eq (codes ".strtab")) (numbered_names numbered_section_name n) (codes ".symtab" ∷ [])
      ∙ or_from _ _ (unnumbered 116 (codes "rtab") n small (omega arith)) refl;
}

shstrtab_new : (n : ℕ) → n < 100000 → IsNew (codes ".shstrtab") (names_to_strtab n)
shstrtab_new n small = record {
  not_empty = refl;
  unused =
      list_any-append (bytes_eq (codes ".shstrtab")) (names_to_symtab n) (codes ".strtab" ∷ [])
      ∙ or_from _ _
      (list_any-append (bytes_eq (codes ".shstrtab")) (numbered_names numbered_section_name n) (codes ".symtab" ∷ [])
      ∙ or_from _ _ (unnumbered 104 (codes "strtab") n small (omega arith)) refl)
      refl;
}

digits_small : (n : ℕ) → digits_up_to n ≤ 5 * n
unfolding digits_up_to above
digits_small n = omega arith

length-numbered : (n : ℕ) → n < 100000 → length (unclosed (numbered_names numbered_section_name n)) ≡ 3 * n + digits_up_to n
length-numbered n small = length-unclosed-numbered numbered_section_name section_names_are n ∙ sums n ∙ ap (λ (m : ℕ). 3 * n + m) (digits_are n small)
  where
    sums : (m : ℕ) → sum_to (λ i. length (numbered_section_name i) + 1) m ≡ 3 * m + sum_to (λ i. length (decimal i)) m
    sums zero = omega arith
    sums (suc m) =
        let one : m + 1 ≡ suc m = omega arith in
        let left = ap (sum_to (λ i. length (numbered_section_name i) + 1)) (sym one) ∙ sum_to-next (λ i. length (numbered_section_name i) + 1) m in
        let right = ap (sum_to (λ i. length (decimal i))) (sym one) ∙ sum_to-next (λ i. length (decimal i)) m in
        omega (arith, left, right, sums m)

-- the table as it grows by the three names
record AreTables (n : ℕ) : Type 0 where
  whole : IsTable (names_to_shstrtab n)
  size : length (unclosed (names_to_shstrtab n)) ≡ 26 + 3 * n + digits_up_to n

tables : (n : ℕ) → n < 100000 → AreTables n
tables n small =
    let start = length-numbered n small in
    let few = digits_small n in
    let first = length-unclosed-push (numbered_names numbered_section_name n) (codes ".symtab") in
    let second = length-unclosed-push (names_to_symtab n) (codes ".strtab") in
    let third = length-unclosed-push (names_to_strtab n) (codes ".shstrtab") in
    let a = IsTable-push (numbered_names numbered_section_name n) (codes ".symtab") (numbered_table numbered_section_name section_names_are n small) (symtab_new n small) (omega arith) in
    let b = IsTable-push (names_to_symtab n) (codes ".strtab") a (strtab_new n small) (omega arith) in
    record {
      whole = IsTable-push (names_to_strtab n) (codes ".shstrtab") b (shstrtab_new n small) (omega arith);
      size = omega arith;
    }

pub section_table : (n : ℕ) → n < 100000 → IsTable (generated_section_names n)
section_table n small = subst IsTable (sym (section_names_is n)) (tables n small).whole

pub length-section_table : (n : ℕ) → n < 100000 → length (table (generated_section_names n)) ≡ 27 + 3 * n + digits_up_to n
length-section_table n small =
    let size = length-table (generated_section_names n) (section_table n small).once in
    let names = ap (λ (l : List (List ℕ)). length (unclosed l)) (section_names_is n) in
    omega (arith, size, names, (tables n small).size)

pub length-section_names : (n : ℕ) → length (generated_section_names n) ≡ n + 3
unfolding generated_section_names
length-section_names n =
    let numbers = length-map-range_with_len numbered_section_name 1 n in
    omega (arith, length-append (map numbered_section_name (range_with_len 1 n)) (codes ".symtab" ∷ codes ".strtab" ∷ codes ".shstrtab" ∷ []))

-- a name in it stands before 2^32
section_place : (n i : ℕ) (name : List ℕ) → n < 100000 → i < n + 3 → get_or (generated_section_names n) i [] ≡ name → place_of name (generated_section_names n) < 2 ^ 32
section_place n i name small below here =
    let count = length-section_names n in
    let t = section_table n small in
    let place = t.places i (omega arith) in
    let through = unclosed-through (generated_section_names n) i (omega arith) in
    let fits = t.small in
    subst (λ (x : List ℕ). place_of x (generated_section_names n) < 2 ^ 32) here (omega arith)

-- the names behind the numbered ones
last_name : (n k : ℕ) → get_or (generated_section_names n) (n + k) [] ≡ get_or (codes ".symtab" ∷ codes ".strtab" ∷ codes ".shstrtab" ∷ []) k []
unfolding generated_section_names
last_name n k =
    let numbers = length-map-range_with_len numbered_section_name 1 n in
    let rest : n + k - n ≡ k = omega arith in
    get_or-append_right (map numbered_section_name (range_with_len 1 n)) (codes ".symtab" ∷ codes ".strtab" ∷ codes ".shstrtab" ∷ []) n (n + k) [] numbers (omega arith)
    ∙ ap (λ (i : ℕ). get_or (codes ".symtab" ∷ codes ".strtab" ∷ codes ".shstrtab" ∷ []) i []) rest

numbered_name_at : (n i : ℕ) → 1 ≤ i → i ≤ n → get_or (generated_section_names n) (i - 1) [] ≡ numbered_section_name i
unfolding generated_section_names
numbered_name_at n i from upto =
    let numbers = length-map-range_with_len numbered_section_name 1 n in
    get_or_append_left (map numbered_section_name (range_with_len 1 n)) (codes ".symtab" ∷ codes ".strtab" ∷ codes ".shstrtab" ∷ []) [] (i - 1) (omega arith)
    ∙ get_or-map-range_with_len numbered_section_name 1 n (i - 1) i [] (omega arith) (omega arith)

-- the places of all names
pub record ArePlaces (n : ℕ) : Type 0 where
  pub numbered : (i : ℕ) → 1 ≤ i → i ≤ n → place_of (numbered_section_name i) (generated_section_names n) < 2 ^ 32
  pub symtab : place_of (codes ".symtab") (generated_section_names n) < 2 ^ 32
  pub strtab : place_of (codes ".strtab") (generated_section_names n) < 2 ^ 32
  pub shstrtab : place_of (codes ".shstrtab") (generated_section_names n) < 2 ^ 32

pub section_name_places : (n : ℕ) → n < 100000 → ArePlaces n
section_name_places n small = record {
  numbered = λ i from upto. section_place n (i - 1) (numbered_section_name i) small (omega arith) (numbered_name_at n i from upto);
  symtab = section_place n (n + 0) (codes ".symtab") small (omega arith) (last_name n 0);
  strtab = section_place n (n + 1) (codes ".strtab") small (omega arith) (last_name n 1);
  shstrtab = section_place n (n + 2) (codes ".shstrtab") small (omega arith) (last_name n 2);
}
