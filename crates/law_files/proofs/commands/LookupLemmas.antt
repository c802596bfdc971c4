-- What is shown of the self test's image: the sum of the values, and what the lookup finds.
use Rattle.std.proofs.Common.{◌≡◌, ℕ, zero, suc, ◌+◌, ◌-◌, ◌*◌, ◌<◌, ◌≤◌, Bool, true, false, cond, List, length, get_or, Option, Some, None, Result, Ok, refl, sym, ap, ◌∙◌, arith, ⊎_elim}
use Rattle.std.specs.Prelude.{map, ◌==◌, nat_lt}
use Rattle.std.specs.List.{range_with_len, enumerate_from, sum, sum_by, position, position_or_len}
use Rattle.std.proofs.lemmas.Bool.{ne_eqb, lt-ltb, cases_lt}
use Rattle.std.proofs.lemmas.List.Sums.{sum_by-cons, position_or_len_is}
use Rattle.std.proofs.lemmas.List.{length-map, get_or-map}
use Rattle.std.proofs.lemmas.List.FromFn.{length-map-range_with_len, get_or-map-range_with_len, get_or-enumerate_from, length-enumerate_from}
use Rattle.elf_types.specs.Answers.{answered}
use Rattle.elf_types.specs.declared.errors.ElfError.{ElfError}
use Rattle.elf_types.specs.declared.records.Sym.{Sym}
use Rattle.elf_xlate.specs.declared.content.Items.{Items}
use Rattle.elfkit_outcomes.specs.elf_object.Object.{Object}
use Rattle.elfkit_outcomes.specs.elf_object.Answers.{syms_of}
use Rattle.elfkit_outcomes.specs.elf_object.Image.{image}
use Rattle.elfkit_outcomes.specs.elf_object.Runs.{more_sym}
use Rattle.elfkit_outcomes.specs.elf_object.Strings.{is_name, readable, symbol_name as name_of_symbol}
use Rattle.strtab_build.proofs.DistinctLemmas.{other_sym, same_refl}
use Rattle.elfkit_outcomes.specs.rebuild_model.Generated.{zero_sym, generated_sym, symbols_in, five_lines, told_lines}
use Rattle.elfkit_outcomes.specs.hash_model.Listed.{listed_name, listed_names, find_linear_answer}
use Rattle.law_files.specs.Commands.SelftestSizes.{triangle, selftest_sum, selftest_bytes, selftest_lines}
use Rattle.law_files.proofs.commands.NumberLemmas.{sum_to, sum_to-next, triangle-next}
use Rattle.law_files.proofs.commands.NameLemmas.{numbered_symbol_name, symbol_names_are}
use Rattle.law_files.proofs.commands.GeneratedObject.{generated_symbols, shifted_symbols, shifted_object}
use Rattle.law_files.proofs.commands.GeneratedAgain.{IsReopened}

-- ---- The sum of the values

value_of : (n i : ℕ) → i ≤ n → n ≤ 60000 → (more_sym n (generated_sym n i)).value ≡ 3 * i + n
unfolding generated_sym
value_of n i below small = omega arith

values_from : (n a m : ℕ) → a + m ≤ n + 1 → n ≤ 60000
    → sum (map (λ x. x.value) (map (more_sym n) (map (generated_sym n) (range_with_len a m)))) ≡ sum_by (λ i. 3 * i + n) (map (λ i. i) (range_with_len a m))
values_from n a zero below small = refl
values_from n a (suc m) below small =
    let left = sum_by-cons (λ x. x) (more_sym n (generated_sym n a)).value (map (λ x. x.value) (map (more_sym n) (map (generated_sym n) (range_with_len (a + 1) m)))) in
    let right = sum_by-cons (λ i. 3 * i + n) a (map (λ i. i) (range_with_len (a + 1) m)) in
    let here = value_of n a (omega arith) small in
    let rest = values_from n (a + 1) m (omega arith) small in
    omega (arith, left, right, here, rest)

closed : (n m : ℕ) → sum_to (λ i. 3 * i + n) m ≡ 3 * triangle m + m * n
unfolding triangle
closed n zero = omega arith
closed n (suc m) =
    let one : m + 1 ≡ suc m = omega arith in
    let next = ap (sum_to (λ i. 3 * i + n)) (sym one) ∙ sum_to-next (λ i. 3 * i + n) m in
    let more = ap triangle (sym one) ∙ triangle-next m in
    omega (arith, next, more, closed n m)

pub sum_is : (n : ℕ) → n ≤ 60000 → sum (map (λ x. x.value) (shifted_symbols n)) ≡ selftest_sum n
unfolding selftest_sum
sum_is n small =
    let all = sum_by-cons (λ x. x) (more_sym n zero_sym).value (map (λ x. x.value) (map (more_sym n) (map (generated_sym n) (range_with_len 1 n)))) in
    let first : (more_sym n zero_sym).value ≡ n = omega arith in
    let others = values_from n 1 n (omega arith) small ∙ closed n n in
    omega (arith, all, first, others)

-- ---- The lookup

module _ (n : ℕ) (o : Object) (from : 1 ≤ n) (small : n ≤ 60000) (is : IsReopened n o) where
  symbol_at : (k : ℕ) → 1 ≤ k → k ≤ n → get_or (shifted_symbols n) k zero_sym ≡ more_sym n (generated_sym n k)
  symbol_at k a b =
      let numbered = length-map-range_with_len (generated_sym n) 1 n in
      let next : suc (k - 1) ≡ k = omega arith in
      ap (λ (i : ℕ). get_or (shifted_symbols n) i zero_sym) (sym next)
      ∙ get_or-map (more_sym n) (map (generated_sym n) (range_with_len 1 n)) (k - 1) zero_sym zero_sym (omega arith)
      ∙ ap (more_sym n) (get_or-map-range_with_len (generated_sym n) 1 n (k - 1) k zero_sym (omega arith) (omega arith))

  count : length (shifted_symbols n) ≡ n + 1
  count =
      let numbered = length-map-range_with_len (generated_sym n) 1 n in
      omega (arith, length-map (generated_symbols n) (more_sym n))

  abbrev listed : List (Option (List ℕ))
  listed = map (λ row. listed_name o (n + 1) row.0 row.1) (enumerate_from 0 (shifted_symbols n))

  listed_are : listed_names o (n + 1) ≡ listed
  unfolding listed_names
  listed_are = ap (λ (l : Items). map (λ row. listed_name o (n + 1) row.0 row.1) (enumerate_from 0 (syms_of l))) is.items

  length-listed : length listed ≡ n + 1
  length-listed =
      length-map (enumerate_from 0 (shifted_symbols n)) (λ (row : ℕ × Sym). listed_name o (n + 1) row.0 row.1) ∙ length-enumerate_from 0 (shifted_symbols n) ∙ count

  listed_at : (k : ℕ) (x : Sym) → k ≤ n → get_or (shifted_symbols n) k zero_sym ≡ x → get_or listed k None ≡ listed_name o (n + 1) k x
  listed_at k x below at =
      let many = length-enumerate_from 0 (shifted_symbols n) in
      let number : 0 + k ≡ k = omega arith in
      get_or-map (λ (row : ℕ × Sym). listed_name o (n + 1) row.0 row.1) (enumerate_from 0 (shifted_symbols n)) k (0, zero_sym) None (omega (arith, count))
      ∙ ap (λ (row : ℕ × Sym). listed_name o (n + 1) row.0 row.1) (get_or-enumerate_from 0 (shifted_symbols n) k (0, zero_sym) (omega (arith, count)))
      ∙ ap (λ (i : ℕ). listed_name o (n + 1) i (get_or (shifted_symbols n) k zero_sym)) number
      ∙ ap (listed_name o (n + 1) k) at

  first_unlisted : get_or listed 0 None ≡ None
  unfolding listed_name
  first_unlisted = listed_at 0 (more_sym n zero_sym) (omega arith) refl

  name_read : (k : ℕ) → 1 ≤ k → k ≤ n → name_of_symbol o (n + 1) (more_sym n (generated_sym n k)) ≡ Some (numbered_symbol_name k)
  unfolding name_of_symbol generated_sym
  name_read k a b = ap readable (is.names k a b)

  listed_symbol : (k : ℕ) → 1 ≤ k → k ≤ n → get_or listed k None ≡ Some (numbered_symbol_name k)
  unfolding listed_name generated_sym
  listed_symbol k a b =
      let some : (k == 0) ≡ false = ne_eqb k 0 (λ e. omega arith) in
      listed_at k (more_sym n (generated_sym n k)) b (symbol_at k a b) ∙ rw (some, name_read k a b) refl

  passed : (k : ℕ) → k < n → is_name (numbered_symbol_name n) (get_or listed k None) ≡ false
  passed k below = ⊎_elim
      (λ (first : k < 1).
      let zeroth : k ≡ 0 = omega arith in
      ap (λ (i : ℕ). is_name (numbered_symbol_name n) (get_or listed i None)) zeroth ∙ ap (is_name (numbered_symbol_name n)) first_unlisted)
      (λ (later : 1 ≤ k).
      ap (is_name (numbered_symbol_name n)) (listed_symbol k later (omega arith))
      ∙ other_sym (numbered_symbol_name n) (numbered_symbol_name k) (symbol_names_are.apart k n below (omega arith)))
      (cases_lt k 1)

  pub found : find_linear_answer o (n + 1) (numbered_symbol_name n) ≡ Ok (Some n)
  unfolding find_linear_answer
  found =
      let size = length-listed in
      let place = position_or_len_is (is_name (numbered_symbol_name n)) listed n None (omega arith) passed
      (λ below. ap (is_name (numbered_symbol_name n)) (listed_symbol n from (omega arith)) ∙ same_refl (numbered_symbol_name n)) in
      let within : nat_lt (position_or_len (is_name (numbered_symbol_name n)) listed) (length listed) ≡ true = lt-ltb (position_or_len (is_name (numbered_symbol_name n)) listed) (length listed) (omega arith) in
      let at : position (is_name (numbered_symbol_name n)) listed ≡ Some n =
      ap (λ (b : Bool). cond b (Some (position_or_len (is_name (numbered_symbol_name n)) listed)) None) within ∙ ap Some place in
      ap (λ (r : Option ElfError). answered r (position (is_name (numbered_symbol_name n)) (listed_names o (n + 1)))) is.lends
      ∙ ap {B = Result (Option ℕ) ElfError} (λ (l : List (Option (List ℕ))). Ok (position (is_name (numbered_symbol_name n)) l)) listed_are
      ∙ ap {B = Result (Option ℕ) ElfError} (λ (x : Option ℕ). Ok x) at

  -- ---- The lines

  symbols_are : symbols_in o n ≡ shifted_symbols n
  unfolding symbols_in
  symbols_are = ap syms_of is.items

  pub told : length (image (shifted_object n)) ≡ selftest_bytes n → told_lines n o ≡ Ok (selftest_lines n)
  unfolding told_lines five_lines selftest_lines
  told size =
      let bytes : length o.base ≡ selftest_bytes n = ap length is.base ∙ size in
      let sections = is.count in
      let counted : length (symbols_in o n) ≡ n + 1 = ap length symbols_are ∙ count in
      let summed : sum (map (λ x. x.value) (symbols_in o n)) ≡ selftest_sum n = ap (λ (l : List Sym). sum (map (λ x. x.value) l)) symbols_are ∙ sum_is n small in
      rw (found, sections, counted, bytes, summed) refl
