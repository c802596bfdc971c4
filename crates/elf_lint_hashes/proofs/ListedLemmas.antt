-- The symbols that a hash section lists, one by one.
use Rattle.std.proofs.Common.{◌≡◌, ◌⊎◌, inl, inr, ℕ, ◌+◌, ◌<◌, ◌≤◌, Bool, true, false, List, [], ◌∷◌, length, drop, get_or, map, Option, Some, None, Ok, refl, sym, ap, ◌∙◌, arith}
use Rattle.std.specs.Prelude.{◌==◌, ◌&&◌, not, slice_get, if◌then◌else◌}
use Rattle.std.specs.List.{enumerate_from, list_all}
use Rattle.std.specs.Option.{option_map}
use Rattle.std.proofs.lemmas.List.{length-map}
use Rattle.std.proofs.lemmas.List.FromFn.{length-enumerate_from, get_or-enumerate_from}
use Rattle.std.proofs.lemmas.Option.{slice_get-map, slice_get-get_or, slice_get_past, slice_get_within, slice_get_cases, get_or_from_slice_get}
use Rattle.elf_types.specs.Answers.{answered}
use Rattle.elf_types.specs.declared.records.Kind.TheVariants as kinds
use Rattle.elf_types.specs.declared.records.Sym.{Sym}
use Rattle.hash_model.specs.elf_object.Object.{Object}
use Rattle.hash_model.specs.elf_object.Answers.{items_at, count_at, lend_refusal, syms_of}
use Rattle.hash_model.specs.elf_object.Strings.{readable, string_answer, symbol_name}
use Rattle.hash_model.specs.elf_object.Sections.{header_at}
use Rattle.hash_model.specs.Listed.{is_defined_global, not_empty, listed_name, listed_names}
use Rattle.tool_objects.proofs.ListCounts.{syms_of_length}
use Rattle.elf_lint_findings.specs.Looking.{section_symbols}
use Rattle.elf_lint_findings.proofs.LentLemmas.{lent_count, symbols_are}
use Rattle.elf_lint_hashes.specs.declared.listed.NameHash.{NameHash}
use Rattle.elf_lint_hashes.specs.Listed.{hash_by, if_there, listed_hash}
use Rattle.elf_lint_hashes.proofs.AllSteps.{all_more, all_fails, all_passed}

-- ---- A list with its indexes

module _ {A : Type 0} (l : List A) (i : ℕ) where
  pub row_there : (x : A) → slice_get l i ≡ Some x → slice_get (enumerate_from 0 l) i ≡ Some (i, x)
  row_there x is =
      let lt = slice_get_within l i x is in
      slice_get-get_or (enumerate_from 0 l) i (0, x) (omega (arith, length-enumerate_from 0 l, lt)) ∙ ap Some (get_or-enumerate_from 0 l i (0, x) lt)
      ∙ ap (λ (k : ℕ). Some (k, get_or l i x)) (let same : 0 + i ≡ i = omega arith in same) ∙ ap (λ (y : A). Some (i, y)) (get_or_from_slice_get l i x x is)

  pub row_missing : slice_get l i ≡ None → slice_get (enumerate_from 0 l) i ≡ None
  row_missing is = by_place (slice_get_cases l i).1
    where
      by_place : ((x : A) × (i < length l) × (slice_get l i ≡ Some x) × (get_or l i x ≡ x)) ⊎ ((length l ≤ i) × (slice_get l i ≡ None)) → slice_get (enumerate_from 0 l) i ≡ None
      by_place (inl (x, lt, there, same)) = let both = sym is ∙ there in cc
      by_place (inr (past, none)) = slice_get_past (enumerate_from 0 l) i (omega (arith, length-enumerate_from 0 l, past))

-- ---- A name that can not be read

pub unread_name : (o : Object) (s i : ℕ) (x : Sym) (by : NameHash)
    → readable (string_answer o (header_at o s).link x.name) ≡ None
    → ◌≡◌ {A = Option ℕ} None (option_map (hash_by by) (listed_name o s i x))
unfolding listed_name symbol_name
unread_name o s i x by none = by_test (not (i == 0) && is_defined_global x)
  where
    by_test : (t : Bool) → ◌≡◌ {A = Option ℕ} None (option_map (hash_by by)
        (if t then not_empty (readable (string_answer o (header_at o s).link x.name)) else None))
    by_test true =
        ap (λ (name : Option (List ℕ)). option_map (hash_by by) (not_empty name)) (sym none)
    by_test false = refl

-- ---- Tests

-- a row of a name passes a test, or is of no name
abbrev pub row_passes : (ℕ → List ℕ → Bool) → ℕ × Option (List ℕ) → Bool
row_passes test row = elim (row.1) [ None ↦ true | Some name ↦ test row.0 name ]

-- a hash passes, or is none
abbrev pub by_hash : (ℕ → ℕ → Bool) → ℕ → Option ℕ → Bool
by_hash test i None = true
by_hash test i (Some hash) = test i hash

-- ---- Names

module _ (o : Object) (s : ℕ) where
  pub names_counted : (n : ℕ) → Ok n ≡ answered (lend_refusal o kinds.Sym s 0) (count_at o s 0) → (lend_refusal o kinds.Sym s 0 ≡ None) × (n ≡ length (listed_names o s))
  unfolding listed_names
  names_counted n is =
      let l = syms_of (items_at o s 0) in
      let count = lent_count o s kinds.Sym syms_of syms_of_length n is in
      (count.0, count.1 ∙ sym (length-map (enumerate_from 0 l) (λ row. listed_name o s row.0 row.1) ∙ length-enumerate_from 0 l))

  module _ (by : NameHash) (i : ℕ) (passed : lend_refusal o kinds.Sym s 0 ≡ None) where
    lent : slice_get (section_symbols o s) i ≡ slice_get (syms_of (items_at o s 0)) i
    lent = ap (λ (l : List Sym). slice_get l i) (symbols_are o s passed)

    abbrev name_of : ℕ × Sym → Option (List ℕ)
    name_of row = listed_name o s row.0 row.1

    name_at : (row : Option (ℕ × Sym)) → slice_get (enumerate_from 0 (syms_of (items_at o s 0))) i ≡ row → slice_get (listed_names o s) i ≡ option_map name_of row
    unfolding listed_names
    name_at row is = slice_get-map name_of (enumerate_from 0 (syms_of (items_at o s 0))) i ∙ ap (option_map name_of) is

    pub listed_at : (x : Sym) → Some x ≡ slice_get (section_symbols o s) i → option_map (hash_by by) (listed_name o s i x) ≡ listed_hash by o s i
    unfolding listed_hash
    listed_at x is =
        ap (λ (g : Option (Option (List ℕ))). option_map (hash_by by) (if_there g))
        (sym (name_at (Some (i, x)) (row_there (syms_of (items_at o s 0)) i x (sym (is ∙ lent)))))

    pub listed_none : None ≡ slice_get (section_symbols o s) i → None ≡ listed_hash by o s i
    unfolding listed_hash
    listed_none is =
        ap (λ (g : Option (Option (List ℕ))). option_map (hash_by by) (if_there g))
        (sym (name_at None (row_missing (syms_of (items_at o s 0)) i (sym (is ∙ lent)))))

  -- ---- A test of each listed name

  -- symbol 0 is not listed
  pub after_first : (test : ℕ → List ℕ → Bool) → list_all (row_passes test) (drop 1 (enumerate_from 0 (listed_names o s))) ≡ list_all (row_passes test) (enumerate_from 0 (listed_names o s))
  unfolding listed_names listed_name
  after_first test = by_list (syms_of (items_at o s 0))
    where
      by_list : (l : List Sym) → list_all (row_passes test) (drop 1 (enumerate_from 0 (map (λ row. listed_name o s row.0 row.1) (enumerate_from 0 l))))
          ≡ list_all (row_passes test) (enumerate_from 0 (map (λ row. listed_name o s row.0 row.1) (enumerate_from 0 l)))
      by_list [] = refl
      by_list (x ∷ xs) = refl

  -- the test of a row is one of the hash of its name
  pub row_is : (by : NameHash) (test : ℕ → ℕ → Bool) (i : ℕ) → i < length (listed_names o s) → (d : ℕ × Option (List ℕ))
      → by_hash test i (listed_hash by o s i) ≡ row_passes (λ (k : ℕ) (name : List ℕ). test k (hash_by by name)) (get_or (enumerate_from 0 (listed_names o s)) i d)
  unfolding listed_hash
  row_is by test i lt d =
      let names = listed_names o s in
      let name = get_or names i d.1 in
      ap (λ (g : Option (Option (List ℕ))). by_hash test i (option_map (hash_by by) (if_there g))) (slice_get-get_or names i d.1 lt)
      ∙ by_name (get_or names i d.1)
      ∙ ap (λ (k : ℕ). row_passes (λ (m : ℕ) (n : List ℕ). test m (hash_by by n)) (k, get_or names i d.1)) (let same : i ≡ 0 + i = omega arith in same)
      ∙ sym (ap (row_passes (λ (m : ℕ) (n : List ℕ). test m (hash_by by n))) (get_or-enumerate_from 0 names i d lt))
    where
      by_name : (name : Option (List ℕ)) → by_hash test i (option_map (hash_by by) name) ≡ row_passes (λ (m : ℕ) (n : List ℕ). test m (hash_by by n)) (i, name)
      by_name None = refl
      by_name (Some name) = refl

  module _ (by : NameHash) (test : ℕ → ℕ → Bool) (i : ℕ) where
    abbrev pub each_passes : List (ℕ × Option (List ℕ)) → Bool
    each_passes rows = list_all (row_passes (λ (k : ℕ) (name : List ℕ). test k (hash_by by name))) rows

    rows_len : length (enumerate_from 0 (listed_names o s)) ≡ length (listed_names o s)
    rows_len = length-enumerate_from 0 (listed_names o s)

    module _ (left : each_passes (drop i (enumerate_from 0 (listed_names o s))) ≡ each_passes (enumerate_from 0 (listed_names o s))) where
      pub each_more : i < length (listed_names o s) → by_hash test i (listed_hash by o s i) ≡ true
          → each_passes (drop (i + 1) (enumerate_from 0 (listed_names o s))) ≡ each_passes (enumerate_from 0 (listed_names o s))
      each_more lt is =
          all_more (row_passes (λ (k : ℕ) (name : List ℕ). test k (hash_by by name))) (enumerate_from 0 (listed_names o s)) i left (0, None) (omega (arith, rows_len, lt)) (sym (row_is by test i lt (0, None)) ∙ is)

      pub each_fails : i < length (listed_names o s) → by_hash test i (listed_hash by o s i) ≡ false → false ≡ each_passes (enumerate_from 0 (listed_names o s))
      each_fails lt is =
          all_fails (row_passes (λ (k : ℕ) (name : List ℕ). test k (hash_by by name))) (enumerate_from 0 (listed_names o s)) i left (0, None) (omega (arith, rows_len, lt)) (sym (row_is by test i lt (0, None)) ∙ is)

      pub each_passed : length (listed_names o s) ≤ i → true ≡ each_passes (enumerate_from 0 (listed_names o s))
      each_passed past = all_passed (row_passes (λ (k : ℕ) (name : List ℕ). test k (hash_by by name))) (enumerate_from 0 (listed_names o s)) i left (omega (arith, rows_len, past))
