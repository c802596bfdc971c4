-- The symbols of a section, and what is found at them.
use Rattle.std.proofs.Common.{◌≡◌, ℕ, Bool, true, false, List, [], ◌∷◌, length, take, Some, Err, refl, sym, ap, ◌∙◌, arith, append-nil}
use Rattle.std.specs.Prelude.{◌&&◌, slice_get, is_none, if◌then◌else◌, codes}
use Rattle.std.proofs.lemmas.List.Concat.{flat_map-cons}
use Rattle.elf_types.specs.declared.records.Kind.TheVariants as kinds
use Rattle.elf_types.specs.declared.records.Sym.{Sym}
use Rattle.elf_types.specs.declared.errors.ElfError.{ElfError}
use Rattle.elf_types.specs.Answers.{answered}
use Rattle.tool_objects.specs.elf_object.Object.{Object}
use Rattle.tool_objects.specs.elf_object.Answers.{count_at, syms_of, lend_refusal}
use Rattle.tool_objects.specs.elf_object.Strings.{string_answer, symbol_name, readable}
use Rattle.tool_objects.specs.elf_object.Sections.{header_at}
use Rattle.elf_lint_findings.specs.declared.places.Place.TheVariants.{Item}
use Rattle.elf_lint_findings.specs.Findings.{at_items, finding, found_if}
use Rattle.elf_lint_findings.specs.Looking.{is_string_table, linked_header, section_symbols}
use Rattle.elf_lint_findings.proofs.LentLemmas.{no_count}
use Rattle.elf_lint_symbols.specs.Symbols.{has_symbols, checked_symbols_of, at_symbols_of, is_used, at_symbol_0, symbol_0_of, has_no_name}

module _ (o : Object) (s : ℕ) where
  -- ---- Those that rules look at

  pub looked_at : has_symbols o s ≡ true → checked_symbols_of o s ≡ section_symbols o s
  unfolding checked_symbols_of
  looked_at is = ap (λ (t : Bool). if t then section_symbols o s else []) is

  pub passed_over : has_symbols o s ≡ false → checked_symbols_of o s ≡ []
  unfolding checked_symbols_of
  passed_over is = ap (λ (t : Bool). if t then section_symbols o s else []) is

  pub refused_none : (e : ElfError) → Err e ≡ answered (lend_refusal o kinds.Sym s 0) (count_at o s 0) → checked_symbols_of o s ≡ []
  unfolding checked_symbols_of section_symbols
  refused_none e is = by_test (has_symbols o s)
    where
      by_test : (t : Bool) → (if t then section_symbols o s else []) ≡ []
      by_test true = no_count o s kinds.Sym syms_of e is
      by_test false = refl

-- ---- What is found at them

module _ (number : ℕ) (text : List ℕ) (test : Object → ℕ → ℕ → Sym → Bool) (o : Object) where
  pub table_found : (s u : ℕ) → u ≡ s → has_symbols o u ≡ true → at_symbols_of number text test o s ≡ at_items number text u (test o u) (section_symbols o u)
  unfolding at_symbols_of
  table_found s u is looked =
      ap (λ (n : ℕ). at_items number text n (test o n) (checked_symbols_of o n)) (sym is) ∙ ap (at_items number text u (test o u)) (looked_at o u looked)

  pub table_none : (s : ℕ) → checked_symbols_of o s ≡ [] → at_symbols_of number text test o s ≡ []
  unfolding at_symbols_of at_items
  table_none s none = ap (at_items number text s (test o s)) none

-- ---- Symbol 0

first_of : (xs : List Sym) (x : Sym) → slice_get xs 0 ≡ Some x → take 1 xs ≡ x ∷ []
first_of [] x is = cc
first_of (y ∷ ys) x is = let same : y ≡ x = cc in ap (λ (z : Sym). z ∷ []) same

none_of : (xs : List Sym) → length xs ≡ 0 → take 1 xs ≡ []
none_of [] is = refl
none_of (y ∷ ys) is = absurd (omega (arith, is))

module _ (s : ℕ) where
  at_one : (x : Sym) → at_items 21 (codes "symbol 0 is in use") s (λ i y. is_used y) (x ∷ []) ≡ found_if (is_used x) (finding 21 (Item s 0) (codes "symbol 0 is in use"))
  unfolding at_items
  at_one x =
      flat_map-cons (λ (row : ℕ × Sym). found_if (is_used row.1) (finding 21 (Item s row.0) (codes "symbol 0 is in use"))) (0, x) []
      ∙ append-nil (found_if (is_used x) (finding 21 (Item s 0) (codes "symbol 0 is in use")))

  pub symbol_0_found : (xs : List Sym) (x : Sym) → slice_get xs 0 ≡ Some x → at_symbol_0 s xs ≡ found_if (is_used x) (finding 21 (Item s 0) (codes "symbol 0 is in use"))
  unfolding at_symbol_0
  symbol_0_found xs x first = ap (at_items 21 (codes "symbol 0 is in use") s (λ i y. is_used y)) (first_of xs x first) ∙ at_one x

  pub symbol_0_none : (xs : List Sym) → length xs ≡ 0 → at_symbol_0 s xs ≡ []
  unfolding at_symbol_0 at_items
  symbol_0_none xs none = ap (at_items 21 (codes "symbol 0 is in use") s (λ i y. is_used y)) (none_of xs none)

pub symbol_0_looked : (o : Object) (s u : ℕ) → u ≡ s → has_symbols o u ≡ true → symbol_0_of o s ≡ at_symbol_0 u (section_symbols o u)
symbol_0_looked o s u is looked = ap (symbol_0_of o) (sym is) ∙ ap (at_symbol_0 u) (looked_at o u looked)

pub symbol_0_passed : (o : Object) (s : ℕ) → checked_symbols_of o s ≡ [] → symbol_0_of o s ≡ []
symbol_0_passed o s none = ap (at_symbol_0 s) none ∙ symbol_0_none s [] refl

-- ---- Names

pub no_name : (o : Object) (s i : ℕ) (x : Sym) (strings at : ℕ) (r : Bool) → is_string_table (linked_header o s) ≡ true → strings ≡ (header_at o s).link → at ≡ x.name
    → r ≡ is_none (readable (string_answer o strings at)) → r ≡ has_no_name o s i x
unfolding has_no_name symbol_name
no_name o s i x strings at r named linked there is =
    is ∙ ap (λ (n : ℕ). is_none (readable (string_answer o n at))) linked ∙ ap (λ (n : ℕ). is_none (readable (string_answer o (header_at o s).link n))) there
    ∙ sym (ap (λ (t : Bool). t && is_none (readable (string_answer o (header_at o s).link x.name))) named)
