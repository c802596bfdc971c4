-- Symbols at which no rule finds anything, by one look at each.
use Rattle.std.proofs.Common.{◌≡◌, ℕ, suc, ◌+◌, ◌++◌, ◌<◌, ◌==◌, ◌&&◌, ◌||◌, not, Bool, true, false, List, [], ◌∷◌, length, get_or, map, Option, IfSome, refl, sym, ap, ◌∙◌, arith}
use Rattle.std.specs.Prelude.{if◌then◌else◌, codes, is_some}
use Rattle.std.specs.List.{flat_map, range_with_len}
use Rattle.std.proofs.lemmas.List.Concat.{flat_map-cons}
use Rattle.std.proofs.lemmas.List.FromFn.{length-range_with_len, get_or-range_with_len}
use Rattle.elf_types.specs.declared.records.Sym.{Sym}
use Rattle.tool_objects.specs.elf_object.Object.{Object}
use Rattle.tool_objects.specs.elf_object.Sections.{header_at}
use Rattle.tool_objects.specs.AtHand.Items.{passing, passing_from}
use Rattle.tool_objects.specs.AtHand.Strings.{EndsAt}
use Rattle.elf_lint_findings.specs.declared.places.Place.TheVariants.{Item}
use Rattle.elf_lint_findings.specs.Findings.{at_items, finding, found_if}
use Rattle.elf_lint_findings.specs.Looking.{is_plain, is_symbol_table, section_symbols}
use Rattle.elf_lint_symbols.specs.declared.by_symbol.CheckedSymbolTable.{CheckedSymbolTable}
use Rattle.elf_lint_symbols.specs.Symbols.{SymbolTest, has_symbols, checked_symbols_of, at_symbols_of, at_symbols, is_used, at_symbol_0, symbol_0_of, symbol_0_in_use, has_no_name, unreadable_symbol_names, is_late_local, local_symbols_among_the_others, is_early_other, other_symbols_among_the_local, is_of_no_section, symbols_of_no_section, IsCheckedSymbolTable, FindsNone, AreSoundSymbols, AllSymbolsSound}
use Rattle.elf_lint_symbols.specs.Tests.{Agrees, Telling, TestOfTable, tells_names, tells_all, lacks_name, lacks_section, is_in_use, is_behind_others, is_before_others, some_holds, names_agree, locals_agree, others_agree, sections_agree}
use Rattle.elf_lint_symbols.proofs.ScanLemmas.{found_at, items_passing, same_tests}
use Rattle.elf_lint_symbols.proofs.TableLemmas.{passed_over, symbol_0_found, symbol_0_looked, symbol_0_none, symbol_0_passed, table_found, table_none}

-- ---- Of a list, and of the first numbers

-- where nothing is made of any item, nothing is made of all
none_in : {X A : Type 0} (f : X → List A) (xs : List X) (d : X)
    → ((i : ℕ) → i < length xs → f (get_or xs i d) ≡ []) → flat_map f xs ≡ []
none_in f [] d none = refl
none_in {X} {A} f (x ∷ xs) d none =
    flat_map-cons f x xs ∙ ap (λ (l : List A). l ++ flat_map f xs) (none 0 (omega arith))
    ∙ none_in f xs d (λ i below. none (suc i) (omega (arith, below)))

pub none_below : {A : Type 0} (f : ℕ → List A) (n : ℕ) → ((s : ℕ) → s < n → f s ≡ [])
    → flat_map f (range_with_len 0 n) ≡ []
none_below f n none = none_in f (range_with_len 0 n) 0 at
  where
    at : (i : ℕ) → i < length (range_with_len 0 n) → f (get_or (range_with_len 0 n) i 0) ≡ []
    at i below =
        let lt : i < n = omega (arith, below, length-range_with_len 0 n) in
        let first : 0 + i ≡ i = omega arith in
        ap f (get_or-range_with_len 0 n i 0 lt ∙ first) ∙ none i lt

-- ---- Tests

pub either : (a b : Bool) → (a || b) ≡ false → (a ≡ false) × (b ≡ false)
either true b is = cc
either false b is = (refl, is)

pub second_fails : (a b : Bool) → b ≡ false → (a && b) ≡ false
second_fails true b is = is
second_fails false b is = refl

-- no item passes, so the first does not, nor any other
head_fails : (b : Bool) (i : ℕ) (l : List ℕ) → (if b then i ∷ l else l) ≡ []
    → (b ≡ false) × (l ≡ [])
head_fails true i l is = cc
head_fails false i l is = (refl, is)

-- where a test fails that holds wherever another does, that finds nothing
module _ {X : Type 0} (test f : ℕ → X → Bool)
    (within : (i : ℕ) (x : X) → test i x ≡ false → f i x ≡ false) where
  none_pass : (i : ℕ) (xs : List X) → passing test i xs ≡ [] → passing f i xs ≡ []
  none_pass i [] is = refl
  none_pass i (x ∷ xs) is =
      let p = head_fails (test i x) i (passing test (i + 1) xs) is in
      ap (λ (b : Bool). if b then i ∷ passing f (i + 1) xs else passing f (i + 1) xs)
      (within i x p.0)
      ∙ none_pass (i + 1) xs p.1

  none_found : (number : ℕ) (text : List ℕ) (s : ℕ) (xs : List X) → passing_from test xs 0 ≡ []
      → at_items number text s f xs ≡ []
  none_found number text s xs is =
      items_passing number text s f xs
      ∙ ap (map (found_at number text s)) (none_pass 0 xs is)

-- ---- The tests of the rules

module _ (t : CheckedSymbolTable) (end : Option ℕ) (i : ℕ) (x : Sym)
    (fails : some_holds t end i x ≡ false) where
  abbrev of_names : (lacks_name t end i x ≡ false) × ((lacks_section t end i x || (is_in_use t end i x || (is_behind_others t end i x || is_before_others t end i x))) ≡ false)
  of_names = either (lacks_name t end i x) (lacks_section t end i x || (is_in_use t end i x || (is_behind_others t end i x || is_before_others t end i x))) fails

  abbrev of_sections : (lacks_section t end i x ≡ false) × ((is_in_use t end i x || (is_behind_others t end i x || is_before_others t end i x)) ≡ false)
  of_sections = either (lacks_section t end i x) (is_in_use t end i x || (is_behind_others t end i x || is_before_others t end i x)) of_names.1

  abbrev of_first : (is_in_use t end i x ≡ false) × ((is_behind_others t end i x || is_before_others t end i x) ≡ false)
  of_first = either (is_in_use t end i x) (is_behind_others t end i x || is_before_others t end i x) of_sections.1

  abbrev of_locals : (is_behind_others t end i x ≡ false) × (is_before_others t end i x ≡ false)
  of_locals = either (is_behind_others t end i x) (is_before_others t end i x) of_first.1

-- ---- A table

module _ (o : Object) (t : CheckedSymbolTable) (end : Option ℕ) (table : IsCheckedSymbolTable o t)
    (ends : IfSome end (EndsAt o t.strings.0)) (told : tells_names t end ≡ true) (xs : List Sym)
    (are : section_symbols o t.section.0 ≡ xs)
    (none : passing_from (some_holds t end) xs 0 ≡ []) where
  finds_none : (finds : SymbolTest) (tells : Telling) (holds : TestOfTable)
      → Agrees finds tells holds → tells t end ≡ true
      → ((i : ℕ) (x : Sym) → some_holds t end i x ≡ false → holds t end i x ≡ false)
      → FindsNone finds o t.section.0
  finds_none finds tells holds agrees known within number text =
      let s = t.section.0 in
      table_found number text finds o s s refl table.looked
      ∙ ap (at_items number text s (finds o s)) are
      ∙ sym (same_tests number text s (holds t end) (finds o s)
      (agrees o t end table ends known) xs)
      ∙ none_found (some_holds t end) (holds t end) within number text s xs none

  first_none : symbol_0_of o t.section.0 ≡ []
  first_none =
      symbol_0_looked o t.section.0 t.section.0 refl table.looked
      ∙ ap (at_symbol_0 t.section.0) are ∙ at_first xs none
    where
      at_first : (l : List Sym) → passing_from (some_holds t end) l 0 ≡ []
          → at_symbol_0 t.section.0 l ≡ []
      at_first [] is = symbol_0_none t.section.0 [] refl
      at_first (x ∷ l) is =
          let p = head_fails (some_holds t end 0 x) 0 (passing (some_holds t end) 1 l) is in
          symbol_0_found t.section.0 (x ∷ l) x refl
          ∙ ap
          (λ (b : Bool). found_if b (finding 21 (Item t.section.0 0) (codes "symbol 0 is in use")))
          (of_first t end 0 x p.0).0

  pub are_sound : AreSoundSymbols o t.section.0
  are_sound = record {
    first = first_none;
    names = finds_none has_no_name tells_names lacks_name names_agree told
        (λ i x fails. (of_names t end i x fails).0);
    late = finds_none is_late_local tells_all is_behind_others locals_agree refl
        (λ i x fails. (of_locals t end i x fails).0);
    early = finds_none is_early_other tells_all is_before_others others_agree refl
        (λ i x fails. (of_locals t end i x fails).1);
    sections = finds_none is_of_no_section tells_all lacks_section sections_agree refl
        (λ i x fails. (of_sections t end i x fails).0);
  }

-- ---- Sections

-- without symbols that rules look at
pub none_are_sound : (o : Object) (s : ℕ) → checked_symbols_of o s ≡ [] → AreSoundSymbols o s
none_are_sound o s none = record {
  first = symbol_0_passed o s none;
  names = λ number text. table_none number text has_no_name o s none;
  late = λ number text. table_none number text is_late_local o s none;
  early = λ number text. table_none number text is_early_other o s none;
  sections = λ number text. table_none number text is_of_no_section o s none;
}

-- all of them
pub all_sound : (o : Object) → ((s : ℕ) → s < length o.sections → AreSoundSymbols o s)
    → AllSymbolsSound o
unfolding symbol_0_in_use unreadable_symbol_names local_symbols_among_the_others other_symbols_among_the_local symbols_of_no_section at_symbols
all_sound o each =
    let n = length o.sections in record {
      first = none_below (symbol_0_of o) n (λ s lt. (each s lt).first);
      names = none_below (at_symbols_of 22 (codes "name cannot be read") has_no_name o) n
          (λ s lt. (each s lt).names 22 (codes "name cannot be read"));
      late = none_below (at_symbols_of 23 (codes "local symbol among the others") is_late_local o) n
          (λ s lt. (each s lt).late 23 (codes "local symbol among the others"));
      early = none_below (at_symbols_of 24 (codes "symbol among the local ones") is_early_other o) n
          (λ s lt. (each s lt).early 24 (codes "symbol among the local ones"));
      sections = none_below (at_symbols_of 25 (codes "symbol of no section") is_of_no_section o) n
          (λ s lt. (each s lt).sections 25 (codes "symbol of no section"));
    }

-- where none is a symbol table
pub no_tables : (o : Object) → ((s : ℕ) → s < length o.sections → is_symbol_table (header_at o s) ≡ false) → AllSymbolsSound o
unfolding has_symbols
no_tables o none =
    all_sound o (λ s lt. none_are_sound o s
    (passed_over o s (second_fails (is_plain o s) (is_symbol_table (header_at o s)) (none s lt))))
