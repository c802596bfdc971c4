-- The relocations of a section, and how many symbols there are for them.
use Rattle.std.proofs.Common.{◌≡◌, ◌++◌, ◌+◌, ℕ, Bool, true, false, List, [], ◌∷◌, length, map, Option, Some, None, refl, sym, ap, ◌∙◌}
use Rattle.std.specs.Prelude.{◌&&◌, is_none, if◌then◌else◌}
use Rattle.std.specs.List.{flat_map, enumerate_from}
use Rattle.std.proofs.lemmas.Bool.{ne_eqb, eq-eqb}
use Rattle.std.proofs.lemmas.List.Concat.{flat_map-cons}
use Rattle.elf_types.specs.declared.constants.TheConstants.{SHN_UNDEF, SHT_RELA}
use Rattle.elf_types.specs.declared.records.Kind.TheVariants as kinds
use Rattle.elf_types.specs.declared.records.Rel.{Rel}
use Rattle.elf_types.specs.declared.records.Rela.{Rela}
use Rattle.elf_types.specs.declared.errors.ElfError.{ElfError}
use Rattle.tool_objects.specs.elf_object.Object.{Object}
use Rattle.tool_objects.specs.elf_object.Answers.{items_at, rels_of, relas_of, lend_refusal}
use Rattle.tool_objects.specs.elf_object.Sections.{header_at}
use Rattle.elf_lint_findings.specs.declared.places.Place.TheVariants.{Item}
use Rattle.elf_lint_findings.specs.Findings.{Finding, at_items, finding, found_if}
use Rattle.elf_lint_findings.specs.Looking.{if_lent, is_symbol_table, linked_header, links_to_symbols, section_symbols, rels, relas}
use Rattle.elf_lint_symbols.specs.Relocations.{symbol_numbers, has_relocations, symbol_numbers_of, symbol_bound, passes_bound, is_by_no_symbol, relocations_at}

-- ---- How many symbols there are for them

module _ (o : Object) (s : ℕ) where
  abbrev link : ℕ
  link = (header_at o s).link

  abbrev linked : Option ℕ
  linked = if links_to_symbols o s then Some (length (section_symbols o link)) else None

  pub bound_one : (header_at o s).link ≡ SHN_UNDEF → symbol_bound o s ≡ Some 1
  unfolding symbol_bound
  bound_one is = ap (λ (t : Bool). if t then Some 1 else linked) (eq-eqb link SHN_UNDEF is)

  bound_linked : (link ≡ SHN_UNDEF → ⊥) → symbol_bound o s ≡ linked
  unfolding symbol_bound
  bound_linked is = ap (λ (t : Bool). if t then Some 1 else linked) (ne_eqb link SHN_UNDEF is)

  links_by : (t : Bool) (r : Option ElfError) → is_symbol_table (linked_header o s) ≡ t → lend_refusal o kinds.Sym link 0 ≡ r → links_to_symbols o s ≡ (t && is_none r)
  unfolding links_to_symbols
  links_by t r is lent =
      ap (λ (b : Bool). b && is_none (lend_refusal o kinds.Sym link 0)) is ∙ ap (λ (q : Option ElfError). t && is_none q) lent

  by_links : (t : Bool) → links_to_symbols o s ≡ t → (link ≡ SHN_UNDEF → ⊥) → symbol_bound o s ≡ (if t then Some (length (section_symbols o link)) else None)
  by_links t is not_undef = bound_linked not_undef ∙ ap (λ (b : Bool). if b then Some (length (section_symbols o link)) else None) is

  pub bound_counted : (n : ℕ) → ((header_at o s).link ≡ SHN_UNDEF → ⊥) → is_symbol_table (linked_header o s) ≡ true → lend_refusal o kinds.Sym (header_at o s).link 0 ≡ None
      → n ≡ length (section_symbols o (header_at o s).link) → symbol_bound o s ≡ Some n
  bound_counted n not_undef table passed count = by_links true (links_by true None table passed) not_undef ∙ ap Some (sym count)

  pub bound_no_table : ((header_at o s).link ≡ SHN_UNDEF → ⊥) → is_symbol_table (linked_header o s) ≡ false → symbol_bound o s ≡ None
  bound_no_table not_undef table = by_links false (links_by false (lend_refusal o kinds.Sym link 0) table refl) not_undef

  pub bound_refused : (e : ElfError) → ((header_at o s).link ≡ SHN_UNDEF → ⊥) → is_symbol_table (linked_header o s) ≡ true → lend_refusal o kinds.Sym (header_at o s).link 0 ≡ Some e
      → symbol_bound o s ≡ None
  bound_refused e not_undef table refused = by_links false (links_by true (Some e) table refused) not_undef

  pub not_looked : has_relocations o s ≡ false → symbol_numbers_of o s ≡ []
  unfolding symbol_numbers_of
  not_looked is = ap (λ (t : Bool). if t then symbol_numbers o s else []) is

-- ---- What is found at them

module _ {X : Type 0} (number : ℕ) (text : List ℕ) (s : ℕ) (test : ℕ → ℕ → Bool) (f : X → ℕ) where
  abbrev row : ℕ × ℕ → List Finding
  row r = found_if (test r.0 r.1) (finding number (Item s r.0) text)

  rows_mapped : (xs : List X) (k : ℕ) → flat_map row (enumerate_from k (map f xs)) ≡ flat_map (λ (r : ℕ × X). row (r.0, f r.1)) (enumerate_from k xs)
  rows_mapped [] k = refl
  rows_mapped (x ∷ xs) k =
      flat_map-cons row (k, f x) (enumerate_from (k + 1) (map f xs)) ∙ ap (λ (l : List Finding). row (k, f x) ++ l) (rows_mapped xs (k + 1))
      ∙ sym (flat_map-cons (λ (r : ℕ × X). row (r.0, f r.1)) (k, x) (enumerate_from (k + 1) xs))

  -- the items by their numbers
  pub items_mapped : (xs : List X) → at_items number text s test (map f xs) ≡ at_items number text s (λ i x. test i (f x)) xs
  unfolding at_items
  items_mapped xs = rows_mapped xs 0

  pub no_items : (xs : List X) → xs ≡ [] → at_items number text s test (map f xs) ≡ []
  unfolding at_items
  no_items xs is = ap (λ (l : List X). at_items number text s test (map f l)) is

module _ (number : ℕ) (text : List ℕ) (o : Object) (s : ℕ) (bound : Option ℕ) (looked : has_relocations o s ≡ true) (is : bound ≡ symbol_bound o s) where
  numbers_are : symbol_numbers_of o s ≡ symbol_numbers o s
  unfolding symbol_numbers_of
  numbers_are = ap (λ (t : Bool). if t then symbol_numbers o s else []) looked

  found_in : (ys : List ℕ) → symbol_numbers o s ≡ ys → relocations_at number text o s ≡ at_items number text s (λ i y. passes_bound bound y) ys
  unfolding relocations_at is_by_no_symbol
  found_in ys are =
      ap (at_items number text s (λ i y. passes_bound (symbol_bound o s) y)) (numbers_are ∙ are)
      ∙ ap (λ (b : Option ℕ). at_items number text s (λ i y. passes_bound b y) ys) (sym is)

  abbrev either : Bool → List ℕ
  either t = if t then map (λ (x : Rela). x.sym) (relas o s) else map (λ (x : Rel). x.sym) (rels o s)

  pub relas_found : (header_at o s).stype ≡ SHT_RELA
      → relocations_at number text o s ≡ at_items number text s (λ i y. passes_bound bound y) (map (λ (x : Rela). x.sym) (if_lent (lend_refusal o kinds.Rela s 0) (relas_of (items_at o s 0))))
  unfolding symbol_numbers relas
  relas_found with_addends = found_in (map (λ (x : Rela). x.sym) (relas o s)) (ap either (eq-eqb (header_at o s).stype SHT_RELA with_addends))

  pub rels_found : ((header_at o s).stype ≡ SHT_RELA → ⊥)
      → relocations_at number text o s ≡ at_items number text s (λ i y. passes_bound bound y) (map (λ (x : Rel). x.sym) (if_lent (lend_refusal o kinds.Rel s 0) (rels_of (items_at o s 0))))
  unfolding symbol_numbers rels
  rels_found without = found_in (map (λ (x : Rel). x.sym) (rels o s)) (ap either (ne_eqb (header_at o s).stype SHT_RELA without))

-- none where the rule looks at none
pub none_found : (number : ℕ) (text : List ℕ) (o : Object) (s : ℕ) → symbol_numbers_of o s ≡ [] → relocations_at number text o s ≡ []
unfolding relocations_at at_items
none_found number text o s none = ap (at_items number text s (λ i y. is_by_no_symbol o s y)) none
