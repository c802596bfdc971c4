-- The findings of a rule of another number, or at other sections: none of them is of the number at
-- the section.
use Rattle.std.proofs.Common.{◌≡◌, ◌⊎◌, inl, inr, ◌==◌, ℕ, Bool, true, false, List, [], ◌∷◌, Option, Some, None, refl, ap, ◌∙◌}
use Rattle.std.specs.Prelude.{◌||◌}
use Rattle.std.specs.List.{enumerate_from, flat_map, list_any}
use Rattle.std.proofs.lemmas.Bool.{and_left, and_right, cases_eq, ne_eqb}
use Rattle.std.proofs.lemmas.List.Folds.{list_any-append}
use Rattle.elf_types.specs.Text.{error_text}
use Rattle.elf_types.specs.declared.records.Part.{Part}
use Rattle.elf_types.specs.declared.records.Phdr.{Phdr}
use Rattle.elf_types.specs.declared.errors.ElfError.TheVariants.{BadChain}
use Rattle.elf_object.specs.Object.{Object}
use Rattle.elf_object.specs.Due.{all_sections}
use Rattle.elf_lint_findings.specs.declared.places.Place.{Place}
use Rattle.elf_lint_findings.specs.declared.places.Place.TheVariants.{Header, File, Segment, Section, Item}
use Rattle.elf_lint_findings.specs.Findings.{Finding, finding, found_if, at_header, at_segments, at_sections, at_items}
use Rattle.elf_lint_headers.specs.Layout.{overlapping_text, overlap_found}
use Rattle.elf_lint_symbols.specs.Symbols.{SymbolTest, checked_symbols_of, at_symbols_of, at_symbols}
use Rattle.elf_lint_links.specs.Chains.Chains.{chain_found, at_bad_chains}
use Rattle.elf_lint.specs.Reach.{is_section, is_at}

module _ (number h : ℕ) where
  -- no finding of a list is of that number at that section
  abbrev pub HasNone : List Finding → Type 0
  HasNone findings = list_any (is_at number h) findings ≡ false

  -- ---- One finding

  other_number : (k : ℕ) (place : Place) (text : List ℕ) → (k == number) ≡ false
      → is_at number h (finding k place text) ≡ false
  other_number k place text other = and_left (k == number) (is_section h place) other

  other_section : (k s : ℕ) (text : List ℕ) → (s == h) ≡ false
      → is_at number h (finding k (Section s) text) ≡ false
  other_section k s text other = and_right (k == number) (s == h) other

  found_none : (b : Bool) (f : Finding) → is_at number h f ≡ false → HasNone (found_if b f)
  found_none false f none = refl
  found_none true f none = ap (λ (b : Bool). b || false) none

  -- ---- One after the other

  pub each_none : {X : Type 0} (f : X → List Finding) → ((x : X) → HasNone (f x)) → (xs : List X)
      → HasNone (flat_map f xs)
  each_none f none [] = refl
  each_none f none (x ∷ xs) =
      list_any-append (is_at number h) (f x) (flat_map f xs)
      ∙ ap (λ (b : Bool). b || list_any (is_at number h) (flat_map f xs)) (none x)
      ∙ each_none f none xs

  -- ---- The forms of rules, of another number

  module _ (k : ℕ) (other : (k == number) ≡ false) where
    pub header_none : (text : List ℕ) (test : Bool) → HasNone (at_header k text test)
    header_none text test =
        found_none test (finding k Header text) (other_number k Header text other)

    pub segments_none : (text : List ℕ) (test : Phdr → Bool) (segments : List Phdr)
        → HasNone (at_segments k text test segments)
    unfolding at_segments
    segments_none text test segments =
        each_none (λ row. found_if (test row.1) (finding k (Segment row.0) text))
        (λ row. found_none (test row.1) (finding k (Segment row.0) text)
        (other_number k (Segment row.0) text other))
        (enumerate_from 0 segments)

    pub items_none : {X : Type 0} (text : List ℕ) (s : ℕ) (test : ℕ → X → Bool) (items : List X)
        → HasNone (at_items k text s test items)
    unfolding at_items
    items_none text s test items =
        each_none (λ row. found_if (test row.0 row.1) (finding k (Item s row.0) text))
        (λ row. found_none (test row.0 row.1) (finding k (Item s row.0) text)
        (other_number k (Item s row.0) text other))
        (enumerate_from 0 items)

    pub symbols_none : (text : List ℕ) (test : SymbolTest) (o : Object)
        → HasNone (at_symbols k text test o)
    unfolding at_symbols at_symbols_of
    symbols_none text test o =
        each_none (at_symbols_of k text test o)
        (λ s. items_none text s (test o s) (checked_symbols_of o s)) (all_sections o)

    pub chains_none : (bad : ℕ → Option ℕ) (sections : List ℕ)
        → HasNone (at_bad_chains k bad sections)
    unfolding at_bad_chains
    chains_none bad sections =
        each_none (λ s. chain_found k s (bad s)) (λ s. by_place s (bad s)) sections
      where
        by_place : (s : ℕ) (at : Option ℕ) → HasNone (chain_found k s at)
        by_place s None = refl
        by_place s (Some at) =
            ap (λ (b : Bool). b || false)
            (other_number k (Section s) (error_text (BadChain at)) other)

  pub overlap_none : (20 == number) ≡ false → (pair : Option (Part × Part))
      → HasNone (overlap_found pair)
  overlap_none other None = refl
  overlap_none other (Some pair) =
      ap (λ (b : Bool). b || false)
      (other_number 20 File (overlapping_text pair.0 pair.1) other)

  -- ---- The rule of the number, where its test fails at the section, or one of another number

  pub sections_none : (k : ℕ) (text : List ℕ) (test : ℕ → Bool) (sections : List ℕ)
      → (k ≡ number → test h ≡ false) → HasNone (at_sections k text test sections)
  unfolding at_sections
  sections_none k text test sections fails =
      each_none (λ s. found_if (test s) (finding k (Section s) text)) each sections
    where
      none_here : (s : ℕ) → test s ≡ false
          → HasNone (found_if (test s) (finding k (Section s) text))
      none_here s failed =
          ap (λ (b : Bool). list_any (is_at number h) (found_if b (finding k (Section s) text)))
          failed

      by : (s : ℕ) → (k ≡ number) ⊎ (k ≡ number → ⊥) → (s ≡ h) ⊎ (s ≡ h → ⊥)
          → HasNone (found_if (test s) (finding k (Section s) text))
      by s (inl same) (inl here) = none_here s (ap test here ∙ fails same)
      by s (inl same) (inr apart) =
          found_none (test s) (finding k (Section s) text)
          (other_section k s text (ne_eqb s h apart))
      by s (inr differs) at =
          found_none (test s) (finding k (Section s) text)
          (other_number k (Section s) text (ne_eqb k number differs))

      each : (s : ℕ) → HasNone (found_if (test s) (finding k (Section s) text))
      each s = by s (cases_eq k number) (cases_eq s h)
