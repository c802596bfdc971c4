-- Steps 3 and 5 by the sections to which others link.
use Rattle.std.proofs.Common.{◌≡◌, ◌==◌, ◌&&◌, ◌||◌, ◌<◌, ℕ, suc, Bool, true, false, not, cond, List, [], ◌∷◌, length, refl, sym, ap, ◌∙◌, arith}
use Rattle.std.specs.Prelude.{filter}
use Rattle.std.specs.List.{list_any, list_all}
use Rattle.std.proofs.lemmas.Bool.{ne_eqb}
use Rattle.elf_types.specs.declared.constants.TheConstants.{SHT_SYMTAB, SHT_STRTAB}
use Rattle.rebuild_model.specs.elf_object.Object.{Object}
use Rattle.rebuild_model.specs.elf_object.Layout.{section_numbers}
use Rattle.rebuild_model.specs.elf_object.Due.{all_sections}
use Rattle.rebuild_model.specs.elf_object.Sections.{is_allocated, header_at, is_among}
use Rattle.rebuild_model.specs.Removed.{with_found, needs_symbols, is_unneeded_symtab, linking_to, has_removed_users}
use Rattle.rebuild_select.specs.Steps.{links_to, linked_by}
use Rattle.rebuild_select.specs.Users.{needs_some, is_unneeded_by, is_left_by, AreUsers}
use Rattle.rebuild_select.proofs.SetLaws.{among_filter, among_range}
use Rattle.rebuild_select.proofs.StepLaws.{found_same}

-- whether a section that is there is linked to
among_linked : (o : Object) (passes : ℕ → Bool) (t : ℕ) → t < length o.sections
    → is_among (linked_by o passes) t ≡ list_any (links_to o passes t) (section_numbers o)
unfolding is_among linked_by
among_linked o passes t below =
    among_filter (λ t. list_any (links_to o passes t) (section_numbers o)) (all_sections o) t
    ∙ ap (λ (b : Bool). b && list_any (links_to o passes t) (section_numbers o))
    (among_range 0 (length o.sections) t (omega arith) (omega arith))

-- a step that does not look at what was removed again
pub found_given : (o : Object) (finds : List ℕ → ℕ → Bool) (removed : List ℕ)
    → with_found o (λ before. finds removed) removed ≡ with_found o finds removed
unfolding with_found
found_given o finds removed = refl

-- ---- Step 3

module _ (o : Object) (removed needed : List ℕ) (is : needed ≡ linked_by o (needs_some o removed)) where
  needed_is : (t : ℕ) → t < length o.sections
      → is_among needed t ≡ list_any (needs_symbols o removed t) (section_numbers o)
  unfolding needs_symbols links_to needs_some
  needed_is t below =
      ap (λ (l : List ℕ). is_among l t) is
      ∙ among_linked o (needs_some o removed) t below

  unneeded_is : (s : ℕ) → s < length o.sections
      → is_unneeded_by needed o s ≡ is_unneeded_symtab o removed s
  unfolding is_unneeded_by is_unneeded_symtab
  unneeded_is s below =
      ap (λ (b : Bool). (header_at o s).stype == SHT_SYMTAB
      && not (is_allocated (header_at o s)) && not b) (needed_is s below)

  pub unneeded_same : with_found o (λ before. is_unneeded_by needed o) removed
      ≡ with_found o (is_unneeded_symtab o) removed
  unneeded_same =
      found_same o (is_unneeded_by needed o) (is_unneeded_symtab o removed) removed unneeded_is
      ∙ found_given o (is_unneeded_symtab o) removed

-- ---- Step 5

-- a list has one that passes
some_pass : (p : ℕ → Bool) (l : List ℕ) → not (length (filter p l) == 0) ≡ list_any p l
some_pass p [] = refl
some_pass p (x ∷ l) = by_test (p x) (some_pass p l)
  where
    by_test : (b : Bool) → not (length (filter p l) == 0) ≡ list_any p l
        → not (length (cond b (x ∷ filter p l) (filter p l)) == 0) ≡ (b || list_any p l)
    by_test true later =
        ap not (ne_eqb (suc (length (filter p l))) 0 (λ is. omega (arith, is)))
    by_test false later = later

-- all of those that pass are removed: none passes that is left
none_left : (p q : ℕ → Bool) (l : List ℕ)
    → list_all q (filter p l) ≡ not (list_any (λ x. not (q x) && p x) l)
none_left p q [] = refl
none_left p q (x ∷ l) = by_tests (p x) (q x) refl (none_left p q l)
  where
    by_tests : (b c : Bool) → q x ≡ c
        → list_all q (filter p l) ≡ not (list_any (λ x. not (q x) && p x) l)
        → list_all q (cond b (x ∷ filter p l) (filter p l))
        ≡ not ((not c && b) || list_any (λ x. not (q x) && p x) l)
    by_tests true true is later = ap (λ (t : Bool). t && list_all q (filter p l)) is ∙ later
    by_tests true false is later = ap (λ (t : Bool). t && list_all q (filter p l)) is
    by_tests false true is later = later
    by_tests false false is later = later

module _ (o : Object) (removed any left : List ℕ) (are : AreUsers o removed any left) where
  some_use : (t : ℕ) → t < length o.sections
      → is_among any t ≡ not (length (linking_to o t) == 0)
  unfolding linking_to links_to
  some_use t below =
      ap (λ (l : List ℕ). is_among l t) are.any_is
      ∙ among_linked o (λ s. true) t below
      ∙ sym (some_pass (λ user. (header_at o user).link == t) (section_numbers o))

  none_uses : (t : ℕ) → t < length o.sections
      → not (is_among left t) ≡ list_all (is_among removed) (linking_to o t)
  unfolding linking_to links_to
  none_uses t below =
      ap (λ (l : List ℕ). not (is_among l t)) are.left_is
      ∙ ap not (among_linked o (λ s. not (is_among removed s)) t below)
      ∙ sym (none_left (λ user. (header_at o user).link == t) (is_among removed)
      (section_numbers o))

  left_is_same : (s : ℕ) → s < length o.sections
      → is_left_by any left o s ≡ has_removed_users o removed s
  unfolding is_left_by has_removed_users
  left_is_same s below =
      ap (λ (b : Bool). (header_at o s).stype == SHT_STRTAB
      && not (is_allocated (header_at o s)) && b && not (is_among left s)) (some_use s below)
      ∙ ap (λ (b : Bool). (header_at o s).stype == SHT_STRTAB
      && not (is_allocated (header_at o s)) && not (length (linking_to o s) == 0) && b)
      (none_uses s below)

  pub users_same : with_found o (λ before. is_left_by any left o) removed
      ≡ with_found o (has_removed_users o) removed
  users_same =
      found_same o (is_left_by any left o) (has_removed_users o removed) removed left_is_same
      ∙ found_given o (has_removed_users o) removed
