-- The sections that are kept, and whether the table of their names has them alone.
use Rattle.std.proofs.Common.{◌≡◌, ◌==◌, ◌&&◌, ◌-◌, ◌<◌, ◌≤◌, ℕ, Bool, true, false, not, List, length, refl, sym, ap, ◌∙◌, arith}
use Rattle.std.specs.Prelude.{nat_lt}
use Rattle.std.specs.List.{list_any}
use Rattle.std.proofs.lemmas.Bool.{ne_eqb, lt-ltb, and_from, and_parts, and_left, ltb-true}
use Rattle.elf_types.specs.declared.constants.TheConstants.{SHT_STRTAB}
use Rattle.rebuild_select.specs.elf_object.Object.{Object, section_at}
use Rattle.rebuild_select.specs.elf_object.Layout.{section_numbers}
use Rattle.rebuild_select.specs.elf_object.Sections.{is_allocated, header_at, is_among}
use Rattle.rebuild_select.specs.rebuild_model.Removed.{linking_to}
use Rattle.rebuild_select.specs.rebuild_model.Followed.{kept_from_1}
use Rattle.rebuild_select.specs.rebuild_model.Rebuilt.{has_names_alone, renews_names}
use Rattle.rebuild_select.specs.Steps.{links_to}
use Rattle.rebuild_select.proofs.SetLaws.{among_filter}
use Rattle.rebuild_numbers.specs.Kept.Kept.{is_left, is_loose_strings}
use Rattle.rebuild_numbers.proofs.kept.RangeLaws.{range_among, any_range, any_filter}

swapped : (a b : Bool) → (a && b) ≡ (b && a)
swapped true true = refl
swapped true false = refl
swapped false true = refl
swapped false false = refl

module _ (o : Object) (removed : List ℕ) where
  pub kept_among : (s : ℕ) → is_among (kept_from_1 o removed) s ≡ is_left o removed s
  unfolding is_among kept_from_1 is_left
  kept_among s =
      among_filter (λ t. not (is_among removed t)) (section_numbers o) s
      ∙ ap (λ (b : Bool). b && not (is_among removed s)) (range_among (length o.sections) s)

  left_below : (s : ℕ) → is_left o removed s ≡ true → s < length o.sections
  unfolding is_left
  left_below s is =
      let there = (and_parts (not (s == 0) && nat_lt s (length o.sections))
      (not (is_among removed s)) is).0 in
      ltb-true s (length o.sections)
      (and_parts (not (s == 0)) (nat_lt s (length o.sections)) there).1

  pub kept_below : (s : ℕ) → is_among (kept_from_1 o removed) s ≡ true → s < length o.sections
  kept_below s is = left_below s (sym (kept_among s) ∙ is)

  -- a section that is there is kept where it is not removed
  left_there : (s : ℕ) → 1 ≤ s → s < length o.sections
      → is_left o removed s ≡ not (is_among removed s)
  unfolding is_left
  left_there s from below =
      ap (λ (b : Bool). b && not (is_among removed s))
      (and_from (not (s == 0)) (nat_lt s (length o.sections))
      (ap not (ne_eqb s 0 (λ none. omega (arith, none)))) (lt-ltb s (length o.sections) below))

  -- ---- The table of the names

  one_links : (target s : ℕ) → 1 ≤ s → s < length o.sections
      → (((header_at o s).link == target) && is_among (kept_from_1 o removed) s)
      ≡ links_to o (λ user. not (is_among removed user)) target s
  unfolding links_to
  one_links target s from below =
      ap (λ (b : Bool). ((header_at o s).link == target) && b)
      (kept_among s ∙ left_there s from below)
      ∙ swapped ((header_at o s).link == target) (not (is_among removed s))

  -- whether a section that is kept links to one
  pub kept_link : (target : ℕ)
      → list_any (is_among (kept_from_1 o removed)) (linking_to o target)
      ≡ list_any (links_to o (λ user. not (is_among removed user)) target) (section_numbers o)
  unfolding linking_to
  kept_link target =
      any_filter (λ s. (header_at o s).link == target) (is_among (kept_from_1 o removed))
      (section_numbers o)
      ∙ any_range (λ s. ((header_at o s).link == target) && is_among (kept_from_1 o removed) s)
      (links_to o (λ user. not (is_among removed user)) target) 1 (length o.sections - 1)
      (λ s from below. one_links target s from (omega arith))

  -- ---- Whether it has them alone

  alone_is : (s : ℕ) → has_names_alone o removed s
      ≡ (is_loose_strings o s
      && not (list_any (links_to o (λ user. not (is_among removed user)) s) (section_numbers o)))
  unfolding has_names_alone is_loose_strings
  alone_is s =
      ap (λ (b : Bool). (header_at o s).stype == SHT_STRTAB
      && not (is_allocated (header_at o s)) && not ((section_at o s).home.out) && not b)
      (kept_link s)

  pub alone_where : (s : ℕ) (linked r : Bool) → is_loose_strings o s ≡ true
      → linked
      ≡ list_any (links_to o (λ user. not (is_among removed user)) s) (section_numbers o)
      → r ≡ not linked → r ≡ has_names_alone o removed s
  alone_where s linked r loose is one =
      one
      ∙ ap not is
      ∙ sym (alone_is s ∙ ap (λ (b : Bool). b
      && not (list_any (links_to o (λ user. not (is_among removed user)) s) (section_numbers o)))
      loose)

  pub alone_not : (s : ℕ) → is_loose_strings o s ≡ false → false ≡ has_names_alone o removed s
  alone_not s loose =
      sym (alone_is s ∙ and_left (is_loose_strings o s)
      (not (list_any (links_to o (λ user. not (is_among removed user)) s) (section_numbers o)))
      loose)

  -- ---- Whether it is made anew

  pub renews_where : (names : ℕ) (r : Bool) → names ≡ o.header.shstrndx
      → is_among (kept_from_1 o removed) names ≡ true → r ≡ has_names_alone o removed names
      → r ≡ renews_names o removed
  unfolding renews_names
  renews_where names r at kept one =
      one
      ∙ sym (ap (λ (b : Bool). b && has_names_alone o removed names) kept)
      ∙ ap (λ (s : ℕ). is_among (kept_from_1 o removed) s && has_names_alone o removed s) at

  pub renews_not : (names : ℕ) → names ≡ o.header.shstrndx
      → is_among (kept_from_1 o removed) names ≡ false → false ≡ renews_names o removed
  unfolding renews_names
  renews_not names at kept =
      sym (ap (λ (b : Bool). b && has_names_alone o removed names) kept)
      ∙ ap (λ (s : ℕ). is_among (kept_from_1 o removed) s && has_names_alone o removed s) at
