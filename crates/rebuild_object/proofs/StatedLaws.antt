-- Sections that are stated of numbers.
use Rattle.std.proofs.Common.{◌≡◌, ℕ, ◌+◌, ◌-◌, ◌<◌, ◌≤◌, zero, suc, List, [], ◌∷◌, ◌++◌, length, map, get_or, refl, sym, ap, ◌∙◌, arith}
use Rattle.std.specs.List.{range_with_len}
use Rattle.std.proofs.lemmas.List.{length-map}
use Rattle.std.proofs.lemmas.List.FromFn.{get_or-map-range_with_len, map-range_with_len_more}
use Rattle.elf_types.specs.declared.records.Shdr.{Shdr}
use Rattle.elf_xlate.specs.declared.content.Items.{Items}
use Rattle.elf_object.specs.Object.{Section, absent_section}
use Rattle.rebuild_model.specs.Rebuilt.{made_section}
use Rattle.rebuild_plan.specs.rebuild_making.Making.{sections_by}

module _ (header : ℕ → Shdr) (items : ℕ → Items) where
  stated_more : (n : ℕ) → sections_by header items (range_with_len 1 (n + 1))
      ≡ sections_by header items (range_with_len 1 n)
      ++ sections_by header items ((1 + n) ∷ [])
  unfolding sections_by
  stated_more n =
      map-range_with_len_more (λ s. made_section (header s) (items s)) 1 n (1 + n) refl

  pub stated_one : (s : ℕ)
      → sections_by header items (s ∷ []) ≡ made_section (header s) (items s) ∷ []
  unfolding sections_by
  stated_one s = refl

  pub stated_none : sections_by header items [] ≡ []
  unfolding sections_by
  stated_none = refl

  pub stated_long : (numbers : List ℕ)
      → length (sections_by header items numbers) ≡ length numbers
  unfolding sections_by
  stated_long numbers = length-map numbers (λ s. made_section (header s) (items s))

  -- those before a number, and with it
  numbers_more : (s : ℕ) → 1 ≤ s → range_with_len 1 (s - 1 + 1) ≡ range_with_len 1 s
  numbers_more s some = ap (range_with_len 1) (omega (arith, some))

  next_number : (s : ℕ) → 1 ≤ s → 1 + (s - 1) ≡ s
  next_number s some = omega (arith, some)

  pub stated_next : (s : ℕ) → 1 ≤ s
      → sections_by header items (range_with_len 1 (s - 1)) ++ sections_by header items (s ∷ [])
      ≡ sections_by header items (range_with_len 1 s)
  stated_next s some =
      ap (λ (n : ℕ). sections_by header items (range_with_len 1 (s - 1))
      ++ sections_by header items (n ∷ [])) (sym (next_number s some))
      ∙ sym (stated_more (s - 1))
      ∙ ap (sections_by header items) (numbers_more s some)

  -- the one at a place
  pub stated_at : (n j : ℕ) → j < n → 1 + j ≡ suc j
      → get_or (sections_by header items (range_with_len 1 n)) j absent_section
      ≡ made_section (header (suc j)) (items (suc j))
  unfolding sections_by
  stated_at n j low next =
      get_or-map-range_with_len (λ s. made_section (header s) (items s)) 1 n j (suc j)
      absent_section low next

-- where the items of the numbers are the same, so are the sections
map_alike : (f g : ℕ → Section) (a n : ℕ) → ((i : ℕ) → a ≤ i → i < a + n → f i ≡ g i)
    → map f (range_with_len a n) ≡ map g (range_with_len a n)
map_alike f g a zero same = refl
map_alike f g a (suc n) same =
    ap (λ (c : Section). c ∷ map f (range_with_len (a + 1) n)) (same a (omega arith) (omega arith))
    ∙ ap (λ (l : List Section). g a ∷ l) (map_alike f g (a + 1) n
    (λ i low high. same i (omega (arith, low)) (omega (arith, high))))

pub stated_alike : (header : ℕ → Shdr) (f g : ℕ → Items) (n : ℕ)
    → ((i : ℕ) → i < 1 + n → f i ≡ g i)
    → sections_by header f (range_with_len 1 n) ≡ sections_by header g (range_with_len 1 n)
unfolding sections_by
stated_alike header f g n same =
    map_alike (λ s. made_section (header s) (f s)) (λ s. made_section (header s) (g s)) 1 n
    (λ i low high. ap (made_section (header i)) (same i high))
