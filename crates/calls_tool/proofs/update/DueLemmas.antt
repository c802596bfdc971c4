-- What an update to a sink is due once the places are stored, and once more is loaded.
use Rattle.std.proofs.Common.{◌≡◌, ℕ, ◌+◌, ◌<◌, ◌≤◌, Bool, true, false, ◌&&◌, not, filter, List, [], ◌∷◌, length, None, refl, sym, ap, ◌∙◌, subst, arith, ⊎_elim}
use Rattle.std.specs.Prelude.{if◌then◌else◌, count_by, ◌==◌}
use Rattle.std.specs.List.{range_with_len}
use Rattle.std.proofs.lemmas.Bool.{cases_lt}
use Rattle.std.proofs.lemmas.List.Elements.{filter_agree}
use Rattle.std.proofs.lemmas.List.Sums.{sum_by-cons}
use Rattle.elf_layout.specs.declared.parts.Places.{Places}
use Rattle.elf_object.specs.Blocks.{is_covered}
use Rattle.elf_object.specs.Object.{Object, Section, section_at, has_file_bytes, home_is_clean, is_dirty}
use Rattle.elf_object.specs.Layout.{places_of, placed_section, placed_by, placed}
use Rattle.elf_object.specs.Image.{part_blocks, kept_base}
use Rattle.elf_object.specs.Refusal.{refusal}
use Rattle.elf_object.specs.Due.{is_loaded, home_due, homes_due, is_refused_unread, clean_homes, all_sections, update_to_due}
use Rattle.elf_object.specs.Valid.{IsObject}
use Rattle.law_object.proofs.ImageLaws.{section_at-placed, placed-dirty, placed-clean}
use Rattle.law_object.proofs.StandLaws.{section_count-placed, section_at-past}
use Rattle.law_object.proofs.AgainLaws.{stype-placed}
use Rattle.law_object.proofs.TornLaws.{dirty-placed, placed_stays}
use Rattle.elf_update_plan.proofs.elf_descriptor.ReadsLaws.{dues_stay}

-- ---- A section of the placed object

section_keeps : {A : Type 0} (g : Section → A) (places : Places) (o : Object) (s : ℕ)
    → ((c : Section) → g (placed_section places o s c) ≡ g c)
    → g (section_at (placed_by places o) s) ≡ g (section_at o s)
section_keeps g places o s same = ⊎_elim
    (λ h. ap g (section_at-placed places o s h) ∙ same (section_at o s))
    (λ h. let count = section_count-placed places o in
    ap g (section_at-past (placed_by places o) s (omega arith) ∙ sym (section_at-past o s h)))
    (cases_lt s (length o.sections))

module _ (o : Object) where
  abbrev q : Object
  q = placed_by (places_of o) o

  same_home : (s : ℕ) → (section_at q s).home ≡ (section_at o s).home
  unfolding placed_section
  same_home s = section_keeps (λ c. c.home) (places_of o) o s (λ c. refl)

  same_clean : (s : ℕ) → home_is_clean (section_at q s) ≡ home_is_clean (section_at o s)
  unfolding placed_section home_is_clean
  same_clean s = section_keeps home_is_clean (places_of o) o s (λ c. refl)

  same_bytes : (s : ℕ) → has_file_bytes s (section_at q s) ≡ has_file_bytes s (section_at o s)
  unfolding has_file_bytes
  same_bytes s = rw (stype-placed (places_of o) o s) refl

  same_due : (loaded : List Bool) (s : ℕ) → home_due q loaded s ≡ home_due o loaded s
  unfolding home_due
  same_due loaded s = rw (same_home s) refl

  same_dues : (loaded : List Bool) (l : List ℕ) → homes_due q loaded l ≡ homes_due o loaded l
  unfolding homes_due
  same_dues loaded [] = refl
  same_dues loaded (s ∷ l) =
      let here = same_due loaded s in
      let rest = same_dues loaded l in
      let one = sum_by-cons (home_due q loaded) s l in
      let other = sum_by-cons (home_due o loaded) s l in omega arith

  same_homes : clean_homes q ≡ clean_homes o
  same_homes =
      ap (λ (n : ℕ). filter_by (range_with_len 0 n)) (section_count-placed (places_of o) o)
      ∙ filter_agree (λ s. has_file_bytes s (section_at q s) && home_is_clean (section_at q s))
      (λ s. has_file_bytes s (section_at o s) && home_is_clean (section_at o s))
      (λ s. rw (same_bytes s, same_clean s) refl) (all_sections o)
    where
      filter_by : List ℕ → List ℕ
      filter_by l =
          filter (λ s. has_file_bytes s (section_at q s) && home_is_clean (section_at q s)) l

  same_base : kept_base q ≡ kept_base o
  unfolding kept_base placed_by
  same_base = refl

-- ---- What is due

due_when_dirty : (o : Object) (loaded : List Bool) → is_dirty o ≡ true → refusal o ≡ None
    → update_to_due o loaded ≡ homes_due o loaded (clean_homes o)
    + count_by (λ k. not (is_covered (part_blocks (placed o)) k)) (range_with_len 0 (kept_base o))
unfolding update_to_due
due_when_dirty o loaded dirty passed = rw (dirty, passed) refl

-- how many of so many places no part covers
abbrev rest : Object → ℕ → ℕ
rest x n = count_by (λ k. not (is_covered (part_blocks x) k)) (range_with_len 0 n)

pub due_placed : (o : Object) (loaded : List Bool) → IsObject o → refusal o ≡ None
    → update_to_due (placed o) loaded ≡ update_to_due o loaded
due_placed o loaded ok passed = by_test (is_dirty o) refl
  where
    stays : placed (placed o) ≡ placed o
    stays = (placed_stays o ok passed).0

    by_test : (b : Bool) → is_dirty o ≡ b
        → update_to_due (placed o) loaded ≡ update_to_due o loaded
    by_test false clean = ap (λ (x : Object). update_to_due x loaded) (placed-clean o clean)
    by_test true dirty =
        let is = placed-dirty o dirty in
        let q : Object = placed_by (places_of o) o in
        let again : placed q ≡ placed o = ap placed (sym is) ∙ stays in
        let free : refusal q ≡ None = ap refusal (sym is) ∙ (placed_stays o ok passed).1 in
        ap (λ (x : Object). update_to_due x loaded) is
        ∙ due_when_dirty q loaded (dirty-placed (places_of o) o ∙ dirty) free
        ∙ ap (λ (l : List ℕ). homes_due q loaded l + rest (placed q) (kept_base q)) (same_homes o)
        ∙ ap (λ (n : ℕ). n + rest (placed q) (kept_base q)) (same_dues o loaded (clean_homes o))
        ∙ ap (λ (x : Object). homes_due o loaded (clean_homes o) + rest x (kept_base q)) again
        ∙ ap (λ (n : ℕ). homes_due o loaded (clean_homes o) + rest (placed o) n) (same_base o)
        ∙ sym (due_when_dirty o loaded dirty passed)

-- no more is due than where nothing is loaded
pub update_due_at_first : (o : Object) (loaded : List Bool) → update_to_due o loaded ≤ update_to_due o []
unfolding update_to_due is_loaded
update_due_at_first o loaded = by (is_dirty o) (is_refused_unread (refusal o))
  where
    fewer : homes_due o loaded (clean_homes o) ≤ homes_due o [] (clean_homes o)
    fewer = dues_stay o [] loaded (clean_homes o) (λ i is. let never : false ≡ true = is in cc)

    others : ℕ
    others =
        count_by (λ k. not (is_covered (part_blocks (placed o)) k))
        (range_with_len 0 (kept_base o))

    by : (dirty unread : Bool)
        → (if dirty then (if unread then 0 else homes_due o loaded (clean_homes o) + others)
        else length o.base)
        ≤ (if dirty then (if unread then 0 else homes_due o [] (clean_homes o) + others)
        else length o.base)
    by true true = omega arith
    by true false = let less = fewer in omega arith
    by false unread = omega arith
