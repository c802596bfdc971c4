-- The sections that two halves are joined to, by their headers and bytes.
use Rattle.std.proofs.Common.{◌≡◌, ◌+◌, ◌-◌, ◌≤◌, ℕ, zero, suc, List, ◌∷◌, length, map, Option, Some, None, refl, sym, ap, ◌∙◌, arith}
use Rattle.std.specs.List.{range_with_len}
use Rattle.elf_types.specs.Lists.{AreBytes}
use Rattle.elf_types.specs.declared.records.Shdr.{Shdr}
use Rattle.elf_xlate.specs.declared.content.Items.TheVariants as items
use Rattle.elf_xlate.specs.Translation.{encoded}
use Rattle.elf_object.specs.Object.{Object, Section, section_at, new_section}
use Rattle.elf_object.specs.Layout.{section_numbers}
use Rattle.elf_object.specs.Valid.{IsObject}
use Rattle.law_object.proofs.KeepLaws.{section_at_is}
use Rattle.rebuild_model.specs.Rebuilt.{made_section}
use Rattle.elf_object.specs.Sections.{header_at}
use Rattle.rebuild_model.specs.Split.{counterpart, loaded_header, combined_section, combined_sections}
use Rattle.rebuild_keep.specs.rebuild_making.Making.{sections_by}
use Rattle.rebuild_plan.proofs.law_rebuild.strip.MadeSections.{bytes_encoded}
use Rattle.rebuild_join.proofs.joined.FilledLaws.{combined_some}
use Rattle.rebuild_join.proofs.joined.NextLaws.{section_by, combined_by}
use Rattle.rebuild_join.specs.Keeping.{joined_header, joined_bytes, joined_items}

module _ (a b : Object) where
  -- ---- By the counterpart

  abbrev pub header_found : ℕ → Option ℕ → Shdr
  header_found s found = elim found [
    | None ↦ header_at b s
    | Some t ↦ loaded_header (header_at b s) (header_at a t)
  ]

  abbrev pub bytes_found : ℕ → Option ℕ → List ℕ
  bytes_found s found = elim found [
    | None ↦ (section_at b s).raw
    | Some t ↦ (section_at a t).raw
  ]

  pub header_by : (s : ℕ) (found : Option ℕ) → counterpart a b s ≡ found
      → joined_header a b s ≡ header_found s found
  unfolding joined_header
  header_by s found is = ap (header_found s) is

  pub bytes_by : (s : ℕ) (found : Option ℕ) → counterpart a b s ≡ found
      → joined_bytes a b s ≡ bytes_found s found
  unfolding joined_bytes
  bytes_by s found is = ap (bytes_found s) is

  -- ---- As they are made

  section_made : (s : ℕ) (first : 1 ≤ s)
      → made_section (joined_header a b s) (joined_items a b s) ≡ combined_section a b s
  unfolding joined_header joined_bytes
  section_made s first =
      by (counterpart a b s) ∙ sym (combined_by a b s first (counterpart a b s) refl)
    where
      by : (found : Option ℕ)
          → made_section (header_found s found) (items.Bytes (bytes_found s found))
          ≡ section_by a b s first found
      by None = refl
      by (Some t) = refl

  sections_made : (from n : ℕ) → 1 ≤ from
      → sections_by (joined_header a b) (joined_items a b) (range_with_len from n)
      ≡ map (combined_section a b) (range_with_len from n)
  unfolding sections_by
  sections_made from zero first = refl
  sections_made from (suc n) first =
      ap (λ (c : Section). c ∷ map (λ s. made_section (joined_header a b s) (joined_items a b s))
      (range_with_len (from + 1) n)) (section_made from first)
      ∙ ap (λ (l : List Section). combined_section a b from ∷ l)
      (sections_made (from + 1) n (omega (arith, first)))

  pub some_made : (length b.sections ≡ 0 → ⊥) → combined_sections a b
      ≡ new_section ∷ sections_by (joined_header a b) (joined_items a b) (section_numbers b)
  some_made some =
      sym (combined_some a b (omega (arith, some)))
      ∙ ap (λ (l : List Section). new_section ∷ l)
      (sym (sections_made 1 (length b.sections - 1) (omega arith)))

  -- ---- Their bytes

  module _ (is : IsObject a) (other : IsObject b) where
    are_bytes : (s : ℕ) → AreBytes (joined_bytes a b s)
    unfolding joined_bytes
    are_bytes s = by (counterpart a b s)
      where
        by : (found : Option ℕ) → AreBytes (bytes_found s found)
        by None = (section_at_is b s other).home.bytes
        by (Some t) = (section_at_is a t is).home.bytes

    pub bytes_made : (s : ℕ)
        → joined_bytes a b s ≡ encoded a.header.class a.header.order (joined_items a b s)
    bytes_made s =
        sym (bytes_encoded a.header.class a.header.order (joined_bytes a b s) (are_bytes s))
