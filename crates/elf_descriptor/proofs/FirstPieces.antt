-- The first pieces of a section, as the plain object says them.
use Rattle.std.proofs.Common.{◌≡◌, ◌∙◌, ℕ, ◌<◌, ◌≤◌, Bool, true, false, List, length, take, Option, None, refl, sym, ap, subst}
use Rattle.std.specs.Prelude.{nat_lt}
use Rattle.std.specs.List.{list_all}
use Rattle.std.proofs.lemmas.Bool.{ltb-true, ltb-false}
use Rattle.std.proofs.lemmas.List.{take-map}
use Rattle.elf_types.specs.declared.records.Kind.TheVariants as kinds
use Rattle.section_table.specs.elf_object.Blocks.{stacked, last_end}
use Rattle.section_table.specs.elf_object.Object.{Section, Piece}
use Rattle.section_table.specs.elf_object.Answers.{no_section, piece_count, same_kind}
use Rattle.section_table.specs.elf_object.Joined.{piece_bytes, aligned_pieces}
use Rattle.section_table.specs.elf_object.Strings.{kind_of_piece}
use Rattle.section_table.specs.section_data.Sizes.{stacked_end}
use Rattle.section_table.specs.section_data.Spans.{AreFirstIn}
use Rattle.section_table.proofs.section_data.Sizes.{end_is}
use Rattle.elf_descriptor.specs.declared.body.Body.{Body}
use Rattle.elf_descriptor.specs.Views.{object_of, section_of, raw_of, scn_at}
use Rattle.elf_descriptor.specs.Sound.{IsElf}
use Rattle.elf_descriptor.specs.FirstPieces.{AreFirst}
use Rattle.elf_descriptor.proofs.Objects.{section_is, no_section_is}
use Rattle.elf_descriptor.proofs.RawCalls.{scn_missing}
use Rattle.elf_descriptor.proofs.Sizes.{home_length}

-- a section that no refusal misses is there
pub section_there : (image : Option (List ℕ)) (size : ℕ) (b : Body) (s : ℕ)
    → no_section (object_of image size b) s ≡ None → s < length b.sections
section_there image size b s known = by_range (nat_lt s (length b.sections)) refl
  where
    by_range : (t : Bool) → nat_lt s (length b.sections) ≡ t → s < length b.sections
    by_range true e = ltb-true s (length b.sections) e
    by_range false e =
        let missing =
        sym (no_section_is image size b s ∙ scn_missing b s (ltb-false s (length b.sections) e))
        ∙ known in
        cc

module _ (image : Option (List ℕ)) (size : ℕ) (b : Body) (s count end : ℕ) (is : IsElf image size b)
    (there : s < length b.sections) (first : AreFirstIn (scn_at b s).cell count end) where
  abbrev form : Piece → ℕ × List ℕ
  form p = (p.align, piece_bytes b.header.class b.header.order (raw_of image (scn_at b s).cell) p)

  abbrev pieces : List Piece
  pieces = (scn_at b s).cell.pieces

  ends_at : last_end 0
      (stacked 0
      (take count (aligned_pieces b.header.class b.header.order (section_of image (scn_at b s)))))
      ≡ end
  unfolding aligned_pieces section_of
  ends_at =
      ap (λ (l : List (ℕ × List ℕ)). last_end 0 (stacked 0 l)) (take-map form count pieces)
      ∙ end_is b.header.class b.header.order (raw_of image (scn_at b s).cell) 0 (take count pieces)
      ∙ ap (λ (n : ℕ). stacked_end b.header.class n 0 (take count pieces))
      (home_length image size b s is there)
      ∙ first.ends b.header.class

  pub first_is : AreFirst (object_of image size b) s count end
  unfolding object_of section_of piece_count
  first_is = record {
    few =
        subst (λ (c : Section). count ≤ length c.pieces) (sym (section_is image size b s))
        first.few;
    bytes =
        ap (λ (c : Section).
        list_all (λ p. same_kind (kind_of_piece c p) kinds.Bytes) (take count c.pieces))
        (section_is image size b s)
        ∙ first.bytes;
    ends =
        ap (λ (c : Section).
        last_end 0 (stacked 0 (take count (aligned_pieces b.header.class b.header.order c))))
        (section_is image size b s)
        ∙ ends_at;
  }
