-- The bytes of a part of one piece, and of a section.
use Rattle.std.proofs.Common.{◌≡◌, ℕ, ◌+◌, ◌-◌, Bool, true, false, List, [], ◌∷◌, ◌++◌, length, refl, sym, ap, ◌∙◌, arith}
use Rattle.std.proofs.Math.ListN.{replicate}
use Rattle.std.specs.Prelude.{if◌then◌else◌}
use Rattle.std.proofs.lemmas.List.{append-nil}
use Rattle.elf_types.specs.declared.records.Part.TheVariants as part
use Rattle.elf_layout.specs.Layout.{rounded_up}
use Rattle.elf_object.specs.Blocks.{stacked, last_end}
use Rattle.elf_object.specs.Object.{Object, section_at, has_file_bytes}
use Rattle.elf_object.specs.Joined.{aligned_pieces, piece_blocks, pieces_end, file_bytes}
use Rattle.law_object.proofs.ImageLaws.{joined-none}
use Rattle.law_object.proofs.writing.PieceLaws.{pieces_in_line}
use Rattle.elf_update_to.specs.Pieces.{pieces_length, stacked_text}
use Rattle.elf_update_to.specs.Descriptors.{stored_pieces}
use Rattle.elf_update_to.proofs.PieceLaws.{joined_step, joined_none, last_step, last_none}

first_place : rounded_up 0 1 ≡ 0
unfolding rounded_up
first_place = refl

pub one_text : (fill : ℕ) (bytes : List ℕ) → stacked_text fill ((1, bytes) ∷ []) ≡ bytes
unfolding stacked_text pieces_length
one_text fill bytes =
    let all : last_end 0 (stacked 0 ((1, bytes) ∷ [])) ≡ rounded_up 0 1 + length bytes =
    last_step 0 (1, bytes) [] ∙ last_none (rounded_up 0 1 + length bytes) in
    let none : rounded_up 0 1 - 0 ≡ 0 = omega (arith, first_place) in
    joined_step fill (last_end 0 (stacked 0 ((1, bytes) ∷ []))) 0 (1, bytes) []
    ∙ ap (λ (l : List ℕ). (replicate (rounded_up 0 1 - 0) fill ++ bytes) ++ l)
    (joined_none fill (last_end 0 (stacked 0 ((1, bytes) ∷ [])))
    (rounded_up 0 1 + length bytes) all)
    ∙ append-nil (replicate (rounded_up 0 1 - 0) fill ++ bytes)
    ∙ ap (λ (n : ℕ). replicate n fill ++ bytes) none

pub no_text : (fill : ℕ) → stacked_text fill [] ≡ []
unfolding stacked_text pieces_length stacked last_end
no_text fill = refl

some_text : (o : Object) (s : ℕ) → has_file_bytes s (section_at o s) ≡ true
    → stacked_text o.fill (aligned_pieces o.header.class o.header.order (section_at o s))
    ≡ file_bytes o s
unfolding stacked_text pieces_length pieces_end piece_blocks
some_text o s e = sym ((pieces_in_line o).bytes s e)

pub section_text : (o : Object) (s : ℕ)
    → stacked_text o.fill (stored_pieces o (part.Section s)) ≡ file_bytes o s
section_text o s = by_bytes (has_file_bytes s (section_at o s)) refl
  where
    by_bytes : (b : Bool) → has_file_bytes s (section_at o s) ≡ b
        → stacked_text o.fill (if b then aligned_pieces o.header.class o.header.order
        (section_at o s) else []) ≡ file_bytes o s
    by_bytes true e = some_text o s e
    by_bytes false e = no_text o.fill ∙ sym (joined-none o s e)
