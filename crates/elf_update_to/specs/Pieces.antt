-- A part of an image, made of its pieces: each stands at the end so far, rounded up to its
-- alignment, with the fill byte between them (gABI chapter 4, "Sections", sh_addralign).
use Rattle.std.specs.Prelude.{◌≡◌, ℕ, ◌-◌, List, ◌++◌, map}
use Rattle.std.proofs.Math.ListN.{replicate}
use Rattle.elf_types.specs.declared.records.Part.{Part}
use Rattle.elf_update_plan.specs.elf_layout.declared.parts.PartAt.{PartAt}
use Rattle.elf_update_plan.specs.elf_layout.Layout.{rounded_up}
use Rattle.elf_update_plan.specs.elf_object.Blocks.{Block, stacked, last_end}
use Rattle.elf_update_plan.specs.law_object.Writing.Lines.{in_line}

-- the length of a part that is made of pieces
unfoldable pub pieces_length : List (ℕ × List ℕ) → ℕ
pieces_length pieces = last_end 0 (stacked 0 pieces)

-- a piece that stands at the end so far, rounded up to its alignment, and the fill byte before it
abbrev pub filled_piece : ℕ × List ℕ → ℕ → ℕ → List ℕ
filled_piece piece end fill = replicate (rounded_up end piece.0 - end) fill ++ piece.1

-- its bytes from a place on, of pieces that stand from there on
abbrev pub joined_from : ℕ → ℕ → ℕ → List (ℕ × List ℕ) → List ℕ
joined_from fill end from pieces = in_line end (λ _. fill) from (stacked from pieces)

-- its bytes
unfoldable pub stacked_text : ℕ → List (ℕ × List ℕ) → List ℕ
stacked_text fill pieces = joined_from fill (pieces_length pieces) 0 pieces

-- the blocks of parts at their places
abbrev pub block_at : ℕ → (Part → List (ℕ × List ℕ)) → PartAt → Block
block_at fill pieces p = record { at = p.at; bytes = stacked_text fill (pieces p.part) }

unfoldable pub blocks_at : ℕ → (Part → List (ℕ × List ℕ)) → List PartAt → List Block
blocks_at fill pieces plan = map (block_at fill pieces) plan

-- the part is as long as its pieces are
abbrev pub HasLength : (Part → List (ℕ × List ℕ)) → PartAt → Type 0
HasLength pieces p = p.len ≡ pieces_length (pieces p.part)
