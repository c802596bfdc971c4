-- Where bytes of an image come from, and what a copy of them does to whoever has them.
use Rattle.std.specs.Prelude.{◌≡◌, ℕ, ◌==◌, ◌≤◌, List, [], length, slice_index_or, Result, if◌then◌else◌}
use Rattle.elf_types.specs.declared.errors.ElfError.{ElfError}
use Rattle.elf_types.specs.declared.records.Part.{Part}
use Rattle.elf_update_plan.specs.elf_outside.Counts.{RaisedAtMost}
use Rattle.elf_update_plan.specs.elf_outside.Asks.{ReadRose}
use Rattle.elf_update_to.specs.declared.parts.Origin.{Origin}
use Rattle.elf_update_to.specs.declared.parts.Origin.TheVariants.{Piece, Base}
use Rattle.elf_update_to.specs.declared.parts.PieceExtent.{PieceExtent}

-- what stands at a number that no piece has
abbrev pub absent_piece : ℕ × List ℕ
absent_piece = (1, [])

-- the extent of a piece
pub record IsExtent (extent : PieceExtent) (piece : ℕ × List ℕ) : Type 0 where
  pub align : extent.align ≡ piece.0
  pub len : extent.len ≡ length piece.1

-- the bytes of a piece, or those of the base
abbrev pub origin_bytes : (Part → List (ℕ × List ℕ)) → List ℕ → Origin → List ℕ
origin_bytes pieces base (Piece part p) = (slice_index_or (pieces part) p absent_piece).1
origin_bytes pieces base Base = base

-- what a copy rests on: one of the base on nothing
abbrev pub ReadyFor : Type 0 → Origin → Type 0
ReadyFor ready (Piece part p) = ready
ReadyFor ready Base = Unit {0}

-- how many of its first bytes are read from a source: of a part, so many of its first piece's; of
-- the base, all
abbrev pub origin_due : (Part → ℕ) → ℕ → Origin → ℕ
origin_due due base (Piece part p) = if p == 0 then due part else 0
origin_due due base Base = base

-- a copy leaves what is kept, asks for at most so many bytes, answers Read only where the count of
-- faults rose in it, and never answers Write
pub record CopiesBy {P Kept T : Type 0} (kept : P → Kept) (faults taken : P → ℕ)
    (result : Result T ElfError) (old new : P) (n : ℕ) : Type 0 where
  pub leaves : kept new ≡ kept old
  pub later : faults old ≤ faults new
  pub read : ReadRose result (faults old) (faults new)
  pub asks : RaisedAtMost (taken old) (taken new) n
