-- Items that are lent for writing: what the borrower leaves stands there afterwards.
use Rattle.std.specs.Prelude.{◌≡◌, List, ℕ, Option, Some, Result, slice_set}
use Rattle.std.specs.Borrow.{Lends, LendsSoOk, Fml}
use denote.RattleType.{RattleType}
use denote.Ref.{MutBor}
use Rattle.elf_types.specs.contracts.lists.List.{the_row as list_row}
use Rattle.elf_types.specs.declared.records.Class.{Class}
use Rattle.elf_types.specs.declared.records.Order.{Order}
use Rattle.elf_types.specs.declared.errors.ElfError.{ElfError}
use Rattle.section_data.specs.Leaves.{Owns, Stays}
use Rattle.elf_object.specs.elf_xlate.declared.content.Items.{Items}
use Rattle.elf_object.specs.elf_xlate.contracts.content.Items.{the_row as items_row}
use Rattle.elf_object.specs.Object.{Piece}
use Rattle.section_data.specs.contracts.piece.Piece.{the_row as piece_row}
use Rattle.section_data.specs.contracts.cell.Cell.{the_row as cell_row}
use Rattle.section_data.specs.Views.{CellView}
use Rattle.section_data.specs.contracts.kept.Kept.{the_row as kept_row}
use Rattle.section_data.specs.contracts.others.Others.{the_row as others_row}
use Rattle.section_data.specs.Held.{piece_in}

-- a piece with those items of its own
abbrev pub piece_with : Piece → Items → Piece
piece_with piece items = record piece { own = Some items }

-- the same in a cell
abbrev pub with_items : CellView → ℕ → Items → CellView
with_items c p items = record c {
  pieces = slice_set c.pieces p (piece_with (piece_in c p) items);
}

-- ---- A list whose variant is given, of items, of a piece and of a cell

abbrev pub LendsList : (X : RattleType) → (List X.Denot → Items) → MutBor Items
    → MutBor (List X.Denot) → Fml
LendsList X variant items r = Lends items_row (list_row X) items r variant

abbrev pub LendsPiece : (X : RattleType) → (List X.Denot → Items) → MutBor Piece
    → MutBor (List X.Denot) → Fml
LendsPiece X variant piece r =
    Lends piece_row (list_row X) piece r (λ left. piece_with piece.now (variant left))

abbrev pub LendsCell : (X : RattleType) → (List X.Denot → Items) → ℕ → MutBor CellView
    → MutBor (List X.Denot) → Fml
LendsCell X variant p cell r =
    Lends cell_row (list_row X) cell r (λ left. with_items cell.now p (variant left))

-- ---- All items

abbrev pub LendsPieceItems : MutBor Piece → MutBor Items → Fml
LendsPieceItems piece r = Lends piece_row items_row piece r (piece_with piece.now)

abbrev pub LendsCellItems : ℕ → MutBor CellView → MutBor Items → Fml
LendsCellItems p cell r = Lends cell_row items_row cell r (with_items cell.now p)

-- ---- The items of a piece that becomes own

-- a piece that was lent: it became own, and holds what the borrower left
pub record IsLent (image : Option (List ℕ)) (class : Class) (order : Order) (old new : CellView)
    (p : ℕ) (left : Items) : Type 0 where
  pub own : CellView
  pub owns : Owns image class order old own p
  pub cell : new ≡ with_items own p left

abbrev pub LendsItems : Option (List ℕ) → Class → Order → ℕ → MutBor CellView
    → Result (MutBor Items) ElfError → Fml
LendsItems image class order p cell r =
    LendsSoOk cell_row items_row cell r
    (λ new left. IsLent image class order cell.now new p left)
    (λ new. Stays image r cell.now new)

-- the same of a list whose variant is given
abbrev pub LendsItemList : (X : RattleType) → (List X.Denot → Items) → Option (List ℕ) → Class
    → Order → ℕ → MutBor CellView → Result (MutBor (List X.Denot)) ElfError → Fml
LendsItemList X variant image class order p cell r =
    LendsSoOk cell_row (list_row X) cell r
    (λ new left. IsLent image class order cell.now new p (variant left))
    (λ new. Stays image r cell.now new)

-- ---- One piece of what is kept

abbrev pub LendsPieceOf : ℕ → MutBor CellView → MutBor Piece → Fml
LendsPieceOf p kept r =
    Lends kept_row piece_row kept r
    (λ left. record kept.now { pieces = slice_set kept.now.pieces p left })

-- ---- One of the pieces after the first

abbrev pub LendsOther : ℕ → MutBor (List Piece) → MutBor Piece → Fml
LendsOther i others r = Lends others_row piece_row others r (λ left. slice_set others.now i left)
