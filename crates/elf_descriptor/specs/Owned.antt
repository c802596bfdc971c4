-- A piece that becomes own, in what the program keeps (elf_flagdata of elf(3E)).
use Rattle.std.specs.Prelude.{◌≡◌, ℕ, ◌<◌, Bool, length, slice_set, List, Option}
use Rattle.std.specs.Borrow.{Fml, Lends}
use denote.RattleType.{RattleType}
use denote.Ref.{MutBor}
use Rattle.elf_types.specs.contracts.lists.List.{the_row as list_row}
use Rattle.elf_types.specs.declared.records.Kind.{Kind}
use Rattle.section_table.specs.elf_xlate.declared.content.Items.{Items}
use Rattle.section_table.specs.elf_object.Object.{Object, piece_at}
use Rattle.section_table.specs.elf_object.Answers.{piece_count}
use Rattle.section_table.specs.section_data.Views.{CellView, IsCell}
use Rattle.section_table.specs.section_data.Held.{piece_in, HeldIs}
use Rattle.section_table.specs.section_data.Leaves.{Owns, OwnsKind}
use Rattle.section_table.specs.section_data.Lends.{with_items}
use Rattle.elf_descriptor.specs.declared.body.Body.{Body}
use Rattle.elf_descriptor.specs.contracts.body.Body.{the_row as body_row}
use Rattle.elf_descriptor.specs.Views.{scn_at}

-- the data of one section was read and translated at first use, and a piece of it became own and
-- marked, with items of a kind; all else is as before
pub record IsOwned (image : Option (List ℕ)) (kind : Kind) (ready : Bool) (old new : Body)
    (s p : ℕ) : Type 0 where
  pub cell : CellView
  pub rest : new ≡ record old { sections = new.sections; ready = ready }
  pub sections : new.sections
      ≡ slice_set old.sections s (record (scn_at old s) { cell = cell })
  pub owns : Owns image old.header.class old.header.order (scn_at old s).cell cell p
  pub kept : IsCell cell
  pub there : s < length old.sections
  pub piece : p < length cell.pieces
  pub own : OwnsKind kind (piece_in cell p)
  pub items : HeldIs old.header.class old.header.order cell

-- there is such a piece, and it has items of its own of a kind
pub record IsOwnPiece (o : Object) (kind : Kind) (s p : ℕ) : Type 0 where
  pub section : s < length o.sections
  pub piece : p < piece_count o s
  pub own : OwnsKind kind (piece_at o s p)

-- ---- Its items, lent for writing

-- all with that piece's items
abbrev pub with_left : Body → ℕ → ℕ → Items → Body
with_left b s p items = record b {
  sections = slice_set b.sections s (record (scn_at b s) {
    cell = with_items (scn_at b s).cell p items;
  });
}

-- the list in the items of an own piece, of the items' variant
abbrev pub LendsOwn : (X : RattleType) → (List X.Denot → Items) → ℕ → ℕ → MutBor Body
    → MutBor (List X.Denot) → Fml
LendsOwn X variant s p b r =
    Lends body_row (list_row X) b r (λ left. with_left b.now s p (variant left))
