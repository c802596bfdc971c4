-- What the items of a kind of a section's data are due, and when they are at hand.
use Rattle.std.specs.Prelude.{◌≡◌, ℕ, ◌<◌, length, IsTrue}
use Rattle.elf_types.specs.declared.records.Class.{Class}
use Rattle.elf_types.specs.declared.records.Kind.{Kind}
use Rattle.section_table.specs.section_data.Views.{CellView}
use Rattle.section_table.specs.section_data.Held.{kind_in, is_at_hand}
use Rattle.section_table.specs.section_data.Refused.{kind_refused, piece_due, due_unless}
use Rattle.elf_descriptor.specs.declared.body.Body.{Body}
use Rattle.elf_descriptor.specs.Views.{scn_at}

-- of a call that looks at items of a kind: the home, unless it is refused
unfoldable pub list_due : Class → CellView → Kind → ℕ → ℕ
list_due class c kind p = due_unless (kind_refused class c kind p) (piece_due c p)

-- the piece holds items of the kind, and each of them is at hand
pub record IsListed (b : Body) (s p : ℕ) (kind : Kind) : Type 0 where
  pub section : s < length b.sections
  pub piece : p < length (scn_at b s).cell.pieces
  pub kind_is : kind_in (scn_at b s).cell p ≡ kind
  pub hand : IsTrue (is_at_hand b.header.class (scn_at b s).cell p)
