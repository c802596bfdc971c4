-- What is known of a cell as it was opened.
use Rattle.std.proofs.Common.{◌≡◌, ℕ, zero, suc, false, List, [], ◌∷◌, Option, refl, ap, ◌∙◌}
use Rattle.std.specs.Prelude.{is_some}
use Rattle.std.specs.List.{list_any}
use Rattle.section_data.specs.elf_xlate.declared.content.Items.{Items}
use Rattle.section_data.specs.elf_object.Object.{Piece, home_piece}
use Rattle.section_data.specs.Views.{CellView, piece_of}
use Rattle.section_data.specs.Held.{piece_in, piece_holds_items}
use Rattle.section_data.proofs.Holdings.{ready_clean}
use Rattle.section_table.specs.Sections.{IsAsOpened}

one_piece : (p : ℕ) → piece_of (home_piece ∷ []) p ≡ home_piece
one_piece zero = refl
one_piece (suc p) = refl

-- each of its pieces is the clean home piece
pub piece_opened : (c : CellView) (p : ℕ) → IsAsOpened c → piece_in c p ≡ home_piece
unfolding piece_in
piece_opened c p is = ap (λ (l : List Piece). piece_of l p) is.pieces ∙ one_piece p

-- which holds no items
pub opened_unready : (c : CellView) (p : ℕ) → IsAsOpened c → piece_holds_items c p ≡ false
opened_unready c p is =
    let clean : is_some (piece_in c p).own ≡ false =
    ap (λ (q : Piece). is_some q.own) (piece_opened c p is) in
    ap (λ (held : Option Items). is_some held) (ready_clean c p clean ∙ is.held)

-- and is not marked
pub opened_unmarked : (c : CellView) → IsAsOpened c
    → list_any (λ (q : Piece). q.marked) c.pieces ≡ false
opened_unmarked c is = ap (λ (l : List Piece). list_any (λ (q : Piece). q.marked) l) is.pieces
