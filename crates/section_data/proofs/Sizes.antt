-- Where the pieces of a section end.
use Rattle.std.proofs.Common.{◌≡◌, ℕ, ◌+◌, ◌<◌, ◌≤◌, List, [], ◌∷◌, length, drop, get_or, map, Option, Some, None, refl, ap, ◌∙◌, add-one, arith}
use Rattle.std.proofs.Math.Seq.{drop-cons}
use Rattle.elf_types.specs.declared.records.Class.{Class}
use Rattle.elf_types.specs.declared.records.Order.{Order}
use Rattle.elf_object.specs.elf_xlate.declared.content.Items.{Items}
use Rattle.elf_object.proofs.elf_xlate.Lengths.{length_encoded}
use Rattle.elf_object.specs.elf_layout.Layout.{rounded_up}
use Rattle.elf_object.specs.Blocks.{stacked, last_end, block_end}
use Rattle.elf_object.specs.Object.{Object, Piece, section_at, home_piece}
use Rattle.elf_object.specs.Joined.{piece_bytes, aligned_pieces, piece_blocks, pieces_end}
use Rattle.section_data.specs.Views.{CellView}
use Rattle.section_data.specs.Sizes.{piece_size, piece_end, stacked_end, home_size, data_size}

pub rounded_up_le : (n align : ℕ) → n ≤ rounded_up n align
unfolding rounded_up
rounded_up_le n align = omega arith

-- pieces end at the earliest where they begin
pub stacked_end_le : (class : Class) (len end : ℕ) (l : List Piece) → end ≤ stacked_end class len end l
unfolding stacked_end piece_end
stacked_end_le class len end [] = omega arith
stacked_end_le class len end (p ∷ l) =
    let up = rounded_up_le end p.align in
    let later = stacked_end_le class len (rounded_up end p.align + piece_size class len p) l in
    omega (arith, up, later)

-- from one piece to the next
pub stacked_end_next : (class : Class) (len end : ℕ) (l : List Piece) (i : ℕ) → i < length l
    → stacked_end class len end (drop i l) ≡ stacked_end class len (piece_end class len end (get_or l i home_piece)) (drop (i + 1) l)
unfolding stacked_end
stacked_end_next class len end l i there =
    let first : drop i l ≡ get_or l i home_piece ∷ drop (i + 1) l = rw add-one (drop-cons l i home_piece there) in
    ap (λ (l : List Piece). stacked_end class len end l) first

-- ---- The size of a section of an object

size_is : (class : Class) (order : Order) (raw : List ℕ) (p : Piece) → length (piece_bytes class order raw p) ≡ piece_size class (length raw) p
unfolding piece_bytes piece_size
size_is class order raw p = by_own p.own
  where
    by_own : (own : Option Items)
        → length (piece_bytes class order raw (record p { own = own })) ≡ piece_size class (length raw) (record p { own = own })
    by_own None = refl
    by_own (Some items) = length_encoded class order items

pub end_is : (class : Class) (order : Order) (raw : List ℕ) (end : ℕ) (l : List Piece)
    → last_end end (stacked end (map (λ p. (p.align, piece_bytes class order raw p)) l)) ≡ stacked_end class (length raw) end l
unfolding last_end stacked block_end stacked_end piece_end
end_is class order raw end [] = refl
end_is class order raw end (p ∷ l) =
    end_is class order raw (rounded_up end p.align + length (piece_bytes class order raw p)) l
    ∙ ap (λ (n : ℕ). stacked_end class (length raw) (rounded_up end p.align + n) l) (size_is class order raw p)

-- the size of a section's data is that of its cell
pub data_size_is : (o : Object) (s : ℕ) (c : CellView) → (section_at o s).pieces ≡ c.pieces → length (section_at o s).raw ≡ home_size c
    → pieces_end o s ≡ data_size o.header.class c
unfolding pieces_end piece_blocks aligned_pieces data_size
data_size_is o s c pieces raw =
    end_is o.header.class o.header.order (section_at o s).raw 0 (section_at o s).pieces
    ∙ ap (λ (n : ℕ). stacked_end o.header.class n 0 (section_at o s).pieces) raw
    ∙ ap (λ (l : List Piece). stacked_end o.header.class (home_size c) 0 l) pieces
