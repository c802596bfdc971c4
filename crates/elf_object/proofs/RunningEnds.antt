-- The size of a section's data as a running end over its pieces, one after the other.
use Rattle.std.proofs.Common.{◌≡◌, ℕ, ◌+◌, ◌-◌, ◌%◌, ◌<◌, ◌≤◌, ◌^◌, max, min, List, [], ◌∷◌, length, drop, get_or, map, refl, sym, ap, ◌∙◌, add-one, arith}
use Rattle.std.proofs.Math.Nat.{mod_self, mod-eq_of_lt}
use Rattle.std.proofs.Math.Seq.{drop-cons}
use Rattle.std.proofs.Math.ListN.{drop_of_length-le}
use Rattle.std.proofs.lemmas.List.{drop-map, length-map}
use Rattle.elf_types.specs.declared.records.Class.{Class}
use Rattle.elf_types.specs.declared.records.Order.{Order}
use Rattle.elf_layout.specs.Layout.{rounded_up}
use Rattle.elf_object.specs.Blocks.{block_end, stacked, last_end}
use Rattle.elf_object.specs.Object.{Object, Section, Piece, section_at, piece_at, home_piece}
use Rattle.elf_object.specs.Answers.{piece_count}
use Rattle.elf_object.specs.Joined.{piece_bytes, aligned_pieces, piece_blocks, pieces_end, section_end}

-- ---- Blocks one after the other

pub rounded_up_from : (n align : ℕ) → n ≤ rounded_up n align
unfolding rounded_up
rounded_up_from n align = omega arith

-- the first one stands at 0
pub first_place : (align : ℕ) → rounded_up 0 align ≡ 0
unfolding rounded_up
first_place align = first_multiple (max align 1) (omega arith)
  where
    first_multiple : (n : ℕ) → 0 < n → 0 + (n - 0 % n) % n ≡ 0
    first_multiple n some =
        let none : 0 % n ≡ 0 = mod-eq_of_lt some in
        let whole : n - 0 ≡ n = omega arith in
        rw (none, whole, mod_self n) refl

-- they end at the earliest where they begin
pub end_later : (end : ℕ) (ps : List (ℕ × List ℕ)) → end ≤ last_end end (stacked end ps)
unfolding stacked last_end block_end
end_later end [] = omega arith
end_later end (p ∷ ps) =
    let up = rounded_up_from end p.0 in
    let later = end_later (rounded_up end p.0 + length p.1) ps in
    omega (arith, up, later)

-- the end after the first of them
end_next : (end : ℕ) (p : ℕ × List ℕ) (ps : List (ℕ × List ℕ))
    → last_end end (stacked end (p ∷ ps))
    ≡ last_end (rounded_up end p.0 + length p.1) (stacked (rounded_up end p.0 + length p.1) ps)
unfolding stacked last_end block_end
end_next end p ps = refl

end_none : (end : ℕ) → last_end end (stacked end []) ≡ end
unfolding stacked last_end
end_none end = refl

-- ---- The pieces of a section by itself

module _ (class : Class) (order : Order) (c : Section) where
  abbrev pieces : List (ℕ × List ℕ)
  pieces = aligned_pieces class order c

  abbrev piece : ℕ → Piece
  piece p = get_or c.pieces p home_piece

  -- the bytes of a piece
  abbrev pub bytes_at : ℕ → List ℕ
  bytes_at p = piece_bytes class order c.raw (piece p)

  -- the end after a piece that stands after an end
  abbrev pub next_end : ℕ → ℕ → ℕ
  next_end end p = rounded_up end (piece p).align + length (bytes_at p)

  -- the pieces from one on
  pub section_pieces_from : (p : ℕ) → p < length c.pieces
      → drop p (aligned_pieces class order c)
      ≡ ((piece p).align, bytes_at p) ∷ drop (p + 1) (aligned_pieces class order c)
  unfolding aligned_pieces
  section_pieces_from p there =
      let form : Piece → ℕ × List ℕ = λ q. (q.align, piece_bytes class order c.raw q) in
      let first : drop p c.pieces ≡ get_or c.pieces p home_piece ∷ drop (p + 1) c.pieces =
      rw add-one (drop-cons c.pieces p home_piece there) in
      drop-map form p c.pieces
      ∙ ap (λ (l : List Piece). map form l) first
      ∙ ap (λ (l : List (ℕ × List ℕ)). form (get_or c.pieces p home_piece) ∷ l)
      (sym (drop-map form (p + 1) c.pieces))

  -- The pieces before p end at `end`: the size of the data is where those from p on end after it.
  abbrev pub IsEnd : ℕ → ℕ → Type 0
  IsEnd end p =
      section_end class order c ≡ last_end end (stacked end (drop p (aligned_pieces class order c)))

  pub end_first : IsEnd 0 0
  end_first = refl

  pub end_more : (end p : ℕ) → p < length c.pieces → IsEnd end p → IsEnd (next_end end p) (p + 1)
  end_more end p there so_far =
      so_far
      ∙ ap (λ (l : List (ℕ × List ℕ)). last_end end (stacked end l)) (section_pieces_from p there)
      ∙ end_next end ((piece p).align, bytes_at p) (drop (p + 1) pieces)

  -- after the last piece it is the size
  pub end_all : (end p : ℕ) → length c.pieces ≤ p → IsEnd end p → section_end class order c ≡ end
  unfolding aligned_pieces
  end_all end p past so_far =
      let form : Piece → ℕ × List ℕ = λ q. (q.align, piece_bytes class order c.raw q) in
      let none : drop p (map form c.pieces) ≡ [] =
      drop_of_length-le (map form c.pieces) (omega (arith, past, length-map c.pieces form)) in
      so_far ∙ ap (λ (l : List (ℕ × List ℕ)). last_end end (stacked end l)) none ∙ end_none end

  -- it never falls
  pub end_least : (end p : ℕ) → IsEnd end p → end ≤ section_end class order c
  end_least end p so_far = omega (arith, so_far, end_later end (drop p pieces))

  -- The size as it is told, at most 2^64 - 1: of an end that reaches it, and after the last piece.
  pub end_past : (end p : ℕ) → 2 ^ 64 - 1 ≤ end → IsEnd end p
      → min (section_end class order c) (2 ^ 64 - 1) ≡ 2 ^ 64 - 1
  end_past end p past so_far = omega (arith, past, end_least end p so_far)

  pub end_told : (end p : ℕ) → end < 2 ^ 64 → length c.pieces ≤ p → IsEnd end p
      → min (section_end class order c) (2 ^ 64 - 1) ≡ end
  end_told end p small past so_far = omega (arith, small, end_all end p past so_far)

-- ---- The pieces of a section of an object

pub pieces_end_is : (o : Object) (s : ℕ)
    → pieces_end o s ≡ section_end o.header.class o.header.order (section_at o s)
unfolding pieces_end piece_blocks
pieces_end_is o s = refl

module _ (o : Object) (s : ℕ) where
  abbrev aligned : List (ℕ × List ℕ)
  aligned = aligned_pieces o.header.class o.header.order (section_at o s)

  -- a piece with its alignment
  abbrev pub piece_from : ℕ → ℕ × List ℕ
  piece_from p = (
    (piece_at o s p).align,
    piece_bytes o.header.class o.header.order (section_at o s).raw (piece_at o s p),
  )

  pub pieces_from : (p : ℕ) → p < piece_count o s
      → drop p aligned ≡ piece_from p ∷ drop (p + 1) aligned
  unfolding piece_at piece_count
  pieces_from p there =
      section_pieces_from o.header.class o.header.order (section_at o s) p there
