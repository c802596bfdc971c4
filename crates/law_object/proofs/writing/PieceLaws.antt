-- The bytes of a gap, and those of a section's pieces: both are of every object.
use Rattle.std.proofs.Common.{◌≡◌, ℕ, ◌+◌, ◌-◌, ◌<◌, ◌≤◌, min, max, Bool, true, false, List, [], ◌∷◌, ◌++◌, length, take, drop, replicate, get_or, refl, sym, ◌∙◌, arith, ⊎_elim}
use Rattle.std.specs.Prelude.{if◌then◌else◌, map}
use Rattle.std.specs.List.{range_with_len}
use Rattle.std.proofs.lemmas.Bool.{cases_lt, lt-ltb, le-ltb}
use Rattle.std.proofs.lemmas.List.{length-append, length-take, length-drop, length-replicate, get_or_append_left, get_or-append_right, get_or-take, get_or-drop, get_or-replicate, ext_get_or}
use Rattle.std.proofs.lemmas.List.FromFn.{length-map-range_with_len, get_or-map-range_with_len}
use Rattle.elf_object.specs.elf_layout.Layout.{rounded_up}
use Rattle.elf_object.specs.Blocks.{block_end, stacked, last_end}
use Rattle.elf_object.specs.Object.{Object, section_at, has_file_bytes}
use Rattle.elf_object.specs.Joined.{aligned_pieces, piece_blocks, pieces_end, file_bytes}
use Rattle.elf_object.specs.Image.{kept_base, uncovered_byte}
use Rattle.law_object.proofs.PlaceLaws.{rounded_up-ge}
use Rattle.law_object.specs.Writing.Lines.{AreInLine, in_line}
use Rattle.law_object.specs.Writing.Writing.{GapBytes, PiecesInLine}
use Rattle.law_object.proofs.writing.LineLaws.{drop-spread}

-- ---- A gap

pub kept_at_most : (o : Object) → kept_base o ≤ length o.base
unfolding kept_base
kept_at_most o = by_test o.layout
  where
    by_test : (b : Bool) → (if b then length o.base else 0) ≤ length o.base
    by_test true = omega arith
    by_test false = omega arith

base_byte : (o : Object) (k : ℕ) → k < kept_base o → uncovered_byte o k ≡ get_or o.base k 0
unfolding uncovered_byte
base_byte o k below = let test = lt-ltb k (kept_base o) below in rw test refl

fill_byte : (o : Object) (k : ℕ) → kept_base o ≤ k → uncovered_byte o k ≡ o.fill
unfolding uncovered_byte
fill_byte o k past = let test = le-ltb k (kept_base o) past in rw test refl

pub gap_bytes : (o : Object) → GapBytes o
gap_bytes o from end =
    let kept = kept_base o in
    let most = kept_at_most o in
    let base : List ℕ = take (min end (kept_base o) - from) (drop from o.base) in
    let rest = length-drop from o.base in
    let taken = length-take (min end (kept_base o) - from) (drop from o.base) in
    let filled = length-replicate (end - max from (kept_base o)) o.fill in
    let whole = length-append (take (min end (kept_base o) - from) (drop from o.base)) (replicate (end - max from (kept_base o)) o.fill) in
    let left = length-map-range_with_len (uncovered_byte o) from (end - from) in
    let front : length (take (min end (kept_base o) - from) (drop from o.base)) ≡ min end (kept_base o) - from = omega arith in
    ext_get_or 0 (map (uncovered_byte o) (range_with_len from (end - from))) (take (min end (kept_base o) - from) (drop from o.base) ++ replicate (end - max from (kept_base o)) o.fill) (omega arith) (λ j h.
    get_or-map-range_with_len (uncovered_byte o) from (end - from) j (from + j) 0 (omega arith) refl
    ∙ ⊎_elim
    (λ below.
    base_byte o (from + j) (omega arith)
    ∙ sym (get_or_append_left (take (min end (kept_base o) - from) (drop from o.base)) (replicate (end - max from (kept_base o)) o.fill) 0 j (omega arith)
    ∙ get_or-take (min end (kept_base o) - from) (drop from o.base) j 0 (omega arith)
    ∙ get_or-drop from o.base j 0))
    (λ past.
    fill_byte o (from + j) (omega arith)
    ∙ sym (get_or-append_right (take (min end (kept_base o) - from) (drop from o.base)) (replicate (end - max from (kept_base o)) o.fill) (min end (kept_base o) - from) j 0 front (omega arith)
    ∙ get_or-replicate (end - max from (kept_base o)) (j - (min end (kept_base o) - from)) o.fill 0 (omega arith)))
    (cases_lt j (min end (kept_base o) - from)))

-- ---- Pieces

pub stacked_line : (end : ℕ) (ps : List (ℕ × List ℕ)) → AreInLine (last_end end (stacked end ps)) end (stacked end ps)
unfolding stacked last_end block_end
stacked_line end [] = omega arith
stacked_line end (p ∷ ps) = (rounded_up-ge end p.0, stacked_line (rounded_up end p.0 + length p.1) ps)

pieces_line : (o : Object) (s : ℕ) → AreInLine (pieces_end o s) 0 (piece_blocks o s)
unfolding pieces_end piece_blocks
pieces_line o s = stacked_line 0 (aligned_pieces o.header.class o.header.order (section_at o s))

pieces_bytes : (o : Object) (s : ℕ) → has_file_bytes s (section_at o s) ≡ true → file_bytes o s ≡ in_line (pieces_end o s) (λ _. o.fill) 0 (piece_blocks o s)
unfolding file_bytes
pieces_bytes o s filled = rw filled (drop-spread (pieces_end o s) (λ _. o.fill) 0 (piece_blocks o s) (pieces_line o s))

pub pieces_in_line : (o : Object) → PiecesInLine o
pieces_in_line o = record { line = pieces_line o; bytes = pieces_bytes o }
