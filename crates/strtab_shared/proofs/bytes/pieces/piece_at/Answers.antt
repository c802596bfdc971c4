use Rattle.std.proofs.Common.{◌≡◌, ℕ, List, length, ap, arith}
use Rattle.strtab_shared.specs.Bytes.Stretches.{stretched}
use Rattle.strtab_shared.proofs.bytes.PartLaws.{closed_piece, open_inside, open_piece}
use Rattle.strtab_shared.proofs.bytes.ShareLaws.{stand_behind}
use Rattle.strtab_shared.proofs.bytes.pieces.piece_at.Goals as goal

pub piece_of-requires-clause-stand : goal.piece_of-requires-clause-stand
piece_of-requires-clause-stand c =
    stand_behind c.as_slice.result.now c.args.parts.now.text c.args.parts.now.stretches
    c.as_slice-then-at-parts.result.now c.as_slice.ensures c.as_slice-then-at-parts.ensures c.requires.kept.stand

pub piece_of-requires-clause-below : goal.piece_of-requires-clause-below
piece_of-requires-clause-below c =
    let same : length (stretched c.as_slice.result.now c.as_slice-then-at-parts.result.now)
    ≡ length (stretched c.args.parts.now.text c.args.parts.now.stretches) =
    λ j. length (stretched (c.as_slice.ensures j) (c.as_slice-then-at-parts.ensures j)) in
    omega (arith, same, c.requires.kept.count, c.if-at-parts.true)

pub returns-then-at-parts : goal.returns-then-at-parts
returns-then-at-parts c =
    closed_piece c.args.parts.now c.as_slice.result.now c.piece_of.result.now
    c.as_slice-then-at-parts.result.now c.args.at c.requires.kept c.as_slice.ensures c.as_slice-then-at-parts.ensures
    c.if-at-parts.true c.piece_of.ensures

pub overflow_add-place : goal.overflow_add-place
overflow_add-place c =
    let inside = open_inside c.args.parts.now c.args.at c.requires.kept
    (omega (arith, c.if-at-parts.false)) c.requires.below in
    omega (arith, inside, c.len-held.ensures)

pub bytes_from-requires : goal.bytes_from-requires
bytes_from-requires c =
    let inside = open_inside c.args.parts.now c.args.at c.requires.kept
    (omega (arith, c.if-at-parts.false)) c.requires.below in
    let same = ap (λ (l : List ℕ). length l) c.as_slice-2.ensures in
    omega (arith, inside, same)

pub returns : goal.returns
returns c =
    open_piece c.args.parts.now c.as_slice-2.result.now c.bytes_from.result.now c.args.at
    c.requires.kept c.as_slice-2.ensures (omega (arith, c.if-at-parts.false)) c.requires.below
    c.bytes_from.ensures
