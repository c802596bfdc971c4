use Rattle.std.proofs.Common.{arith}
use Rattle.rebuild_image.proofs.listed.StoreLaws.{row_listed, first_placed, other_placed}
use Rattle.rebuild_image.proofs.listed.stored.placed_shdr.Goals as goal

pub returns-then-s-eq0 : goal.returns-then-s-eq0
returns-then-s-eq0 c = λ o is header.
    first_placed o c.args.places.now c.args.s c.args.header.now _ c.numbered_shdr.result
    c.if-s-eq0.true header
    (row_listed o c.args.x.now c.args.s c.as_slice-headers.result.now c.as_slice-sizes.result.now
    _ 0 c.as_slice-headers.ensures c.as_slice-sizes.ensures c.requires.header is).header
    c.numbered_shdr.ensures

pub returns : goal.returns
returns c = λ o is header.
    other_placed o c.args.places.now c.args.s _ c.as_slice-at.result.now _ c.with_place.result
    (omega (arith, c.if-s-eq0.false)) c.as_slice-at.ensures
    (row_listed o c.args.x.now c.args.s c.as_slice-headers.result.now c.as_slice-sizes.result.now
    _ _ c.as_slice-headers.ensures c.as_slice-sizes.ensures c.requires.header is)
    c.with_place.ensures
