use Rattle.std.proofs.Common.{◌+◌, length, refl}
use Rattle.rebuild_image.specs.Ranges.Ranges.{kept_of_parts}
use Rattle.rebuild_image.proofs.ranges.RangeLaws.{origin_inside, origin_within, origin_copied, origin_asked, between_in_base, between_copied, between_asked, copies_more, copies_by_parts}
use Rattle.rebuild_image.proofs.ranges.parts.RangedPartsImageParts.copy.Goals as goal

pub copy_piece-requires-clause-inside : goal.copy_piece-requires-clause-inside
copy_piece-requires-clause-inside g c =
    origin_inside (kept_of_parts g.S.Source c.args.self.now) c.args.of c.in-Piece.part
    c.in-Piece.p c.range_at-range.result c.in-Piece.is c.range_at-range.ensures c.requires.ready

pub copy_piece-requires-clause-there : goal.copy_piece-requires-clause-there
copy_piece-requires-clause-there g c =
    origin_within (kept_of_parts g.S.Source c.args.self.now) c.args.of c.in-Piece.part
    c.in-Piece.p c.range_at-range.result c.in-Piece.is c.range_at-range.ensures
    (c.args.from + length c.args.buf.now) c.requires.there

pub returns-in-Piece-clause-bytes : goal.returns-in-Piece-clause-bytes
returns-in-Piece-clause-bytes g c =
    origin_copied (kept_of_parts g.S.Source c.args.self.now) c.args.of c.in-Piece.part
    c.in-Piece.p c.range_at-range.result c.in-Piece.is c.range_at-range.ensures
    c.copy_piece.result c.args.from (length c.args.buf.now) c.copy_piece.new.buf _
    c.copy_piece.ensures.bytes

pub returns-in-Piece-clause-copies : goal.returns-in-Piece-clause-copies
returns-in-Piece-clause-copies g c =
    copies_by_parts g.S.Source c.copy_piece.result c.args.self.now
    (record c.args.self.now { source = c.copy_piece.new.src }) _ _
    (origin_asked (kept_of_parts g.S.Source c.args.self.now) c.args.of c.in-Piece.part
    c.in-Piece.p c.range_at-range.result c.in-Piece.is c.range_at-range.ensures c.args.from
    (c.args.from + length c.args.buf.now))
    refl c.copy_piece.ensures.copies

pub copy_source-requires : goal.copy_source-requires
copy_source-requires g c =
    between_in_base (kept_of_parts g.S.Source c.args.self.now) c.args.of c.in-Base.is
    (c.args.from + length c.args.buf.now) c.requires.there

pub returns-in-Base-clause-bytes : goal.returns-in-Base-clause-bytes
returns-in-Base-clause-bytes g c =
    between_copied (kept_of_parts g.S.Source c.args.self.now) c.args.of c.in-Base.is
    c.copy_source.result c.args.from (length c.args.buf.now) c.copy_source.new.buf _
    c.requires.there c.copy_source.ensures.bytes

pub returns-in-Base-clause-copies : goal.returns-in-Base-clause-copies
returns-in-Base-clause-copies g c =
    copies_by_parts g.S.Source c.copy_source.result c.args.self.now
    (record c.args.self.now { source = c.copy_source.new.src }) _ _ refl refl
    (copies_more g.S.Source c.copy_source.result c.args.self.now.source c.copy_source.new.src
    (length c.args.buf.now) _
    (between_asked (kept_of_parts g.S.Source c.args.self.now) c.args.of c.in-Base.is
    c.args.from (length c.args.buf.now) c.requires.there) c.copy_source.ensures.copies)
