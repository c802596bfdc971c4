use Rattle.std.proofs.Common.{length}
use Rattle.rebuild_image.specs.Ranges.Ranges.{bytes_of_source}
use Rattle.rebuild_image.proofs.ranges.RangeLaws.{inside_is, piece_within, piece_copied, piece_asked, still_copies, copies_more, none_there}
use Rattle.rebuild_image.proofs.ranges.parts.copy_some.Goals as goal

pub copy_range-requires-clause-inside : goal.copy_range-requires-clause-inside
copy_range-requires-clause-inside g c =
    inside_is c.args.held.now (bytes_of_source g.S.Source c.args.src.now) c.args.range c.in-Some.range c.in-Some.is
    c.requires.inside

pub copy_range-requires-clause-there : goal.copy_range-requires-clause-there
copy_range-requires-clause-there g c =
    piece_within c.args.held.now (bytes_of_source g.S.Source c.args.src.now) c.args.range c.in-Some.range c.in-Some.is
    c.args.p c.args.from (length c.args.buf.now) c.requires.some c.requires.there

pub returns-in-Some-clause-bytes : goal.returns-in-Some-clause-bytes
returns-in-Some-clause-bytes g c =
    piece_copied c.args.held.now (bytes_of_source g.S.Source c.args.src.now) c.args.range c.in-Some.range c.in-Some.is
    c.args.p c.args.from (length c.args.buf.now) c.requires.some c.requires.there
    c.copy_range.result c.copy_range.new.buf _ c.copy_range.ensures.bytes

pub returns-in-Some-clause-copies : goal.returns-in-Some-clause-copies
returns-in-Some-clause-copies g c =
    copies_more g.S.Source c.copy_range.result c.args.src.now c.copy_range.new.src _ _
    (piece_asked c.args.held.now (bytes_of_source g.S.Source c.args.src.now) c.args.range c.in-Some.range c.in-Some.is
    c.args.p c.args.from (length c.args.buf.now) c.requires.some c.requires.there)
    c.copy_range.ensures.copies

pub returns-in-None-clause-bytes : goal.returns-in-None-clause-bytes
returns-in-None-clause-bytes g c = λ told.
    absurd (none_there c.args.held.now (bytes_of_source g.S.Source c.args.src.now) c.args.range c.args.p c.args.from
    (length c.args.buf.now) c.in-None.is c.requires.some c.requires.there)

pub returns-in-None-clause-copies : goal.returns-in-None-clause-copies
returns-in-None-clause-copies g c = still_copies g.S.Source c.args.src.now _
