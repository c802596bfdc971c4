use Rattle.std.proofs.Common.{length, arith}
use Rattle.rebuild_image.specs.Ranges.Ranges.{bytes_of_source}
use Rattle.rebuild_image.proofs.ranges.RangeLaws.{under_held, under_base, part_inside, part_copied, base_copied, base_due, still_copies, copies_more}
use Rattle.rebuild_image.proofs.ranges.parts.copy_range.Goals as goal

pub overflow_add-place : goal.overflow_add-place
overflow_add-place g c =
    let base = bytes_of_source g.S.Source c.args.src.now in
    let inside = part_inside c.args.held.now base c.args.range c.args.held.now c.args.from
    (length c.args.buf.now) (under_held c.args.held.now base c.args.range c.if-range.true)
    c.requires.inside c.requires.there in
    omega (arith, inside, c.len-count.ensures)

pub copy_at-requires : goal.copy_at-requires
copy_at-requires g c =
    let base = bytes_of_source g.S.Source c.args.src.now in
    part_inside c.args.held.now base c.args.range c.args.held.now c.args.from
    (length c.args.buf.now) (under_held c.args.held.now base c.args.range c.if-range.true)
    c.requires.inside c.requires.there

pub returns-then-range-clause-bytes : goal.returns-then-range-clause-bytes
returns-then-range-clause-bytes g c = λ told.
    let base = bytes_of_source g.S.Source c.args.src.now in
    part_copied c.args.held.now base c.args.range c.args.held.now c.args.from
    (length c.args.buf.now) c.copy_at.new.buf
    (under_held c.args.held.now base c.args.range c.if-range.true) c.requires.there
    c.copy_at.ensures

pub returns-then-range-clause-copies : goal.returns-then-range-clause-copies
returns-then-range-clause-copies g c = still_copies g.S.Source c.args.src.now _

pub overflow_add-at : goal.overflow_add-at
overflow_add-at g c =
    let base = bytes_of_source g.S.Source c.args.src.now in
    let inside = part_inside c.args.held.now base c.args.range base c.args.from
    (length c.args.buf.now) (under_base c.args.held.now base c.args.range c.if-range.false)
    c.requires.inside c.requires.there in
    omega (arith, inside, c.base_len-len.ensures)

pub copy_source-requires : goal.copy_source-requires
copy_source-requires g c =
    let base = bytes_of_source g.S.Source c.args.src.now in
    part_inside c.args.held.now base c.args.range base c.args.from (length c.args.buf.now)
    (under_base c.args.held.now base c.args.range c.if-range.false) c.requires.inside
    c.requires.there

pub returns-clause-bytes : goal.returns-clause-bytes
returns-clause-bytes g c =
    base_copied c.args.held.now (bytes_of_source g.S.Source c.args.src.now) c.args.range
    c.copy_source.result c.args.from (length c.args.buf.now) c.copy_source.new.buf _
    c.if-range.false c.requires.there c.copy_source.ensures.bytes

pub returns-clause-copies : goal.returns-clause-copies
returns-clause-copies g c =
    copies_more g.S.Source c.copy_source.result c.args.src.now c.copy_source.new.src
    (length c.args.buf.now) _ (base_due c.args.range (length c.args.buf.now) c.if-range.false)
    c.copy_source.ensures.copies
