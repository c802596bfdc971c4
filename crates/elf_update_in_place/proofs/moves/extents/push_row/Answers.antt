use Rattle.elf_update_in_place.proofs.moves.ExtentLaws.{row_still, row_ends}
use Rattle.elf_update_in_place.proofs.moves.extents.push_row.Goals as goal

pub returns-then-not-changed-clause-ok : goal.returns-then-not-changed-clause-ok
returns-then-not-changed-clause-ok c =
    row_still c.args.start c.args.at c.args.end c.args.changed c.args.extents.now
    c.push_extent.new.extents c.in_default.ensures.ok c.if-not-changed.true

pub returns-clause-ok : goal.returns-clause-ok
returns-clause-ok c =
    row_ends c.args.start c.args.at c.args.end c.args.changed c.args.extents.now
    c.push_extent.new.extents c.push_extent-2.new.extents c.push_extent-2.result
    c.in_default.ensures.ok c.if-not-changed.false c.push_extent-2.ensures.ok
