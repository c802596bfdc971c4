use Rattle.std.proofs.Common.{Ok}
use Rattle.rebuild_tables.specs.rebuild_image.declared.ranges.ranges.ByteRange.{ByteRange}
use Rattle.elf_xlate.specs.Translation.{encoded}
use Rattle.rebuild_tables.proofs.rebuild_keep.AskLaws.{asks_as, asks_stop}
use Rattle.rebuild_tables.specs.Rows.{rows_made, tables_due}
use Rattle.rebuild_plan.proofs.RowLaws.{begins_before, made_behind}
use Rattle.rebuild_plan.proofs.ranges.rows_range.Goals as goal

pub range_from-requires : goal.range_from-requires
range_from-requires g c =
    let x = c.args.x in
    begins_before c.args.elf.now.told
    (encoded x.class x.order (rows_made c.args.numbering.now c.args.elf.now.o.base x))
    c.args.held.now c.hold_rows.new.held c.len-at.result c.in-Ok.ensures.ok c.len-at.ensures

pub returns-in-Ok-clause-ok : goal.returns-in-Ok-clause-ok
returns-in-Ok-clause-ok g c =
    let x = c.args.x in
    made_behind c.args.elf.now.told
    (encoded x.class x.order (rows_made c.args.numbering.now c.args.elf.now.o.base x))
    c.args.held.now c.hold_rows.new.held c.len-at.result c.in-Ok.ensures.ok c.len-at.ensures
    c.args.elf.now.o.base c.range_from.result c.range_from.ensures.held c.range_from.ensures.at
    c.range_from.ensures.len

pub returns-in-Ok-clause-asks : goal.returns-in-Ok-clause-asks
returns-in-Ok-clause-asks g c =
    asks_as g.S.Source (Ok tt) (Ok c.range_from.result) c.args.elf.now c.hold_rows.new.elf
    (tables_due c.args.x) tt c.in-Ok.ensures.asks

pub returns-in-Err-clause-asks : goal.returns-in-Err-clause-asks
returns-in-Err-clause-asks g c =
    asks_stop g.S.Source {U = ByteRange} c.in-Err.e c.args.elf.now c.hold_rows.new.elf
    (tables_due c.args.x) c.in-Err.ensures.asks
