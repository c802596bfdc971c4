use Rattle.std.proofs.Common.{◌<◌, length, ap, sym, subst, arith}
use Rattle.elf_object.specs.Object.{Object}
use Rattle.elf_object.specs.Answers.{items_at}
use Rattle.tool_output.specs.Reports.{shown_report}
use Rattle.tool_objects.proofs.ElfSteps.{elf_unread, elf_after}
use Rattle.readelf_tables.specs.Tables.{indexed_row}
use Rattle.readelf_tables.proofs.TableLemmas.{row_is}
use Rattle.readelf_tables.proofs.tables.show_row.Goals as goal

pub item_there-requires-clause-passed : goal.item_there-requires-clause-passed
item_there-requires-clause-passed g c = c.requires.rows.passed

pub item_there-requires-clause-there : goal.item_there-requires-clause-there
item_there-requires-clause-there g c = omega (arith, c.requires.there, c.requires.rows.count)

pub show-requires-clause-section : goal.show-requires-clause-section
show-requires-clause-section g c = subst (λ (o : Object). c.args.table.section.0 < length o.sections) (sym c.in-Ok.ensures.reads.elf.object) c.requires.rows.section

pub show-requires-clause-fits : goal.show-requires-clause-fits
show-requires-clause-fits g c = subst (λ (o : Object). g.T.TableRow.fits o c.args.table.section.0 c.args.table.links) (sym c.in-Ok.ensures.reads.elf.object) c.requires.rows.fit

pub returns-in-Ok : goal.returns-in-Ok
returns-in-Ok g c =
    let s = c.args.table.section.0 in
    let xs = g.T.Listed.list_of (items_at c.args.elf.now.o s 0) in
    elf_after g.S.Source g.O.Sink g.E.Sink (λ o. shown_report (g.T.TableRow.line o s c.args.i c.in-Ok.item)) (λ o. shown_report (indexed_row (g.T.TableRow.line o s) (g.T.Listed.list_of (items_at o s 0)) c.args.i)) _ c.args.elf.now _ _ c.args.outputs.now _
    c.in-Ok.ensures.reads.elf c.show.ensures
    (λ told. ap shown_report (row_is (g.T.TableRow.line c.args.elf.now.o s) xs c.args.i c.in-Ok.item (c.in-Ok.ensures.value told)))

pub returns-in-Err : goal.returns-in-Err
returns-in-Err g c =
    let s = c.args.table.section.0 in
    elf_unread g.S.Source g.O.Sink g.E.Sink _ c.in-Err.stop (λ o. shown_report (indexed_row (g.T.TableRow.line o s) (g.T.Listed.list_of (items_at o s 0)) c.args.i)) c.args.elf.now _ c.args.outputs.now c.in-Err.ensures.reads
