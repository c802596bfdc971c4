use Rattle.std.proofs.Common.{ap, sym, subst, arith}
use Rattle.elf_object.specs.Object.{Object}
use Rattle.elf_object.specs.Answers.{items_at, syms_of}
use Rattle.tool_output.specs.Reports.{shown_report}
use Rattle.tool_objects.proofs.ElfSteps.{elf_unread, elf_after}
use Rattle.tool_objects.proofs.at_hand.Ends.{end_stays}
use Rattle.readelf_tables.specs.Tables.{indexed_row}
use Rattle.readelf_tables.specs.Symbols.{symbol_row, SymbolsFit}
use Rattle.readelf_tables.proofs.TableLemmas.{row_is}
use Rattle.readelf_tables.proofs.symbols.show_row_at.Goals as goal

pub item_there-requires-clause-passed : goal.item_there-requires-clause-passed
item_there-requires-clause-passed g c = c.requires.rows.passed

pub item_there-requires-clause-there : goal.item_there-requires-clause-there
item_there-requires-clause-there g c = omega (arith, c.requires.there, c.requires.rows.count)

pub show_row-requires-clause-fits : goal.show_row-requires-clause-fits
show_row-requires-clause-fits g c =
    subst (λ (o : Object). SymbolsFit o c.args.table.section.0 c.args.table.links)
    (sym c.in-Ok.ensures.reads.elf.object) c.requires.rows.fit

pub show_row-requires-clause-end : goal.show_row-requires-clause-end
show_row-requires-clause-end g c =
    end_stays g.S.Source c.args.elf.now c.item_there.new.elf c.args.table.links.linked.0 c.args.end
    c.in-Ok.ensures.reads.elf c.requires.end

pub returns-in-Ok : goal.returns-in-Ok
returns-in-Ok g c =
    let s = c.args.table.section.0 in
    let x = c.in-Ok.symbol in
    elf_after g.S.Source g.O.Sink g.E.Sink (λ o. shown_report (symbol_row o s c.args.i x))
    (λ o. shown_report (indexed_row (symbol_row o s) (syms_of (items_at o s 0)) c.args.i)) _ c.args.elf.now
    c.item_there.new.elf _ c.args.outputs.now _ c.in-Ok.ensures.reads.elf c.show_row.ensures
    (λ told. ap shown_report (row_is (symbol_row c.args.elf.now.o s)
    (syms_of (items_at c.args.elf.now.o s 0)) c.args.i x (c.in-Ok.ensures.value told)))

pub returns-in-Err : goal.returns-in-Err
returns-in-Err g c =
    let s = c.args.table.section.0 in
    elf_unread g.S.Source g.O.Sink g.E.Sink _ c.in-Err.stop
    (λ o. shown_report (indexed_row (symbol_row o s) (syms_of (items_at o s 0)) c.args.i)) c.args.elf.now _
    c.args.outputs.now c.in-Err.ensures.reads
