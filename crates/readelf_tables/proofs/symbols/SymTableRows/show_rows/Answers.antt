use Rattle.std.proofs.Common.{ℕ, Option, refl, sym, subst}
use Rattle.elf_types.specs.declared.records.Kind.TheVariants as kinds
use Rattle.elf_object.specs.Object.{Object}
use Rattle.elf_object.specs.Answers.{items_at, syms_of}
use Rattle.tool_output.specs.Lines.{numbered_lines}
use Rattle.tool_output.specs.Reports.{shown_report}
use Rattle.tool_objects.proofs.ElfSteps.{elf_after, elf_unread}
use Rattle.tool_objects.proofs.at_hand.Ends.{end_stays}
use Rattle.readelf_tables.specs.Tables.{HasRows}
use Rattle.readelf_tables.specs.Symbols.{symbol_row, SymbolsFit}
use Rattle.readelf_tables.proofs.symbols.SymTableRows.show_rows.Goals as goal

pub show_each_symbol-requires-clause-rows : goal.show_each_symbol-requires-clause-rows
show_each_symbol-requires-clause-rows g c =
    subst (λ (o : Object). HasRows kinds.Sym syms_of SymbolsFit o c.args.table)
    (sym c.in-Ok.ensures.reads.elf.object) c.requires

pub show_each_symbol-requires-clause-end : goal.show_each_symbol-requires-clause-end
show_each_symbol-requires-clause-end g c =
    end_stays g.S.Source c.args.elf.now c.load_symbols.new.elf c.args.table.links.linked.0
    c.in-Ok.end c.in-Ok.ensures.reads.elf c.in-Ok.ensures.end

pub returns-in-Ok : goal.returns-in-Ok
returns-in-Ok g c =
    let s = c.args.table.section.0 in
    let rows = λ (o : Object).
    shown_report (numbered_lines (symbol_row o s) 0 (syms_of (items_at o s 0))) in
    elf_after g.S.Source g.O.Sink g.E.Sink rows rows _ c.args.elf.now c.load_symbols.new.elf _
    c.args.outputs.now _ c.in-Ok.ensures.reads.elf c.show_each_symbol.ensures (λ told. refl)

pub returns-in-Err : goal.returns-in-Err
returns-in-Err g c =
    let s = c.args.table.section.0 in
    elf_unread g.S.Source g.O.Sink g.E.Sink (Option ℕ) c.in-Err.stop
    (λ o. shown_report (numbered_lines (symbol_row o s) 0 (syms_of (items_at o s 0)))) c.args.elf.now _
    c.args.outputs.now c.in-Err.ensures.reads
