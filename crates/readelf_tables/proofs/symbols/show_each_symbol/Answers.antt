use Rattle.elf_object.specs.Object.{Object}
use Rattle.elf_object.specs.Answers.{items_at, syms_of}
use Rattle.tool_output.specs.Lines.{numbered_lines}
use Rattle.tool_output.specs.Reports.{shown_report}
use Rattle.tool_objects.proofs.ElfSteps.{elf_as, elf_left, elf_says}
use Rattle.readelf_tables.specs.RowsOfSymbols.SymbolBytes.{bytes_row, symbols_of_bytes}
use Rattle.readelf_tables.specs.Symbols.{symbol_row}
use Rattle.readelf_tables.proofs.SymbolLemmas.{symbol_rows_are}
use Rattle.readelf_tables.proofs.symbols.show_each_symbol.Goals as goal

pub show_symbol_bytes-requires : goal.show_symbol_bytes-requires
show_symbol_bytes-requires g c = c.in-Some.ensures.symbols.whole

pub returns-in-Some : goal.returns-in-Some
returns-in-Some g c =
    let s = c.args.table.section.0 in
    let t = c.in-Some.bytes in
    let held = λ (o : Object).
    shown_report (numbered_lines (bytes_row t.strings.now) 0 (symbols_of_bytes t)) in
    elf_as g.S.Source g.O.Sink g.E.Sink held
    (λ o. shown_report (numbered_lines (symbol_row o s) 0 (syms_of (items_at o s 0)))) _ c.args.elf.now _
    c.args.outputs.now _
    (λ told. symbol_rows_are c.args.elf.now c.args.table t c.requires.rows.fit c.in-Some.ensures told)
    (elf_says g.S.Source g.O.Sink g.E.Sink held _ c.args.elf.now _ c.args.outputs.now _
    (elf_left g.S.Source c.args.elf.now) (λ told. c.show_symbol_bytes.ensures.reports)
    c.show_symbol_bytes.ensures.leaves)
