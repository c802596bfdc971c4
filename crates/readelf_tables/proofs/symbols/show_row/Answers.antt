use Rattle.std.proofs.Common.{ℕ, List, Option, refl, ap}
use Rattle.elf_object.specs.Strings as strings
use Rattle.tool_output.specs.Reports.{shown_report}
use Rattle.tool_objects.proofs.ElfSteps.{elf_as, elf_learns, elf_learns_none}
use Rattle.tool_objects.specs.Symbols.{told_symbol_place}
use Rattle.tool_objects.proofs.at_hand.Ends.{end_stays}
use Rattle.readelf_tables.specs.RowsOfSymbols.SymbolLines.{symbol_line}
use Rattle.readelf_tables.specs.Symbols.{symbol_row}
use Rattle.readelf_tables.proofs.SymbolLemmas.{symbol_name_is}
use Rattle.readelf_tables.proofs.symbols.show_row.Goals as goal

pub returns-in-Ok : goal.returns-in-Ok
unfolding symbol_row
returns-in-Ok g c =
    let s = c.args.s.0 in
    let x = c.args.symbol in
    let names = c.args.links.linked.0 in
    elf_as g.S.Source g.O.Sink g.E.Sink (λ o. shown_report (symbol_line c.args.i x (told_symbol_place o s c.args.i x) (strings.readable (strings.string_answer o names x.name))))
    (λ o. shown_report (symbol_line c.args.i x (told_symbol_place o s c.args.i x) (strings.symbol_name o s x))) _ c.args.elf.now _ c.args.outputs.now _
    (λ told. ap (λ (n : Option (List ℕ)). shown_report (symbol_line c.args.i x (told_symbol_place c.args.elf.now.o s c.args.i x) n)) (symbol_name_is c.args.elf.now.o s x names x.name c.requires.fits.named.linked refl))
    (elf_learns g.S.Source g.O.Sink g.E.Sink (λ o. told_symbol_place o s c.args.i x) c.args.elf.now _ c.in-Ok.place
    (λ v o. shown_report (symbol_line c.args.i x v (strings.readable (strings.string_answer o names x.name)))) _ _ c.args.outputs.now _ c.in-Ok.ensures c.show_symbol.ensures)

pub returns-in-Err : goal.returns-in-Err
returns-in-Err g c =
    elf_learns_none g.S.Source g.O.Sink g.E.Sink (λ o. told_symbol_place o c.args.s.0 c.args.i c.args.symbol) c.args.elf.now _ c.in-Err.stop (λ o. shown_report (symbol_row o c.args.s.0 c.args.i c.args.symbol)) c.args.outputs.now c.in-Err.ensures

pub symbol_place_or_stop-requires : goal.symbol_place_or_stop-requires
symbol_place_or_stop-requires g c = λ extended. c.requires.fits.indexes

pub show_symbol-requires : goal.show_symbol-requires
show_symbol-requires g c =
    end_stays g.S.Source c.args.elf.now c.symbol_place_or_stop.new.elf c.args.links.linked.0 c.args.end
    c.in-Ok.ensures.reads.elf c.requires.end
