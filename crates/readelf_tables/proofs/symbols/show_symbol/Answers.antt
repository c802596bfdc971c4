use Rattle.std.proofs.Common.{sym, ◌∙◌}
use Rattle.elf_object.specs.Strings as strings
use Rattle.tool_output.specs.Reports.{shown_report}
use Rattle.tool_objects.proofs.ElfSteps.{elf_left, elf_says, elf_unread}
use Rattle.readelf_tables.specs.RowsOfSymbols.SymbolLines.{symbol_line}
use Rattle.readelf_rows.proofs.LinkLemmas.{string_is}
use Rattle.tool_objects.proofs.LearnLemmas.{elf_read}
use Rattle.tool_objects.proofs.at_hand.Ends.{unreadable_past}
use Rattle.readelf_tables.proofs.symbols.show_symbol.Goals as goal

pub returns-then-is_past : goal.returns-then-is_past
returns-then-is_past g c =
    let x = c.args.symbol in
    elf_says g.S.Source g.O.Sink g.E.Sink (λ o. shown_report (symbol_line c.args.index x c.args.place
    (strings.readable (strings.string_answer o c.args.names.0 x.name)))) _ c.args.elf.now _
    c.args.outputs.now _ (elf_left g.S.Source c.args.elf.now)
    (λ told. rw (unreadable_past c.args.elf.now.o c.args.names.0 c.args.end c.from-at.result x.name
    c.from-at.ensures (c.requires told) (sym c.is_past.ensures ∙ c.if-is_past.true))
    c.show_unnamed.ensures.reports) c.show_unnamed.ensures.leaves

pub returns-in-Ok : goal.returns-in-Ok
returns-in-Ok g c =
    let x = c.args.symbol in
    elf_says g.S.Source g.O.Sink g.E.Sink (λ o. shown_report (symbol_line c.args.index x c.args.place (strings.readable (strings.string_answer o c.args.names.0 x.name)))) _ c.args.elf.now _ c.args.outputs.now _
    (elf_read g.S.Source _ _ c.args.elf.now _ c.in-Ok.is c.string_at.follows.holds-at-none) (λ told. rw (string_is c.args.elf.now.o c.args.names.0 _ x.name c.from-at.ensures, ← c.in-Ok.ensures.value told) c.show.ensures.reports) c.show.ensures.leaves

pub returns-in-Err : goal.returns-in-Err
returns-in-Err g c =
    let x = c.args.symbol in
    elf_unread g.S.Source g.O.Sink g.E.Sink _ c.in-Err.stop (λ o. shown_report (symbol_line c.args.index x c.args.place (strings.readable (strings.string_answer o c.args.names.0 x.name)))) c.args.elf.now _ c.args.outputs.now
    (rw c.in-Err.is at c.string_at.follows.holds-at-none)
