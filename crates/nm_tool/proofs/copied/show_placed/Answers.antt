use Rattle.std.proofs.Common.{refl}
use Rattle.tool_output.specs.Reports.{shown_report}
use Rattle.tool_objects.proofs.ElfSteps.{elf_left, elf_says, elf_learns, elf_learns_none}
use Rattle.tool_objects.specs.Symbols.{told_symbol_place}
use Rattle.nm_tool.specs.Tool.{placed_row, listed_symbol_row}
use Rattle.nm_tool.proofs.copied.show_placed.Goals as goal

pub returns-in-Ok : goal.returns-in-Ok
unfolding listed_symbol_row
returns-in-Ok g c =
    let f = c.args.form in
    let row = c.args.row.now in
    let x = c.args.symbol in
    elf_learns g.S.Source g.O.Sink g.E.Sink (λ o. told_symbol_place o c.args.t.symbols.0 row.index x) c.args.elf.now _ c.in-Ok.place
    (λ place o. shown_report (placed_row f.options.now f.file.now o x place row.name.now)) _ _ c.args.outputs.now _ c.in-Ok.ensures
    (elf_says g.S.Source g.O.Sink g.E.Sink (λ o. shown_report (placed_row f.options.now f.file.now o x c.in-Ok.place row.name.now)) _ _ _ c.args.outputs.now _ (elf_left g.S.Source _)
    (λ told. c.show_symbol.ensures.reports c.symbol_place_at.new.elf.o
    (record { class = refl; headers = refl })) c.show_symbol.ensures.leaves)

pub returns-in-Err : goal.returns-in-Err
returns-in-Err g c =
    let f = c.args.form in
    let row = c.args.row.now in
    let s = c.args.t.symbols.0 in
    elf_learns_none g.S.Source g.O.Sink g.E.Sink (λ o. told_symbol_place o s row.index c.args.symbol) c.args.elf.now _ c.in-Err.stop
    (λ o. shown_report (listed_symbol_row f.options.now f.file.now o s row.index row.name.now c.args.symbol)) c.args.outputs.now c.in-Err.ensures
