use Rattle.std.proofs.Common.{ℕ, sym, ap, subst}
use Rattle.elf_object.specs.Object.{Object}
use Rattle.elf_object.specs.Strings.{readable, string_answer, symbol_name}
use Rattle.tool_output.specs.Reports.{shown_report}
use Rattle.tool_objects.proofs.ElfSteps.{elf_as, elf_learns, elf_learns_none}
use Rattle.tool_objects.specs.Symbols.{told_symbol_place}
use Rattle.tool_objects.proofs.at_hand.Ends.{end_stays}
use Rattle.nm_tool.specs.Kept.{shown_row}
use Rattle.nm_tool.specs.Listed.{shown_symbol_name, name_or_none}
use Rattle.nm_tool.specs.Tables.{AreTables}
use Rattle.nm_tool.specs.Tool.{placed_row, listed_symbol_row}
use Rattle.nm_tool.proofs.ordered.show_looked.Goals as goal

pub show_named-requires : goal.show_named-requires
show_named-requires g c =
    end_stays g.S.Source c.args.elf.now c.symbol_place_at.new.elf c.args.t.names.0 c.args.end
    c.in-Ok.ensures.reads.elf c.requires.end

pub returns-in-Ok : goal.returns-in-Ok
unfolding shown_row listed_symbol_row shown_symbol_name symbol_name
returns-in-Ok g c =
    let f = c.args.form in
    let s = c.args.t.symbols.0 in
    let x = c.args.symbol in
    let b = c.symbol_place_at.new.elf in
    let p = c.in-Ok.place in
    let tables = subst (λ (o : Object). AreTables o c.args.t)
    (sym c.in-Ok.ensures.reads.elf.object) c.requires.tables in
    elf_learns g.S.Source g.O.Sink g.E.Sink (λ o. told_symbol_place o s c.args.i x) c.args.elf.now _ p
    (λ place o. shown_report (placed_row f.options.now f.file.now o x place (shown_symbol_name o s x))) _ _
    c.args.outputs.now _ c.in-Ok.ensures
    (elf_as g.S.Source g.O.Sink g.E.Sink
    (λ o. shown_report (placed_row f.options.now f.file.now o x p
    (name_or_none (readable (string_answer o c.args.t.names.0 x.name)))))
    (λ o. shown_report (placed_row f.options.now f.file.now o x p (shown_symbol_name o s x))) _ b _
    c.args.outputs.now _
    (λ told. sym (ap (λ (n : ℕ). shown_report (placed_row f.options.now f.file.now b.o x p
    (name_or_none (readable (string_answer b.o n x.name))))) tables.names))
    c.show_named.ensures)

pub returns-in-Err : goal.returns-in-Err
returns-in-Err g c =
    let f = c.args.form in
    let s = c.args.t.symbols.0 in
    elf_learns_none g.S.Source g.O.Sink g.E.Sink (λ o. told_symbol_place o s c.args.i c.args.symbol)
    c.args.elf.now _ c.in-Err.stop
    (λ o. shown_report (shown_row f.options.now f.file.now o s c.args.i c.args.symbol))
    c.args.outputs.now c.in-Err.ensures
