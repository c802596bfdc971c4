use Rattle.std.proofs.Common.{◌≡◌, length, sym, ap, subst}
use Rattle.elf_types.specs.declared.records.ScnId.{ScnId}
use Rattle.tool_objects.proofs.ElfSteps.{elf_as}
use Rattle.nm_tool.specs.Listed.{symbols_in_table}
use Rattle.nm_tool.specs.Tool.{rows_report}
use Rattle.nm_tool.proofs.ToolLemmas.{tables_are}
use Rattle.nm_tool.proofs.tool.show_told.Goals as goal

pub show_listed-requires-clause-tables : goal.show_listed-requires-clause-tables
show_listed-requires-clause-tables g c =
    tables_are c.args.elf.now.o c.args.s c.tables_of-t.result c.tables_of-t.ensures.symbols
    c.tables_of-t.ensures.names c.tables_of-t.ensures.indexes c.requires.passed

pub show_listed-requires-clause-count : goal.show_listed-requires-clause-count
show_listed-requires-clause-count g c =
    subst (λ (u : ScnId). c.args.count ≡ length (symbols_in_table c.args.elf.now.o u.0))
    (sym c.tables_of-t.ensures.symbols) c.requires.count

pub returns : goal.returns
returns g c =
    let f = c.args.form in
    let t = c.tables_of-t.result in
    elf_as g.S.Source g.O.Sink g.E.Sink
    (λ o. rows_report f.options.now f.file.now o t.symbols.0)
    (λ o. rows_report f.options.now f.file.now o c.args.s.0) _ c.args.elf.now _
    c.args.outputs.now _
    (λ told. ap (λ (u : ScnId). rows_report f.options.now f.file.now c.args.elf.now.o u.0)
    (sym c.tables_of-t.ensures.symbols)) c.show_listed.ensures
