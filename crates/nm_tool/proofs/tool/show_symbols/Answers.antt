use Rattle.elf_types.specs.declared.records.Kind.TheVariants as kinds
use Rattle.elf_object.specs.Answers.{lend_refusal}
use Rattle.tool_objects.proofs.ElfSteps.{elf_left, elf_as, elf_says}
use Rattle.nm_tool.specs.Tool.{table_report, nm_report}
use Rattle.nm_tool.proofs.ToolLemmas.{table_found, table_absent}
use Rattle.nm_tool.proofs.tool.show_symbols.Goals as goal

pub returns-in-Some : goal.returns-in-Some
returns-in-Some g c =
    let f = c.args.form in
    let s = c.in-Some.s in
    elf_as g.S.Source g.O.Sink g.E.Sink
    (λ o. table_report f.options.now f.file.now o s.0 (lend_refusal o kinds.Sym s.0 0))
    (nm_report f.options.now f.file.now) _ c.args.elf.now _ c.args.outputs.now _
    (λ told. table_found f.options.now f.file.now c.args.elf.now.o s c.in-Some.ensures.found)
    c.show_table.ensures

pub returns-in-None : goal.returns-in-None
returns-in-None g c =
    let f = c.args.form in
    elf_says g.S.Source g.O.Sink g.E.Sink (nm_report f.options.now f.file.now) _ c.args.elf.now _
    c.args.outputs.now _ (elf_left g.S.Source c.args.elf.now)
    (λ told. rw (table_absent f.options.now f.file.now c.args.elf.now.o
    c.in-None.ensures.found) c.note_none.ensures.reports)
    c.note_none.ensures.leaves
