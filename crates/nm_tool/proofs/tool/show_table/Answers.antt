use Rattle.std.proofs.Common.{sym, ◌∙◌}
use Rattle.elf_types.specs.declared.records.Kind.TheVariants as kinds
use Rattle.elf_object.specs.Answers.{count_at, items_at, lend_refusal}
use Rattle.elf_object.proofs.AnswerLaws.{answered_value, answered_refusal, lend_kind}
use Rattle.tool_objects.proofs.ElfSteps.{elf_left, elf_as, elf_says}
use Rattle.nm_tool.specs.Tool.{rows_report, table_report}
use Rattle.nm_front.proofs.PlainLaws.{sym_items_counted}
use Rattle.nm_tool.proofs.ToolLemmas.{table_told, table_refused, count_is}
use Rattle.nm_tool.proofs.tool.show_table.Goals as goal

pub show_told-requires-clause-passed : goal.show_told-requires-clause-passed
show_told-requires-clause-passed g c =
    (answered_value (lend_refusal c.args.elf.now.o kinds.Sym c.args.s.0 0) (count_at c.args.elf.now.o c.args.s.0 0) c.in-Ok.count (sym c.in-Ok.ensures.answer)).0

pub show_told-requires-clause-count : goal.show_told-requires-clause-count
show_told-requires-clause-count g c =
    let o = c.args.elf.now.o in
    let value = answered_value (lend_refusal o kinds.Sym c.args.s.0 0) (count_at o c.args.s.0 0) c.in-Ok.count (sym c.in-Ok.ensures.answer) in
    value.1 ∙ count_is o c.args.s.0 0 ∙ sym (sym_items_counted (items_at o c.args.s.0 0) (lend_kind o kinds.Sym c.args.s.0 0 value.0))

pub returns-in-Ok : goal.returns-in-Ok
returns-in-Ok g c =
    let f = c.args.form in
    let s = c.args.s.0 in
    let o = c.args.elf.now.o in
    let value = answered_value (lend_refusal o kinds.Sym s 0) (count_at o s 0) c.in-Ok.count (sym c.in-Ok.ensures.answer) in
    elf_as g.S.Source g.O.Sink g.E.Sink (λ o. rows_report f.options.now f.file.now o s) (λ o. table_report f.options.now f.file.now o s (lend_refusal o kinds.Sym s 0)) _ c.args.elf.now _ c.args.outputs.now _
    (λ told. table_told f.options.now f.file.now o s (lend_refusal o kinds.Sym s 0) value.0) c.show_told.ensures

pub returns-in-Err : goal.returns-in-Err
returns-in-Err g c =
    let f = c.args.form in
    let s = c.args.s.0 in
    let o = c.args.elf.now.o in
    let refused = answered_refusal (lend_refusal o kinds.Sym s 0) (count_at o s 0) c.in-Err.e (sym c.in-Err.ensures.answer) in
    elf_says g.S.Source g.O.Sink g.E.Sink (λ o. table_report f.options.now f.file.now o s (lend_refusal o kinds.Sym s 0)) _ c.args.elf.now _ c.args.outputs.now _ (elf_left g.S.Source c.args.elf.now)
    (λ told. rw (table_refused f.options.now f.file.now o s (lend_refusal o kinds.Sym s 0) c.in-Err.e refused) c.refuse.ensures.reports) c.refuse.ensures.leaves
