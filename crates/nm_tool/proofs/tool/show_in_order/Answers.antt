use Rattle.std.proofs.Common.{map, ap, sym, ◌∙◌}
use Rattle.tool_output.specs.Reports.{reports_of}
use Rattle.tool_objects.proofs.ElfSteps.{elf_as}
use Rattle.nm_tool.specs.declared.kept.Kept.{Kept}
use Rattle.nm_tool.specs.Kept.{kept_report}
use Rattle.nm_tool.specs.Tool.{rows_report}
use Rattle.nm_tool.proofs.KeptLemmas.{order_reported, kept_reported}
use Rattle.nm_tool.proofs.tool.show_in_order.Goals as goal

pub returns-in-Some : goal.returns-in-Some
returns-in-Some g c =
    let f = c.args.form in
    let s = c.args.t.symbols.0 in
    elf_as g.S.Source g.O.Sink g.E.Sink
    (λ o. reports_of (kept_report f.options.now f.file.now o s) c.as_slice.result.now)
    (λ o. rows_report f.options.now f.file.now o s) _ c.args.elf.now _ c.args.outputs.now _
    (λ told. order_reported f.options.now f.file.now c.args.elf.now.o s c.args.count c.args.list
    (map (λ (k : Kept). k.index) c.in-Some.order) c.requires.count (c.requires.list told)
    (c.in-Some.ensures told)
    ∙ kept_reported f.options.now f.file.now c.args.elf.now.o s c.in-Some.order
    ∙ ap (reports_of (kept_report f.options.now f.file.now c.args.elf.now.o s))
    (sym c.as_slice.ensures))
    c.show_order.ensures
