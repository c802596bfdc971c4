use Rattle.std.proofs.Common.{drop}
use Rattle.tool_output.specs.Reports.{reports_of}
use Rattle.tool_objects.specs.Steps.{ElfUnderWay}
use Rattle.nm_tool.specs.Kept.{kept_report}
use Rattle.nm_tool.proofs.ordered.show_order.Given as goal

abbrev pub invariant-loop-k : goal.invariant-loop-k
invariant-loop-k g l =
    let f = l.form in
    let s = l.t.symbols.0 in
    ElfUnderWay g.S.Source g.O.Sink g.E.Sink l.refused l.initial.elf l.elf l.initial.outputs
    l.outputs (λ o. reports_of (kept_report f.options.now f.file.now o s) l.order)
    (λ o. reports_of (kept_report f.options.now f.file.now o s) (drop l.k-index l.order))
