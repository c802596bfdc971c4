use Rattle.std.proofs.Common.{sym, subst}
use Rattle.tool_output.specs.Reports.{Report, Reports}
use Rattle.nm_tool.proofs.HeldLemmas.{order_held}
use Rattle.nm_tool.proofs.at_hand.show_at_hand.Goals as goal

pub returns-clause-reports : goal.returns-clause-reports
returns-clause-reports g c = λ o s tells.
    let f = c.args.form in
    subst (λ (r : Report). Reports g.O.Sink g.E.Sink c.show_each.result c.args.outputs.now
    c.show_each.new.outputs r)
    (sym (order_held f.options.now f.file.now o s c.args.bytes tells.symbols tells.names
    f.options.now.by_value c.args.list c.ranked-order.result c.as_slice.result.now
    c.ranked-order.ensures c.as_slice.ensures))
    (c.show_each.ensures.reports o s tells)
