use Rattle.std.proofs.Common.{sym, subst}
use Rattle.tool_output.specs.Reports.{Report, Reports}
use Rattle.tool_output.proofs.ReportLemmas.{reports_none}
use Rattle.nm_tool.proofs.HeldLemmas.{row_held, none_held}
use Rattle.nm_tool.proofs.at_hand.show_held.Goals as goal

pub item_of-requires : goal.item_of-requires
item_of-requires g c = c.requires

pub returns-in-Some-clause-reports : goal.returns-in-Some-clause-reports
returns-in-Some-clause-reports g c = λ o s tells.
    let f = c.args.form in
    subst (λ (r : Report). Reports g.O.Sink g.E.Sink c.show_symbol.result c.args.outputs.now
    c.show_symbol.new.outputs r)
    (sym (row_held f.options.now f.file.now o s c.args.bytes tells.symbols tells.names c.args.k
    c.from-i.result c.in-Some.symbol c.plain_place-place.result c.name_at-name.result.now
    c.from-i.ensures c.in-Some.ensures c.plain_place-place.ensures c.name_at-name.ensures))
    (c.show_symbol.ensures.reports o tells.headers)

pub returns-in-None-clause-reports : goal.returns-in-None-clause-reports
returns-in-None-clause-reports g c = λ o s tells.
    let f = c.args.form in
    rw (none_held f.options.now f.file.now o s c.args.bytes tells.symbols tells.names c.args.k
    c.from-i.result c.from-i.ensures c.in-None.ensures)
    (reports_none g.O.Sink g.E.Sink c.args.outputs.now)
