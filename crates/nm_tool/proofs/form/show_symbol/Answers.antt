use Rattle.std.proofs.Common.{ℕ, List, sym, subst, ◌∙◌}
use Rattle.tool_output.specs.Reports.{Reports, shown_report}
use Rattle.nm_tool.proofs.ToolLemmas.{row_placed}
use Rattle.nm_tool.proofs.form.show_symbol.Goals as goal

pub returns-clause-reports : goal.returns-clause-reports
returns-clause-reports g c = λ o has.
    let f = c.args.form in
    subst (λ (text : List ℕ). Reports g.O.Sink g.E.Sink c.show_lettered.result
    c.args.outputs.now c.show_lettered.new.outputs (shown_report text))
    (row_placed f.options.now f.file.now o c.args.symbol c.args.place c.class-class.result
    c.is_undefined-undefined.result c.symbol_letter-letter.result c.args.name.now
    (c.class-class.ensures ∙ sym has.class) c.is_undefined-undefined.ensures
    (c.symbol_letter-letter.ensures o has)) c.show_lettered.ensures.reports
