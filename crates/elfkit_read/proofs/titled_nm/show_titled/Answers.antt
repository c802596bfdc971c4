use Rattle.std.specs.Prelude.{codes}
use Rattle.nm_tool.specs.Tool.{nm_report}
use Rattle.elfkit_read.proofs.TitledLemmas.{title_stops, title_then, title_then_stop}
use Rattle.elfkit_read.proofs.titled_nm.show_titled.Goals as goal

pub returns-in-Ok-shown-clause-reports : goal.returns-in-Ok-shown-clause-reports
returns-in-Ok-shown-clause-reports g c =
    let title = c.show_title.ensures in
    title_then g.S.Source g.O.Sink g.E.Sink (codes "nm") c.args.title
    (nm_report c.args.tool.now.options.now) c.args.name.now c.args.front c.args.src
    c.requires.told c.args.outputs.now c.show_title.new.outputs c.in-Ok.titled
    (rw c.in-Ok.is at title.reports) (rw c.in-Ok.is at title.leaves)
    c.show_front-after.result.0 _ c.in-Ok-shown.refused
    (rw c.in-Ok-shown.is at c.show_front-after.ensures.reports)

pub returns-in-Ok-shown-clause-asked : goal.returns-in-Ok-shown-clause-asked
returns-in-Ok-shown-clause-asked g c =
    rw c.in-Ok-shown.is at c.show_front-after.ensures.asked

pub returns-in-Err-shown-clause-reports : goal.returns-in-Err-shown-clause-reports
returns-in-Err-shown-clause-reports g c =
    let title = c.show_title.ensures in
    title_then_stop g.S.Source g.O.Sink g.E.Sink (codes "nm") c.args.title
    (nm_report c.args.tool.now.options.now) c.args.name.now c.args.front c.args.src
    c.requires.told c.args.outputs.now c.show_title.new.outputs c.in-Ok.titled
    (rw c.in-Ok.is at title.reports) (rw c.in-Ok.is at title.leaves)
    c.show_front-after.result.0 _ c.in-Err-shown.stop
    (rw c.in-Err-shown.is at c.show_front-after.ensures.reports)

pub returns-in-Err-clause-reports : goal.returns-in-Err-clause-reports
returns-in-Err-clause-reports g c =
    let title = c.show_title.ensures in
    title_stops g.S.Source g.O.Sink g.E.Sink (codes "nm") c.args.title
    (nm_report c.args.tool.now.options.now) c.args.name.now c.args.front c.args.src
    c.requires.told c.args.outputs.now c.show_title.new.outputs c.in-Err.stop
    (rw c.in-Err.is at title.reports) (rw c.in-Err.is at title.leaves)
