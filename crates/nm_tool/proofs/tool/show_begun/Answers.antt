use Rattle.std.proofs.Common.{arith}
use Rattle.std.specs.Prelude.{codes}
use Rattle.nm_tool.specs.Tool.{nm_report}
use Rattle.nm_tool.proofs.FrontSteps.{begun_reports, begun_asked, refused_begun, went_well, if_some_of_all}
use Rattle.nm_tool.proofs.tool.show_begun.Goals as goal

pub returns-in-Ok-clause-reports : goal.returns-in-Ok-clause-reports
returns-in-Ok-clause-reports g c =
    let f = c.args.form in
    rw c.end.ensures (begun_reports g.S.Source g.O.Sink g.E.Sink (codes "nm")
    (nm_report f.options.now) f.file.now c.args.front c.args.src c.requires.told
    c.show_symbols-shown.result c.in-Ok.elf c.show_symbols-shown.new.elf c.args.outputs.now _
    c.in-Ok.ensures.state c.show_symbols-shown.ensures)

pub returns-in-Ok-clause-asked : goal.returns-in-Ok-clause-asked
returns-in-Ok-clause-asked g c =
    let f = c.args.form in
    rw c.end.ensures (begun_asked g.S.Source g.O.Sink g.E.Sink (codes "nm")
    (nm_report f.options.now) f.file.now c.args.front c.args.src c.requires.told
    c.show_symbols-shown.result c.in-Ok.elf c.show_symbols-shown.new.elf
    c.in-Ok.ensures.state c.show_symbols-shown.ensures.elf)

pub returns-in-Err-clause-reports : goal.returns-in-Err-clause-reports
returns-in-Err-clause-reports g c =
    let refused = c.refuse-refused.ensures in
    refused_begun g.S.Source g.O.Sink g.E.Sink _ c.in-Err.e c.refuse-refused.result c.args.src
    c.in-Err.src c.args.outputs.now _ _ c.in-Err.ensures.back.0 c.in-Err.ensures.back.1
    refused.reports refused.stops refused.leaves

pub returns-in-Err-clause-asked : goal.returns-in-Err-clause-asked
returns-in-Err-clause-asked g c =
    rw c.in-Err.ensures.back.0 (went_well c.refuse-refused.result _
    (if_some_of_all _ (g.S.Source.holds c.args.src) (λ image. omega arith)))
