use Rattle.std.proofs.Common.{◌+◌, refl, arith}
use Rattle.std.proofs.lemmas.Result.{err_from_is_err_and}
use Rattle.tool_objects.proofs.ElfSteps.{elf_says, elf_left, elf_over, elf_failed, elf_then, elf_then_stop, elf_stop}
use Rattle.elfkit_read.specs.Titles.{title_report, titled_report}
use Rattle.elfkit_read.proofs.titles.TitledObjectTool.show.Goals as goal

pub returns-in_err-title-clause-reports : goal.returns-in_err-title-clause-reports
unfolding titled_report
returns-in_err-title-clause-reports g c =
    let p = err_from_is_err_and c.from_residual.result c.from_residual.ensures.1 in
    let has_title = c.args.self.now.title in
    rw (p.1, p.2) (elf_failed g.S.Source g.O.Sink g.E.Sink _ _ c.args.elf.now _ c.args.outputs.now _
    (elf_stop g.S.Source g.O.Sink g.E.Sink (λ o. title_report has_title c.args.name.now) (g.T.ObjectTool.report c.args.self.now.tool.now c.args.name.now) c.args.elf.now _ c.args.outputs.now _ _
    (elf_says g.S.Source g.O.Sink g.E.Sink (λ o. title_report has_title c.args.name.now) _ c.args.elf.now _ c.args.outputs.now _ (elf_left g.S.Source c.args.elf.now)
    (λ told. c.in_err-title.ensures.reports) c.in_err-title.ensures.leaves)))

pub returns-in_err-shown-clause-reports : goal.returns-in_err-shown-clause-reports
unfolding titled_report
returns-in_err-shown-clause-reports g c =
    let p = err_from_is_err_and c.from_residual-in_err-shown.result c.from_residual-in_err-shown.ensures.1 in
    let has_title = c.args.self.now.title in
    rw (p.1, p.2) (elf_failed g.S.Source g.O.Sink g.E.Sink _ _ c.args.elf.now _ c.args.outputs.now _
    (elf_then_stop g.S.Source g.O.Sink g.E.Sink (λ o. title_report has_title c.args.name.now) (g.T.ObjectTool.report c.args.self.now.tool.now c.args.name.now) c.args.elf.now _ _ c.args.outputs.now _ _ _ _
    (elf_says g.S.Source g.O.Sink g.E.Sink (λ o. title_report has_title c.args.name.now) _ c.args.elf.now _ c.args.outputs.now _ (elf_left g.S.Source c.args.elf.now)
    (λ told. c.in_ok-title.ensures.reports) c.in_ok-title.ensures.leaves) c.in_err-shown.ensures.reports))

pub returns-clause-reports : goal.returns-clause-reports
unfolding titled_report
returns-clause-reports g c =
    let has_title = c.args.self.now.title in
    let passes = (g.T.ObjectTool.looks c.args.self.now.tool.now).passes in
    elf_over g.S.Source g.O.Sink g.E.Sink (0 + passes) passes _ _ c.args.elf.now _
    c.args.outputs.now _ (omega arith)
    (elf_then g.S.Source g.O.Sink g.E.Sink (λ o. title_report has_title c.args.name.now) (g.T.ObjectTool.report c.args.self.now.tool.now c.args.name.now) c.args.elf.now _ _ c.args.outputs.now _ _ _ _ _ refl
    (elf_says g.S.Source g.O.Sink g.E.Sink (λ o. title_report has_title c.args.name.now) _ c.args.elf.now _ c.args.outputs.now _ (elf_left g.S.Source c.args.elf.now)
    (λ told. c.in_ok-title.ensures.reports) c.in_ok-title.ensures.leaves) c.in_ok-shown.ensures.reports)
