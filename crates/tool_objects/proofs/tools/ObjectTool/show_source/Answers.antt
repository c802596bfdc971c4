use Rattle.tool_output.proofs.SourceLemmas.{refuses_after}
use Rattle.tool_objects.proofs.ImageLemmas.{image_shown, image_refused, image_asked, image_unread, refused_asked}
use Rattle.tool_objects.proofs.tools.ObjectTool.show_source.Goals as goal

pub returns-in-Ok-clause-reports : goal.returns-in-Ok-clause-reports
returns-in-Ok-clause-reports g c =
    let t = g.Self.ObjectTool in
    rw c.end.ensures (image_shown (t.command c.args.self.now) (t.report c.args.self.now) c.args.name.now g.S.Source g.O.Sink g.E.Sink _ c.args.src c.in-Ok.elf _ c.args.outputs.now _ _
    c.in-Ok.ensures.asks c.in-Ok.ensures.answer c.in-Ok.ensures.begun c.show-shown.ensures.reports)

pub returns-in-Ok-clause-asks : goal.returns-in-Ok-clause-asks
returns-in-Ok-clause-asks g c =
    let shown = c.show-shown.ensures in
    rw c.end.ensures (image_asked g.S.Source c.args.src (g.Self.ObjectTool.looks c.args.self.now) _ c.in-Ok.elf _
    c.in-Ok.ensures.answer c.in-Ok.ensures.bound shown.reports.elf shown.unread)

pub returns-in-Ok-clause-unread : goal.returns-in-Ok-clause-unread
returns-in-Ok-clause-unread g c = λ off.
    rw c.end.ensures (image_unread g.S.Source c.args.src (g.Self.ObjectTool.looks c.args.self.now) c.in-Ok.elf _
    (c.show-shown.ensures.unread off) c.in-Ok.ensures.bound)

pub returns-in-Err-clause-reports : goal.returns-in-Err-clause-reports
returns-in-Err-clause-reports g c =
    let t = g.Self.ObjectTool in
    let refused = c.refuse-refused.ensures in
    refuses_after g.O.Sink g.E.Sink g.S.Source _ _ _ c.args.src _ c.args.outputs.now _ _ _ c.in-Err.ensures.asks
    (image_refused (t.command c.args.self.now) (t.report c.args.self.now) c.args.name.now (g.S.Source.holds c.args.src) _ c.in-Err.ensures.answer)
    (rw c.command.ensures at refused.reports) refused.stops refused.leaves

pub returns-in-Err-clause-asks : goal.returns-in-Err-clause-asks
returns-in-Err-clause-asks g c =
    refused_asked _ (g.Self.ObjectTool.looks c.args.self.now) (g.S.Source.holds c.args.src) _ _ c.in-Err.ensures.bound

pub returns-in-Err-clause-unread : goal.returns-in-Err-clause-unread
returns-in-Err-clause-unread g c = λ off. c.in-Err.ensures.bound
