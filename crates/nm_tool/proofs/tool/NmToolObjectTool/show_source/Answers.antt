use Rattle.std.specs.Prelude.{codes}
use Rattle.tool_output.proofs.SourceLemmas.{refuses_after}
use Rattle.tool_objects.proofs.elf_descriptor.BeginAnswers.{opened_told, opened_refused}
use Rattle.tool_objects.specs.Images.{image_report}
use Rattle.tool_objects.specs.Looks.{looks_over}
use Rattle.tool_objects.proofs.ImageLemmas.{image_refused, refused_asked}
use Rattle.tool_objects.proofs.SourceSteps.{after_read}
use Rattle.nm_tool.specs.Tool.{nm_report}
use Rattle.nm_tool.proofs.FrontSteps.{front_asked}
use Rattle.nm_tool.proofs.tool.NmToolObjectTool.show_source.Goals as goal

pub show_front-requires-clause-told : goal.show_front-requires-clause-told
show_front-requires-clause-told g c =
    opened_told (g.S.Source.holds c.args.src) (g.S.Source.holds c.read_front.new.src)
    c.in-Ok.front c.in-Ok.ensures.asks.leaves.same_bytes c.in-Ok.ensures.front

pub returns-in-Ok-clause-reports : goal.returns-in-Ok-clause-reports
returns-in-Ok-clause-reports g c =
    after_read g.S.Source g.O.Sink g.E.Sink _ _ _ _ c.args.src c.read_front.new.src _
    c.args.outputs.now _ c.in-Ok.ensures.asks c.show_front.ensures.reports

pub returns-in-Ok-clause-asks : goal.returns-in-Ok-clause-asks
returns-in-Ok-clause-asks g c =
    front_asked _ c.in-Ok.front (g.S.Source.holds c.args.src)
    (g.S.Source.holds c.read_front.new.src) _ _ _ c.in-Ok.ensures.asks.leaves.same_bytes
    (opened_told (g.S.Source.holds c.args.src) (g.S.Source.holds c.read_front.new.src)
    c.in-Ok.front c.in-Ok.ensures.asks.leaves.same_bytes c.in-Ok.ensures.front)
    c.in-Ok.ensures.bound c.show_front.ensures.asked

pub returns-in-Err-clause-reports : goal.returns-in-Err-clause-reports
returns-in-Err-clause-reports g c =
    let report = nm_report c.args.self.now.options.now in
    let refused = c.refuse-refused.ensures in
    refuses_after g.O.Sink g.E.Sink g.S.Source
    (image_report (codes "nm") report c.args.name.now) _ _ c.args.src _
    c.args.outputs.now _ _ _ c.in-Err.ensures.asks
    (image_refused (codes "nm") report c.args.name.now (g.S.Source.holds c.args.src) _
    (opened_refused (g.S.Source.holds c.args.src) c.in-Err.e c.in-Err.ensures.front))
    (rw c.command.ensures at refused.reports) refused.stops refused.leaves

pub returns-in-Err-clause-asks : goal.returns-in-Err-clause-asks
returns-in-Err-clause-asks g c =
    refused_asked _ (looks_over 0) (g.S.Source.holds c.args.src) _ _ c.in-Err.ensures.bound
