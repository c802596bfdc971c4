use Rattle.std.proofs.Common.{◌+◌, ◌-◌, ◌≤◌, IfSome}
use Rattle.tool_objects.specs.Archives.{left_asks}
use Rattle.tool_objects.specs.Images.{image_report}
use Rattle.tool_objects.proofs.MemberLemmas.{left_report}
use Rattle.tool_objects.proofs.SourceSteps.{OnWay}
use Rattle.tool_objects.proofs.archives.show_members.Given as goal

abbrev pub invariant-loop-header : goal.invariant-loop-header
invariant-loop-header g l =
    let tool = g.T.ObjectTool in
    let s = g.S.Source in
    let left = left_report (tool.command l.tool)
    (image_report (tool.command l.tool) (tool.report l.tool)) l.file in
    let first = l.initial.archive in
    record {
      way : OnWay s g.O.Sink g.E.Sink l.refused first.source l.archive.source l.initial.outputs
          l.outputs (left first.walk) (left l.archive.walk);
      asks : IfSome (s.holds first.source)
          (λ bytes. s.taken l.archive.source + left_asks (tool.looks l.tool) bytes l.archive.walk
          ≤ s.taken first.source + left_asks (tool.looks l.tool) bytes first.walk);
    }

abbrev pub decreases-loop-header : goal.decreases-loop-header
decreases-loop-header g l = g.S.Source.size l.archive.source - l.archive.walk.place
