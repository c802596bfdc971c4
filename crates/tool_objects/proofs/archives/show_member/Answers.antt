use Rattle.std.proofs.Common.{refl}
use Rattle.tool_objects.specs.Images.{image_report}
use Rattle.tool_objects.proofs.MemberAsked.{member_within}
use Rattle.tool_objects.proofs.MemberLemmas.{member_reports, window_reports}
use Rattle.tool_objects.proofs.archives.show_member.Goals as goal

pub returns-clause-reports : goal.returns-clause-reports
returns-clause-reports g c =
    let t = g.T.ObjectTool in
    let report = image_report (t.command c.args.tool.now) (t.report c.args.tool.now) in
    let window = c.body-window.ensures in
    let shown = c.show_source-body.ensures.reports in
    rw c.into_inner.ensures (member_reports g.S.Source g.O.Sink g.E.Sink report
    c.args.file.now c.args.header _ _ _ _ _ _ _ window.range.0 window.range.1
    (rw window.inner at (window_reports g.S.Source g.O.Sink g.E.Sink _ _ c.body-window.result.inner
    c.show_source-body.result.0.inner shown.source.same_rest _ _ _ _ _
    (rw (c.of_member-name.ensures, c.as_slice.ensures) at shown.reports)
    shown.later shown.leaves)))

pub returns-clause-asks : goal.returns-clause-asks
returns-clause-asks g c =
    let window = c.body-window.ensures in
    let holds = g.S.Source.holds c.body-window.result.inner.source in
    rw c.into_inner.ensures (rw window.inner at (member_within
    (g.T.ObjectTool.looks c.args.tool.now) c.args.header holds holds _ _ _ _ _ refl
    window.range.0 window.range.1 c.show_source-body.ensures.asks))
