use Rattle.tool_output.proofs.SourceLemmas.{refuses_after}
use Rattle.tool_objects.proofs.SourceSteps.{after_call}
use Rattle.tool_objects.proofs.MemberAsked.{archive_walked, archive_unwalked}
use Rattle.tool_objects.proofs.MemberLemmas.{archive_begun, archive_refused}
use Rattle.tool_objects.proofs.archives.show_archive.Goals as goal

pub returns-in-Ok-clause-reports : goal.returns-in-Ok-clause-reports
returns-in-Ok-clause-reports g c =
    let t = g.T.ObjectTool in
    rw c.end.ensures (after_call g.S.Source g.O.Sink g.E.Sink _ _ _ _ _ c.args.src _ _ c.args.outputs.now _ c.in-Ok.ensures.asks
    (archive_begun (t.command c.args.tool.now) (t.report c.args.tool.now) c.args.file.now (g.S.Source.holds c.args.src) c.in-Ok.archive.walk c.in-Ok.ensures.begun)
    c.show_members-archive.ensures.reports)

pub returns-in-Err-clause-reports : goal.returns-in-Err-clause-reports
returns-in-Err-clause-reports g c =
    let t = g.T.ObjectTool in
    let refused = c.refuse-refused.ensures in
    refuses_after g.O.Sink g.E.Sink g.S.Source _ _ _ c.args.src _ c.args.outputs.now _ _ _ c.in-Err.ensures.asks
    (archive_refused (t.command c.args.tool.now) (t.report c.args.tool.now) c.args.file.now (g.S.Source.holds c.args.src) c.in-Err.e c.in-Err.ensures.begun)
    (rw (c.command.ensures, c.of.ensures) at refused.reports) refused.stops refused.leaves

pub returns-in-Ok-clause-asks : goal.returns-in-Ok-clause-asks
returns-in-Ok-clause-asks g c =
    let asks = c.in-Ok.ensures.asks in
    rw c.end.ensures (archive_walked (g.T.ObjectTool.looks c.args.tool.now)
    (g.S.Source.holds c.args.src) _ _ asks.taken.no_more _ _ _ _ asks.leaves.same_bytes
    c.in-Ok.ensures.walk
    c.show_members-archive.ensures.asks)

pub returns-in-Err-clause-asks : goal.returns-in-Err-clause-asks
returns-in-Err-clause-asks g c = archive_unwalked (g.T.ObjectTool.looks c.args.tool.now)
    (g.S.Source.holds c.args.src) _ _ c.in-Err.ensures.asks.taken.no_more _
