use Rattle.tool_output.proofs.OutcomeLemmas.{reads_done}
use Rattle.elfkit_read.specs.Objects.{object_file_report, objects_outcome}
use Rattle.elfkit_read.proofs.ObjectLemmas.{asked_alike}
use Rattle.elfkit_read.proofs.objects.each_object.Goals as goal

pub returns-clause-does : goal.returns-clause-does
unfolding objects_outcome object_file_report
returns-clause-does g c = λ told.
    let tool = g.T.ObjectTool in
    reads_done g.F.Files g.O.Sink g.E.Sink c.args.files.now _ c.args.outputs.now _ _ _ _ told c.each_file.ensures.reports.reads
    (rw (← c.as_slice.ensures) (asked_alike c.each_file.result (tool.looks c.args.tool.now)
    (tool.looks c.args.member_tool.now) (g.F.Files.named c.args.files.now) _ _ _
    c.requires.looks (c.each_file.ensures.asks told)))
    (rw (← c.as_slice.ensures)
    (rw c.requires.command at (c.each_file.ensures.reports.reports told)))
