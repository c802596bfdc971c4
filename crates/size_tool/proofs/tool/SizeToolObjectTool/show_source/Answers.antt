use Rattle.std.specs.Prelude.{codes}
use Rattle.elf_ident.specs.Front.{most_front_bytes}
use Rattle.tool_output.proofs.SourceLemmas.{reports_after, refuses_after}
use Rattle.tool_objects.specs.Looks.{no_look}
use Rattle.tool_objects.specs.Images.{image_report}
use Rattle.tool_objects.proofs.ImageLemmas.{image_refused, refused_asked}
use Rattle.size_tool.specs.Tool.{size_report}
use Rattle.size_tool.proofs.FrontSums.{sums_reported, object_refused}
use Rattle.size_tool.proofs.tool.SizeToolObjectTool.show_source.Goals as goal

pub returns-in-Ok-clause-reports : goal.returns-in-Ok-clause-reports
returns-in-Ok-clause-reports g c =
    reports_after g.O.Sink g.E.Sink g.S.Source
    (image_report (codes "size") size_report c.args.name.now) c.show_sums-shown.result
    most_front_bytes c.args.src c.sum_source.new.src c.args.outputs.now _ c.in-Ok.sums
    c.in-Ok.ensures.asks
    (sums_reported (codes "size") c.args.name.now g.O.Sink g.E.Sink _ _ _
    (g.S.Source.holds c.args.src) c.in-Ok.sums c.in-Ok.ensures.sums
    c.show_sums-shown.ensures.reports)
    c.show_sums-shown.ensures.leaves

pub returns-in-Ok-clause-asks : goal.returns-in-Ok-clause-asks
returns-in-Ok-clause-asks g c =
    refused_asked _ no_look (g.S.Source.holds c.args.src) _ _ c.in-Ok.ensures.bound

pub returns-in-Ok-clause-unread : goal.returns-in-Ok-clause-unread
returns-in-Ok-clause-unread g c = λ off. c.in-Ok.ensures.bound

pub returns-in-Err-clause-reports : goal.returns-in-Err-clause-reports
returns-in-Err-clause-reports g c =
    let refused = c.refuse-refused.ensures in
    refuses_after g.O.Sink g.E.Sink g.S.Source
    (image_report (codes "size") size_report c.args.name.now) _ _ c.args.src _
    c.args.outputs.now _ _ _ c.in-Err.ensures.asks
    (image_refused (codes "size") size_report c.args.name.now (g.S.Source.holds c.args.src) _
    (object_refused (g.S.Source.holds c.args.src) _ c.in-Err.ensures.sums))
    (rw c.command.ensures at refused.reports) refused.stops refused.leaves

pub returns-in-Err-clause-asks : goal.returns-in-Err-clause-asks
returns-in-Err-clause-asks g c =
    refused_asked _ no_look (g.S.Source.holds c.args.src) _ _ c.in-Err.ensures.bound

pub returns-in-Err-clause-unread : goal.returns-in-Err-clause-unread
returns-in-Err-clause-unread g c = λ off. c.in-Err.ensures.bound
