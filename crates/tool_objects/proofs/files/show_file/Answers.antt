use Rattle.gelf_view.specs.elf_ident.declared.file_kinds.FileKind.TheVariants.{Archive, Elf, Other}
use Rattle.tool_output.specs.Names.{file_name}
use Rattle.tool_output.proofs.SourceLemmas.{refuses_after}
use Rattle.tool_objects.specs.Images.{image_report, image_asks}
use Rattle.tool_objects.specs.Archives.{archive_report, archive_asks}
use Rattle.tool_objects.proofs.SourceSteps.{after_call}
use Rattle.tool_objects.proofs.ImageLemmas.{elf_is_no_archive, other_is_no_archive}
use Rattle.tool_objects.proofs.FileLemmas.{file_is_archive, file_is_image, kind_is_told, file_within, unread_within}
use Rattle.tool_objects.proofs.files.show_file.Goals as goal

pub returns-in-Ok-Archive-clause-reports : goal.returns-in-Ok-Archive-clause-reports
returns-in-Ok-Archive-clause-reports g c =
    let t = g.T.ObjectTool in
    let of_image = image_report (t.command c.args.tool.now) (t.report c.args.tool.now) in
    let of_archive = archive_report (t.command c.args.member_tool.now) (t.report c.args.member_tool.now) in
    after_call g.S.Source g.O.Sink g.E.Sink _ _ _ _ _ c.args.src _ _ c.args.outputs.now _ c.in-Ok-Archive.ensures.asks
    (file_is_archive of_image of_archive (file_name c.args.file.now) (g.S.Source.holds c.args.src) (rw c.in-Ok-Archive.field-0-is at c.in-Ok-Archive.ensures.kind))
    c.show_archive.ensures.reports

pub returns-in-Ok-Archive-clause-asks : goal.returns-in-Ok-Archive-clause-asks
returns-in-Ok-Archive-clause-asks g c =
    let tool = g.T.ObjectTool in
    let asks = c.in-Ok-Archive.ensures.asks in
    file_within (image_asks (tool.looks c.args.tool.now))
    (archive_asks (tool.looks c.args.member_tool.now)) (g.S.Source.holds c.args.src)
    _ _ Archive _ _ _ asks.leaves.same_bytes
    (rw c.in-Ok-Archive.field-0-is at c.in-Ok-Archive.ensures.kind) asks.taken.no_more
    c.show_archive.ensures.asks

pub returns-in-Ok-Elf-clause-reports : goal.returns-in-Ok-Elf-clause-reports
returns-in-Ok-Elf-clause-reports g c =
    let t = g.T.ObjectTool in
    let of_image = image_report (t.command c.args.tool.now) (t.report c.args.tool.now) in
    let of_archive = archive_report (t.command c.args.member_tool.now) (t.report c.args.member_tool.now) in
    after_call g.S.Source g.O.Sink g.E.Sink _ _ _ _ _ c.args.src _ _ c.args.outputs.now _ c.in-Ok-Elf.ensures.asks
    (file_is_image of_image of_archive (file_name c.args.file.now) (g.S.Source.holds c.args.src) _ (rw c.in-Ok-Elf.field-0-is at c.in-Ok-Elf.ensures.kind) elf_is_no_archive)
    (rw c.of-name.ensures at c.show_source.ensures.reports)

pub returns-in-Ok-Elf-clause-asks : goal.returns-in-Ok-Elf-clause-asks
returns-in-Ok-Elf-clause-asks g c =
    let tool = g.T.ObjectTool in
    let asks = c.in-Ok-Elf.ensures.asks in
    file_within (image_asks (tool.looks c.args.tool.now))
    (archive_asks (tool.looks c.args.member_tool.now)) (g.S.Source.holds c.args.src)
    _ _ Elf _ _ _ asks.leaves.same_bytes
    (rw c.in-Ok-Elf.field-0-is at c.in-Ok-Elf.ensures.kind) asks.taken.no_more
    c.show_source.ensures.asks

pub returns-in-Ok-Other-clause-reports : goal.returns-in-Ok-Other-clause-reports
returns-in-Ok-Other-clause-reports g c =
    let t = g.T.ObjectTool in
    let of_image = image_report (t.command c.args.tool.now) (t.report c.args.tool.now) in
    let of_archive = archive_report (t.command c.args.member_tool.now) (t.report c.args.member_tool.now) in
    after_call g.S.Source g.O.Sink g.E.Sink _ _ _ _ _ c.args.src _ _ c.args.outputs.now _ c.in-Ok-Other.ensures.asks
    (file_is_image of_image of_archive (file_name c.args.file.now) (g.S.Source.holds c.args.src) _ (rw c.in-Ok-Other.field-0-is at c.in-Ok-Other.ensures.kind) other_is_no_archive)
    (rw c.of-name.ensures at c.show_source-in-Ok-Other.ensures.reports)

pub returns-in-Ok-Other-clause-asks : goal.returns-in-Ok-Other-clause-asks
returns-in-Ok-Other-clause-asks g c =
    let tool = g.T.ObjectTool in
    let asks = c.in-Ok-Other.ensures.asks in
    file_within (image_asks (tool.looks c.args.tool.now))
    (archive_asks (tool.looks c.args.member_tool.now)) (g.S.Source.holds c.args.src)
    _ _ Other _ _ _ asks.leaves.same_bytes
    (rw c.in-Ok-Other.field-0-is at c.in-Ok-Other.ensures.kind) asks.taken.no_more
    c.show_source-in-Ok-Other.ensures.asks

pub returns-in-Err-clause-reports : goal.returns-in-Err-clause-reports
returns-in-Err-clause-reports g c =
    let refused = c.refuse-refused.ensures in
    refuses_after g.O.Sink g.E.Sink g.S.Source _ _ _ c.args.src _ c.args.outputs.now _ _ _ c.in-Err.ensures.asks
    (kind_is_told (g.S.Source.holds c.args.src) _ _ c.in-Err.e c.in-Err.ensures.kind)
    (rw c.command.ensures at refused.reports) refused.stops refused.leaves

pub returns-in-Err-clause-asks : goal.returns-in-Err-clause-asks
returns-in-Err-clause-asks g c =
    let tool = g.T.ObjectTool in
    unread_within (image_asks (tool.looks c.args.tool.now))
    (archive_asks (tool.looks c.args.member_tool.now)) (g.S.Source.holds c.args.src) _ _ _
    c.in-Err.ensures.asks.taken.no_more
