use Rattle.std.specs.Prelude.{codes}
use Rattle.tool_output.specs.Names.{file_name}
use Rattle.elfkit_outcomes.specs.tool_objects.Images.{image_report}
use Rattle.selftest_tool.specs.Told.{told_report, told_outcome}
use Rattle.selftest_tool.proofs.FileLemmas.{told_edits}
use Rattle.selftest_tool.proofs.telling.ToldFileEdit.edit.Goals as goal

pub returns : goal.returns
unfolding told_outcome
returns g c =
    told_edits g.F.Files g.O.Sink g.E.Sink g.S.Source
    (image_report (codes "selftest") (told_report c.args.self.now.count)
    (file_name c.args.name.now)) _ c.args.src _ c.args._files.now c.args.outputs.now _
    (rw c.of.ensures at c.show_source.ensures.reports)
