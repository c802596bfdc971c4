use Rattle.rebuild_files.specs.tool_objects.Images.{file_object}
use Rattle.rebuild_changes.specs.Stated.{stated_changes}
use Rattle.copy_tool.proofs.WriteLemmas.{copy_unwritten}
use Rattle.copy_tool.proofs.commands.copy_named.Goals as goal

pub edit_named-requires : goal.edit_named-requires
edit_named-requires g c = λ bytes.
    rw c.new-command.ensures (copy_unwritten (stated_changes c.args.changes.now) c.args.out.now
    c.args.file.now c.requires.apart (file_object bytes))

pub returns-clause-does : goal.returns-clause-does
returns-clause-does g c = rw c.new-command.ensures at c.edit_named.ensures.does
