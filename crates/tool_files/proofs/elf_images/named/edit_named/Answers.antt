use Rattle.tool_files.proofs.elf_images.NamedLemmas.{named_does}
use Rattle.tool_files.proofs.elf_images.named.edit_named.Goals as goal

pub edit_file-requires : goal.edit_file-requires
edit_file-requires g c = c.requires

pub returns-clause-does : goal.returns-clause-does
returns-clause-does g c = λ told.
    named_does g.F.Files g.O.Sink g.E.Sink (g.T.ImageCommand.named c.args.command.now)
    (g.T.ImageCommand.done c.args.command.now) c.args.file.now c.edit_file.result c.args.files.now
    c.edit_file.new.files c.args.outputs.now c.edit_file.new.outputs
    (c.edit_file.ensures.does told)
