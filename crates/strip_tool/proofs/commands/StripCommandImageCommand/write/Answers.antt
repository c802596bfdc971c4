use Rattle.rebuild_files.proofs.elf_descriptor.BeginAnswers.{begun_clean}
use Rattle.rebuild_files.proofs.BegunLemmas.{begun_over}
use Rattle.strip_tool.proofs.commands.StripCommandImageCommand.write.Goals as goal

pub write_stripped-requires-clause-over : goal.write_stripped-requires-clause-over
write_stripped-requires-clause-over g c =
    begun_over g.S.Source c.requires.source c.args.elf c.requires.begun

pub write_stripped-requires-clause-clean : goal.write_stripped-requires-clause-clean
write_stripped-requires-clause-clean g c =
    begun_clean g.S.Source c.requires.source c.args.elf c.requires.begun
