use Rattle.rebuild_join.proofs.elf_descriptor.BeginAnswers.{begun_clean}
use Rattle.rebuild_files.proofs.BegunLemmas.{begun_over}
use Rattle.unstrip_tool.proofs.commands.SplitCommandImageCommand.write.Goals as goal

pub write_halves-requires-clause-over : goal.write_halves-requires-clause-over
write_halves-requires-clause-over g c =
    begun_over g.S.Source c.requires.source c.args.elf c.requires.begun

pub write_halves-requires-clause-clean : goal.write_halves-requires-clause-clean
write_halves-requires-clause-clean g c =
    begun_clean g.S.Source c.requires.source c.args.elf c.requires.begun
