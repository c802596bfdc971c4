use Rattle.std.proofs.Common.{codes, subst}
use Rattle.tool_output.specs.Made.{written_outcome}
use Rattle.rebuild_files.specs.tool_files.ElfImages.Writes.{WritesFile}
use Rattle.copy_tool.specs.Writes.{Copying, copied_done}
use Rattle.rebuild_files.proofs.elf_descriptor.BeginAnswers.{begun_clean}
use Rattle.rebuild_files.proofs.BegunLemmas.{begun_over}
use Rattle.copy_tool.proofs.commands.CopyCommandImageCommand.write.Goals as goal

pub write_copied-requires-clause-over : goal.write_copied-requires-clause-over
write_copied-requires-clause-over g c =
    begun_over g.S.Source c.requires.source c.args.elf c.requires.begun

pub write_copied-requires-clause-clean : goal.write_copied-requires-clause-clean
write_copied-requires-clause-clean g c =
    begun_clean g.S.Source c.requires.source c.args.elf c.requires.begun

pub write_copied-requires-clause-names : goal.write_copied-requires-clause-names
write_copied-requires-clause-names g c = c.self.invariant

pub returns : goal.returns
returns g c =
    subst (λ (x : Copying). WritesFile g.S.Source g.F.Files g.O.Sink g.E.Sink
    (written_outcome (codes "copy") (copied_done x.changes c.args.file.now x.out c.args.elf.o))
    c.write_copied.result.1 c.args.elf
    (record c.args.elf { source = c.write_copied.result.0 }) c.args.files.now
    c.write_copied.new.files c.args.outputs.now c.write_copied.new.outputs)
    c.self.view_is c.write_copied.ensures
