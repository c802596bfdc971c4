use Rattle.tool_files.proofs.elf_images.WriteLemmas.{edits_written, edits_refused}
use Rattle.tool_files.proofs.elf_images.edits.ImageEditFileEdit.edit.Goals as goal

pub write-requires : goal.write-requires
write-requires g c = record {
  source = c.args.src;
  begun = c.in-Ok.ensures.begun;
  sound = c.dirty-sound.ensures.sound;
}

pub returns-in-Ok : goal.returns-in-Ok
returns-in-Ok g c =
    edits_written g.S.Source g.F.Files g.O.Sink g.E.Sink
    (g.T.ImageCommand.named c.args.self.now.command.now)
    (g.T.ImageCommand.done c.args.self.now.command.now) c.args.name.now _
    c.args.src c.args.files.now _ c.args.outputs.now _ c.in-Ok.elf
    (record c.in-Ok.elf { source = c.write.result.0 }) _
    c.in-Ok.ensures.asks c.in-Ok.ensures.answer c.in-Ok.ensures.told c.write.ensures

pub returns-in-Err : goal.returns-in-Err
returns-in-Err g c =
    edits_refused g.S.Source g.F.Files g.O.Sink g.E.Sink
    (g.T.ImageCommand.named c.args.self.now.command.now)
    (g.T.ImageCommand.done c.args.self.now.command.now) c.args.name.now _ c.args.src
    c.args.files.now c.args.outputs.now _ _ _ _ c.in-Err.ensures.asks c.in-Err.ensures.answer
    (rw c.name.ensures at c.refuse_for-refused.ensures)
