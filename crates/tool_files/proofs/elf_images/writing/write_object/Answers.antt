use Rattle.tool_files.proofs.elf_images.WriteLemmas.{laid_passes, updated_written, updated_refused}
use Rattle.tool_files.proofs.elf_images.writing.write_object.Goals as goal

pub write_image-requires : goal.write_image-requires
write_image-requires g c =
    laid_passes g.S.Source g.F.Files g.O.Sink g.E.Sink c.args.command.now c.args.file.now
    c.args.out.now c.args.elf.now _ _ c.dirty-dirty.ensures.sound.object c.in-Ok.ensures

pub returns-in-Ok : goal.returns-in-Ok
returns-in-Ok g c =
    updated_written g.S.Source g.F.Files g.O.Sink g.E.Sink c.args.command.now c.args.file.now
    c.args.out.now c.args.elf.now c.update_null.new.elf _ _ c.write_image.result
    c.args.files.now _ c.args.outputs.now _ c.dirty-dirty.ensures.sound.object c.in-Ok.ensures
    c.write_image.ensures.does c.write_image.ensures.leaves c.write_image.ensures.source
    c.write_image.ensures.live

pub returns-in-Err : goal.returns-in-Err
returns-in-Err g c =
    updated_refused g.S.Source g.F.Files g.O.Sink g.E.Sink c.args.command.now c.args.file.now
    c.args.out.now c.args.elf.now c.update_null.new.elf c.in-Err.e c.refuse_for.result
    c.args.files.now c.args.outputs.now _ c.in-Err.ensures c.refuse_for.ensures
