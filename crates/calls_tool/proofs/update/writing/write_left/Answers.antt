use Rattle.calls_tool.proofs.update.LeftLemmas.{laid_passes, left_is_laid, left_is_refused}
use Rattle.calls_tool.proofs.update.writing.write_left.Goals as goal

pub write_laid-requires : goal.write_laid-requires
write_laid-requires g c =
    laid_passes c.args.elf.now _ _ c.dirty-dirty.ensures.sound.object c.in-Ok.ensures

pub returns-in-Ok : goal.returns-in-Ok
returns-in-Ok g c =
    left_is_laid g.S.Source g.F.Files g.O.Sink g.E.Sink c.args.out.now c.args.elf.now _
    c.args.files.now _ c.args.outputs.now _ _ _ _ c.dirty-dirty.ensures.sound.object
    c.in-Ok.ensures c.write_laid.ensures

pub returns-in-Err : goal.returns-in-Err
returns-in-Err g c =
    left_is_refused g.S.Source g.F.Files g.O.Sink g.E.Sink c.args.out.now c.args.elf.now
    c.args.elf.now c.args.files.now c.args.files.now c.args.outputs.now _ c.update_null.new.elf _ _
    c.in-Err.ensures c.show_answer.ensures
