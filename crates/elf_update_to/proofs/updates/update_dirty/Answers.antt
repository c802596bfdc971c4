use Rattle.elf_update_to.proofs.UpdateLaws.{wants_passed, refused}
use Rattle.elf_update_to.proofs.updates.update_dirty.Goals as goal

pub returns-in-Err : goal.returns-in-Err
returns-in-Err g c =
    refused g.S.Source g.K.Sink c.in-Err.e c.args.elf.now c.args.sink.now c.in-Err.ensures.err

pub returns-in-Err-new : goal.returns-in-Err-new
returns-in-Err-new g c =
    refused g.S.Source g.K.Sink c.in-Err-new.e c.args.elf.now c.args.sink.now
    (wants_passed c.args.elf.now.o c.in-Err-new.e c.in-Ok.ensures.ok.ready.passed
    c.in-Err-new.ensures.err)

pub returns-in-Err-write_planned : goal.returns-in-Err-write_planned
returns-in-Err-write_planned g c = c.in-Err-write_planned.ensures

pub returns : goal.returns
returns g c = c.in_default.ensures
