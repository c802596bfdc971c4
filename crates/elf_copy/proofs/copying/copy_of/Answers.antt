use Rattle.std.proofs.Common.{Ok, refl}
use Rattle.rebuild_object.specs.rebuild_keep.declared.rebuilding.Rebuilt.{Rebuilt as Made}
use Rattle.rebuild_object.proofs.rebuild_keep.AskLaws.{asks_as, asks_stop}
use Rattle.rebuild_object.specs.Objects.{object_due}
use Rattle.rebuild_changes.specs.Stated.{stated_changes}
use Rattle.elf_copy.proofs.CopyLaws.{copy_made, copy_unmade, copy_fault}
use Rattle.elf_copy.proofs.copying.copy_of.Goals as goal

pub returns-in-Err : goal.returns-in-Err
returns-in-Err g c =
    copy_fault g.S.Source (stated_changes c.args.changes.now) c.args.elf.now
    c.arrange_copied.new.elf c.in-Err.fault c.in-Err.ensures

pub returns-in-Ok-object_of : goal.returns-in-Ok-object_of
returns-in-Ok-object_of g c =
    let made : Made = record { elf = c.in-Ok-object_of.made; tail = c.in-Ok.x.tail } in
    copy_made g.S.Source (stated_changes c.args.changes.now) c.args.elf.now
    c.arrange_copied.new.elf c.object_of.new.elf c.in-Ok.x c.in-Ok.ensures made refl
    c.in-Ok-object_of.ensures.object c.in-Ok-object_of.ensures.read
    c.in-Ok-object_of.ensures.told
    (asks_as g.S.Source (Ok c.in-Ok-object_of.made) (Ok made) c.arrange_copied.new.elf
    c.object_of.new.elf (object_due c.in-Ok.x) tt c.in-Ok-object_of.ensures.asks)

pub returns : goal.returns
returns g c =
    copy_unmade g.S.Source (stated_changes c.args.changes.now) c.args.elf.now
    c.arrange_copied.new.elf c.object_of.new.elf c.in-Ok.x c.in-Ok.ensures
    c.in-Err-object_of.e c.in-Err-object_of.ensures.err
    (asks_stop g.S.Source {U = Made} c.in-Err-object_of.e c.arrange_copied.new.elf
    c.object_of.new.elf (object_due c.in-Ok.x) c.in-Err-object_of.ensures.asks)
