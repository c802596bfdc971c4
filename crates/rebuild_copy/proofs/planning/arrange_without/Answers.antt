use Rattle.std.proofs.Common.{sym, subst}
use Rattle.elf_object.specs.Valid.{IsObject}
use Rattle.rebuild_changes.specs.Stated.{stated_changes}
use Rattle.rebuild_plan.proofs.TiedLaws.{sound_fits}
use Rattle.rebuild_copy.proofs.PlanLaws.{without_stop, without_arranged}
use Rattle.rebuild_copy.proofs.planning.arrange_without.Goals as goal

pub arrange_ready-requires-clause-object : goal.arrange_ready-requires-clause-object
arrange_ready-requires-clause-object g c =
    subst IsObject (sym c.in-Ok.ensures.asks.object) c.dirty-sound.ensures.sound.object

pub returns-in-Ok : goal.returns-in-Ok
returns-in-Ok g c =
    without_arranged g.S.Source (stated_changes c.args.changes.now) c.args.removed.now
    c.args.elf.now c.arrange_rebuilt.new.elf c.dirty-sound.ensures.sound.object
    c.requires.clean
    (sound_fits c.args.elf.now.o (g.S.Source.holds c.args.elf.now.source) c.args.elf.now.told
    c.dirty-sound.ensures.told c.dirty-sound.ensures.sound c.requires.clean)
    c.requires.removable c.in-Ok.x c.renews_names-renewed.result c.arrange_ready.result
    c.arrange_ready.new.elf c.renews_names-renewed.ensures c.in-Ok.ensures
    c.arrange_ready.ensures

pub returns-in-Err : goal.returns-in-Err
returns-in-Err g c =
    without_stop g.S.Source (stated_changes c.args.changes.now) c.args.removed.now
    c.args.elf.now c.arrange_rebuilt.new.elf c.dirty-sound.ensures.sound.object
    c.requires.clean
    (sound_fits c.args.elf.now.o (g.S.Source.holds c.args.elf.now.source) c.args.elf.now.told
    c.dirty-sound.ensures.told c.dirty-sound.ensures.sound c.requires.clean)
    c.requires.removable c.in-Err.e c.in-Err.ensures
