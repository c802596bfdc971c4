use Rattle.rebuild_object.proofs.elf_update_plan.RowLaws.{ok_is}
use Rattle.rebuild_object.proofs.rebuild_plan.TiedLaws.{sound_fits}
use Rattle.rebuild_debug.proofs.PlanLaws.{half_arranged}
use Rattle.rebuild_debug.proofs.planning.arrange_half.Goals as goal

pub arrange_contents-requires-clause-few : goal.arrange_contents-requires-clause-few
arrange_contents-requires-clause-few g c = c.requires.contents.few

pub arrange_contents-requires-clause-sizes : goal.arrange_contents-requires-clause-sizes
arrange_contents-requires-clause-sizes g c = c.requires.contents.same

pub returns : goal.returns
returns g c =
    half_arranged c.args.elf.now c.dirty-sound.ensures.sound.object
    (sound_fits c.args.elf.now.o (g.S.Source.holds c.args.elf.now.source) c.args.elf.now.told
    c.dirty-sound.ensures.told c.dirty-sound.ensures.sound c.requires.clean) c.args.contents
    c.requires.contents c.requires.read c.requires.passed c.shstrndx.result
    (ok_is _ _ c.shstrndx.ensures) c.arrange_contents.result c.arrange_contents.ensures
