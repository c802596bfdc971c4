use Rattle.elf_descriptor.proofs.Beginnings.{begun_is_elf, state_begun}
use Rattle.elf_descriptor.proofs.descriptor.Elf.begin_with.Goals as goal

pub invariant_of-result : goal.invariant_of-result
invariant_of-result g c =
    begun_is_elf c.begun_is_sound.ensures c.args.front (g.S.Source.holds c.args.src)
    (g.S.Source.size c.args.src) c.len-size.result c.in-Ok.body
    c.requires.fitting c.requires.counted c.requires.small (g.met.S.Source.sized c.args.src)
    c.len-size.ensures.ranged c.requires.told c.len-size.ensures.size c.in-Ok.ensures.opened

pub returns-in-Ok-clause-state : goal.returns-in-Ok-clause-state
returns-in-Ok-clause-state g c =
    state_begun g.S.Source c.args.front c.args.src c.len-size.result c.in-Ok.body
    (g.met.S.Source.sized c.args.src) c.len-size.ensures.size c.in-Ok.ensures.opened
