use Rattle.elf_descriptor.proofs.SettleCalls.{settling_is_sound}
use Rattle.elf_descriptor.proofs.descriptor.settling.settling_is_sound.Goals as goal

pub returns : goal.returns
returns c =
    settling_is_sound c.updates_keep.ensures c.updates_tie.ensures c.updates_keep_based.ensures
