use Rattle.elf_descriptor.proofs.Beginnings.{begun_is_sound}
use Rattle.elf_descriptor.proofs.descriptor.begin.begun_is_sound.Goals as goal

pub returns : goal.returns
returns c = begun_is_sound c.begun_fits.ensures c.beginnings_are_tied.ensures c.beginnings_are_based.ensures
