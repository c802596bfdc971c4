use Rattle.std.proofs.Common.{subst}
use Rattle.elf_types.specs.Lists.{AreBytes}
use Rattle.rebuild_object.proofs.reading.base_octets.Goals as goal

pub returns-clause-bytes : goal.returns-clause-bytes
returns-clause-bytes g c = subst AreBytes c.as_slice.ensures c.bytes_are_ranged.ensures.bytes
