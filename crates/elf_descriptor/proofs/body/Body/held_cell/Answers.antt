use Rattle.std.proofs.Common.{refl}
use Rattle.elf_descriptor.proofs.body.Body.held_cell.Goals as goal

pub unreachable-requires : goal.unreachable-requires
unreachable-requires c = c.requires.held (c.in-None.ensures.none refl)
