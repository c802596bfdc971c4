-- In the same order the bytes stay.
use Rattle.std.proofs.Common.{refl, rules}
use Rattle.elf_xlate.proofs.Bytes.{read_are_bytes}
use Rattle.elf_xlate.proofs.InPlace.{same_order}
use Rattle.elf_xlate.proofs.in_place.turn_order.Goals as goal

pub returns-then-eq : goal.returns-then-eq
returns-then-eq c =
    same_order _ _ _ _ _ c.requires.some (read_are_bytes _ _ c.type_inv.bytes refl) (search rules)
