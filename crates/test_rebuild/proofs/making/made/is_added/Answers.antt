use Rattle.std.proofs.Common.{arith}
use Rattle.elf_update_plan.proofs.RowLaws.{ok_is}
use Rattle.test_rebuild.proofs.making.made.is_added.Goals as goal

pub add_section-requires : goal.add_section-requires
add_section-requires g c =
    let count = ok_is _ _ c.shnum.ensures in omega (arith, count, c.if-shnum-eq0.false)
