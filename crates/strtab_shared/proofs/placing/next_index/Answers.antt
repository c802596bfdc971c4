use Rattle.std.proofs.Common.{arith}
use Rattle.strtab_build.proofs.TableLemmas.{length_le-unclosed}
use Rattle.strtab_shared.specs.Kept.{names_of}
use Rattle.strtab_shared.proofs.KeptLaws.{count_is}
use Rattle.strtab_shared.proofs.placing.next_index.Goals as goal

pub overflow_cast-result : goal.overflow_cast-result
overflow_cast-result c =
    let many = count_is _ _ _ _ _ c.requires in
    omega (
      arith,
      length_le-unclosed (names_of c.args.parts.now),
      c.requires.names_are.small,
      many,
      c.len.ensures,
    )

pub returns : goal.returns
returns c =
    let many = count_is _ _ _ _ _ c.requires in
    omega (arith, many, c.len.ensures)
