use Rattle.std.proofs.Common.{arith}
use Rattle.elf_ident.proofs.tables.read_shdrs.Goals as goal

pub read_many-requires-clause-within : goal.read_many-requires-clause-within
read_many-requires-clause-within g c = c.requires.within (omega arith)

pub read_many-requires-clause-small : goal.read_many-requires-clause-small
read_many-requires-clause-small g c =
    let inside = c.requires.within (omega arith) in
    omega (arith, inside, c.len-end.ensures.size)
