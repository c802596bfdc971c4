-- The loan of the bytes from the place on had the number written at its front.
use Rattle.elf_xlate.proofs.Written.{lent}
use Rattle.elf_xlate.proofs.fields.write_four.Goals as goal

pub returns : goal.returns
returns g c =
    lent g.T.Endian.order c.args.place 4 c.args.n c.args.out.now _ _ c.requires (g.met.T.Endian.writes 4 c.args.n) c.write_u32.ensures
