use Rattle.std.proofs.Common.{arith, length-take}
use Rattle.elf_ident.proofs.FirstBytes.{kind_of_start}
use Rattle.elf_outside.proofs.ToldLengths.{told_len}
use Rattle.elf_ident.proofs.file_kinds.kind_with.Goals as goal

pub returns-clause-kind : goal.returns-clause-kind
returns-clause-kind g c =
    kind_of_start (g.S.Source.holds c.args.src.now) _ _ c.min-count.result c.len.result _ (told_len _ _ _ c.len.ensures.size (g.met.S.Source.sized c.args.src.now))
    c.min-count.ensures (omega (arith, length-take c.min-count.result c.args.head.now)) c.in_ok-read.ensures.bytes c.kind_by.ensures
