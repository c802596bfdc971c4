use Rattle.std.proofs.Common.{arith}
use Rattle.elf_ident.proofs.HeaderLemmas.{short_ident, ident_of_start}
use Rattle.elf_outside.proofs.ToldLengths.{told_len}
use Rattle.elf_ident.proofs.headers.read_ident.Goals as goal

pub returns-then-len-clause-ident : goal.returns-then-len-clause-ident
returns-then-len-clause-ident g c = short_ident (g.S.Source.holds c.args.src.now) c.len.result (told_len _ _ _ c.len.ensures.size (g.met.S.Source.sized c.args.src.now)) (omega arith)

pub returns-clause-ident : goal.returns-clause-ident
returns-clause-ident g c =
    ident_of_start (g.S.Source.holds c.args.src.now) _ _ c.len.result _ (told_len _ _ _ c.len.ensures.size (g.met.S.Source.sized c.args.src.now)) (omega arith) c.requires c.in_ok-read.ensures.bytes c.ident.ensures.ident

pub returns-clause-err : goal.returns-clause-err
returns-clause-err g c = c.ident.ensures.named (g.S.Source.size c.args.src.now)
