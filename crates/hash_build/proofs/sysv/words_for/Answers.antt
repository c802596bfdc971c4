use Rattle.std.proofs.Common.{arith}
use Rattle.hash_build.proofs.ReadLaws.{table_wants, table_end}
use Rattle.hash_build.proofs.SysvLaws.{words_told, words_counted}
use Rattle.hash_build.proofs.sysv.words_for.Goals as goal

pub words_of-requires-clause-few : goal.words_of-requires-clause-few
words_of-requires-clause-few g c =
    omega (arith, c.in-Ok.ensures.long, c.requires.table.few)

pub returns-in-Ok-clause-told : goal.returns-in-Ok-clause-told
returns-in-Ok-clause-told g c = λ told.
    words_told c.args.elf.now.o c.args.t.section.0 c.args.nbucket c.in-Ok.hashes
    c.words_of.result (c.in-Ok.ensures.told told) c.words_of.ensures.ok

pub returns-in-Ok-clause-long : goal.returns-in-Ok-clause-long
returns-in-Ok-clause-long g c =
    words_counted c.args.nbucket c.args.t.count _ c.in-Ok.hashes c.words_of.result
    c.in-Ok.ensures.long c.requires.table.count c.words_of.ensures.ok

pub returns-in-Ok-clause-reads : goal.returns-in-Ok-clause-reads
returns-in-Ok-clause-reads g c =
    table_wants g.S.Source c.args.t.section.0 c.in-Ok.hashes c.words_of.result c.args.elf.now
    c.read_hashes.new.elf c.words_of.ensures.err c.in-Ok.ensures.reads

pub returns-in-Err-clause-reads : goal.returns-in-Err-clause-reads
returns-in-Err-clause-reads g c =
    table_end g.S.Source c.args.t.section.0 c.in-Err.e c.args.elf.now c.read_hashes.new.elf
    c.in-Err.ensures.reads
