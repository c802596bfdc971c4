use Rattle.std.proofs.Common.{arith}
use Rattle.hash_build.proofs.ReadLaws.{table_wants, table_end}
use Rattle.hash_build.proofs.OrderLaws.{order_told, order_whole}
use Rattle.hash_build.proofs.order.order_for.Goals as goal

pub order_of-requires-clause-few : goal.order_of-requires-clause-few
order_of-requires-clause-few g c =
    omega (arith, c.in-Ok.ensures.long, c.requires.table.few)

pub returns-in-Ok-clause-told : goal.returns-in-Ok-clause-told
returns-in-Ok-clause-told g c = λ told.
    order_told c.args.elf.now.o c.args.t.section.0 c.args.nbuckets c.in-Ok.hashes
    c.order_of.result (c.in-Ok.ensures.told told) c.order_of.ensures.ok

pub returns-in-Ok-clause-whole : goal.returns-in-Ok-clause-whole
returns-in-Ok-clause-whole g c =
    order_whole c.args.nbuckets c.args.t.count _ c.in-Ok.hashes c.order_of.result
    c.in-Ok.ensures.long c.requires.table.count c.in-Ok.ensures.first c.order_of.ensures.ok

pub returns-in-Ok-clause-reads : goal.returns-in-Ok-clause-reads
returns-in-Ok-clause-reads g c =
    table_wants g.S.Source c.args.t.section.0 c.in-Ok.hashes c.order_of.result c.args.elf.now
    c.read_hashes.new.elf c.order_of.ensures.err c.in-Ok.ensures.reads

pub returns-in-Err-clause-reads : goal.returns-in-Err-clause-reads
returns-in-Err-clause-reads g c =
    table_end g.S.Source c.args.t.section.0 c.in-Err.e c.args.elf.now c.read_hashes.new.elf
    c.in-Err.ensures.reads
