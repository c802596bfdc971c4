use Rattle.std.proofs.Common.{None, get_or}
use Rattle.hash_build.specs.Hashed.{listed_hashes}
use Rattle.hash_build.proofs.ReadLaws.{table_wants, table_end}
use Rattle.hash_build.proofs.ListedLaws.{pushed_told, pushed_long, pushed_first}
use Rattle.hash_build.proofs.listed.push_hash.Goals as goal

pub returns-in-Ok-clause-told : goal.returns-in-Ok-clause-told
returns-in-Ok-clause-told g c = λ told.
    pushed_told c.push.result c.args.hashes.now c.push.new.self c.in-Ok.hash
    (get_or (listed_hashes c.args.by c.args.elf.now.o c.args.t.section.0) c.args.i None)
    (c.in-Ok.ensures.follows told) c.push.ensures.ok

pub returns-in-Ok-clause-long : goal.returns-in-Ok-clause-long
returns-in-Ok-clause-long g c =
    pushed_long c.push.result c.args.hashes.now c.push.new.self c.in-Ok.hash c.push.ensures.ok

pub returns-in-Ok-clause-first : goal.returns-in-Ok-clause-first
returns-in-Ok-clause-first g c = λ last none.
    pushed_first c.push.result c.args.hashes.now c.push.new.self c.in-Ok.hash c.args.i
    c.in-Ok.ensures.first last none c.push.ensures.ok

pub returns-in-Ok-clause-reads : goal.returns-in-Ok-clause-reads
returns-in-Ok-clause-reads g c =
    table_wants g.S.Source c.args.t.section.0 c.in-Ok.hash c.push.result c.args.elf.now
    c.listed_hash.new.elf c.push.ensures.err c.in-Ok.ensures.reads

pub returns-in-Err-clause-reads : goal.returns-in-Err-clause-reads
returns-in-Err-clause-reads g c =
    table_end g.S.Source c.args.t.section.0 c.in-Err.e c.args.elf.now c.listed_hash.new.elf
    c.in-Err.ensures.reads
