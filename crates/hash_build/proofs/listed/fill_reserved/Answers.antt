use Rattle.std.proofs.Common.{◌∙◌}
use Rattle.hash_build.proofs.ReadLaws.{table_nothing, table_memory}
use Rattle.hash_build.proofs.listed.fill_reserved.Goals as goal

pub fill_hashes-requires-clause-none : goal.fill_hashes-requires-clause-none
fill_hashes-requires-clause-none g c = c.reserve.ensures.same ∙ c.requires.none

pub returns-in-Err-clause-reads : goal.returns-in-Err-clause-reads
returns-in-Err-clause-reads g c =
    table_memory g.S.Source c.args.t.section.0 (tt {0}) c.in-Err.e c.args.elf.now
    c.args.elf.now c.in-Err.ensures.err
    (table_nothing g.S.Source c.args.t.section.0 (tt {0}) c.args.elf.now)
