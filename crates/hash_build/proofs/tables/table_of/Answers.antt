use Rattle.std.proofs.Common.{sym}
use Rattle.symbol_lookup.proofs.elf_object.AnswerLaws.{answered_value, answered_refusal}
use Rattle.hash_build.proofs.CallLaws.{refused_lend}
use Rattle.hash_build.proofs.tables.table_of.Goals as goal

pub table_with-requires-clause-passed : goal.table_with-requires-clause-passed
table_with-requires-clause-passed g c =
    (answered_value _ _ _ (sym c.in-Ok.ensures.answer)).0

pub table_with-requires-clause-count : goal.table_with-requires-clause-count
table_with-requires-clause-count g c = (answered_value _ _ _ (sym c.in-Ok.ensures.answer)).1

pub returns-in-Err-clause-refused : goal.returns-in-Err-clause-refused
returns-in-Err-clause-refused g c =
    refused_lend c.args.elf.now.o c.args.s.0 c.in-Err.e
    (answered_refusal _ _ c.in-Err.e (sym c.in-Err.ensures.answer))
