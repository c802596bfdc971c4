use Rattle.std.proofs.Common.{sym, ◌∙◌}
use Rattle.elf_lint_findings.proofs.LentLemmas.{symbols_counted}
use Rattle.elf_lint_symbols.proofs.TableLemmas.{passed_over, refused_none}
use Rattle.elf_lint_symbols.proofs.by_symbol.checked_table_of.Goals as goal

pub returns-then-not-has_symbols-clause-none : goal.returns-then-not-has_symbols-clause-none
returns-then-not-has_symbols-clause-none g c = passed_over c.args.elf.now.o c.args.s.0 (sym c.has_symbols.ensures ∙ c.if-not-has_symbols.true)

pub table_with-requires-clause-looked : goal.table_with-requires-clause-looked
table_with-requires-clause-looked g c = sym c.has_symbols.ensures ∙ c.if-not-has_symbols.false

pub table_with-requires-clause-passed : goal.table_with-requires-clause-passed
table_with-requires-clause-passed g c = (symbols_counted c.args.elf.now.o c.args.s.0 c.in-Ok.count c.in-Ok.ensures.answer).0

pub table_with-requires-clause-count : goal.table_with-requires-clause-count
table_with-requires-clause-count g c = (symbols_counted c.args.elf.now.o c.args.s.0 c.in-Ok.count c.in-Ok.ensures.answer).1

pub returns-in-Err-clause-none : goal.returns-in-Err-clause-none
returns-in-Err-clause-none g c = refused_none c.args.elf.now.o c.args.s.0 _ c.in-Err.ensures.answer
