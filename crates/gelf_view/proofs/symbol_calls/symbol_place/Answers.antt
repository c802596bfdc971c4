use Rattle.std.proofs.Common.{Ok, Err, sym, ◌∙◌}
use Rattle.gelf_view.proofs.SymbolCalls.{low_answers, special_answers, extended_answers}
use Rattle.gelf_view.proofs.symbol_calls.symbol_place.Goals as goal

pub returns-then-index-lt-SHN_LORESERVE-clause-answer : goal.returns-then-index-lt-SHN_LORESERVE-clause-answer
returns-then-index-lt-SHN_LORESERVE-clause-answer g c = low_answers c.args.elf.now c.args.s.0 c.args.i c.args.x c.from-index.result c.from-index.ensures c.if-index-lt-SHN_LORESERVE.true

pub returns-then-index-ne-SHN_XINDEX-clause-answer : goal.returns-then-index-ne-SHN_XINDEX-clause-answer
returns-then-index-ne-SHN_XINDEX-clause-answer g c =
    special_answers c.args.elf.now c.args.s.0 c.args.i c.args.x c.from-index.result c.from-index.ensures c.if-index-lt-SHN_LORESERVE.false c.if-index-ne-SHN_XINDEX.true

pub returns-in-Ok-clause-answer : goal.returns-in-Ok-clause-answer
returns-in-Ok-clause-answer g c =
    extended_answers c.args.elf.now c.args.s.0 c.args.i c.args.x (Ok c.in-Ok.number) (sym c.from-index.ensures ∙ c.if-index-ne-SHN_XINDEX.false) c.in-Ok.ensures.answer

pub returns-in-Err-clause-answer : goal.returns-in-Err-clause-answer
returns-in-Err-clause-answer g c =
    extended_answers c.args.elf.now c.args.s.0 c.args.i c.args.x (Err c.in-Err.e) (sym c.from-index.ensures ∙ c.if-index-ne-SHN_XINDEX.false) c.in-Err.ensures.answer
