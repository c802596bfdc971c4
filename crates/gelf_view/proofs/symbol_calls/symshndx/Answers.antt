use Rattle.gelf_view.proofs.SymbolCalls.{placed, placed_looks, symbol_refused, symbol_unlooked}
use Rattle.gelf_view.proofs.symbol_calls.symshndx.Goals as goal

pub returns-in-Ok-clause-answer : goal.returns-in-Ok-clause-answer
returns-in-Ok-clause-answer g c =
    placed g.S.Source c.args.elf.now c.sym.new.elf c.symbol_place.new.elf c.args.d.section c.args.d.piece c.args.i c.in-Ok.x c.in-Ok.ensures.answer c.in-Ok.ensures.looks c.symbol_place.result c.symbol_place.ensures.answer

pub returns-in-Ok-clause-looks : goal.returns-in-Ok-clause-looks
returns-in-Ok-clause-looks g c =
    placed_looks g.S.Source c.args.elf.now c.sym.new.elf c.symbol_place.new.elf c.args.d.section c.args.d.piece c.args.i c.in-Ok.x c.in-Ok.ensures.answer c.in-Ok.ensures.looks c.symbol_place.result c.symbol_place.ensures.looks

pub returns-in-Err-clause-answer : goal.returns-in-Err-clause-answer
returns-in-Err-clause-answer g c =
    symbol_refused g.S.Source c.args.elf.now c.sym.new.elf c.args.d.section c.args.d.piece c.args.i c.in-Err.e c.in-Err.ensures.answer

pub returns-in-Err-clause-looks : goal.returns-in-Err-clause-looks
returns-in-Err-clause-looks g c =
    symbol_unlooked g.S.Source c.args.elf.now c.sym.new.elf c.args.d.section c.args.d.piece c.args.i c.in-Err.e c.in-Err.ensures.looks
