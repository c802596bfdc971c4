use Rattle.symbol_lookup.proofs.TopLaws.{refused_looks}
use Rattle.symbol_lookup.specs.Lookups.{find_sysv}
use Rattle.symbol_lookup.proofs.HashLaws.{sysv_passed, sysv_answers, sysv_looks, sysv_refused}
use Rattle.symbol_lookup.proofs.lookups.find_sysv.Goals as goal

pub returns-in-Ok-clause-answer : goal.returns-in-Ok-clause-answer
returns-in-Ok-clause-answer g c =
    sysv_answers g.S.Source c.args.elf.now c.args.h.0 c.args.name.now c.find_by_words.result c.find_by_words.new.elf
    (sysv_passed g.S.Source c.args.elf.now c.args.h.0 c.args.name.now c.in-Ok.ensures.passed c.in-Ok.ensures.symbols) c.find_by_words.ensures.follows c.find_by_words.ensures.searches

pub returns-in-Ok-clause-looks : goal.returns-in-Ok-clause-looks
returns-in-Ok-clause-looks g c =
    sysv_looks g.S.Source c.args.elf.now c.args.h.0 c.args.name.now c.find_by_words.result c.find_by_words.new.elf
    (sysv_passed g.S.Source c.args.elf.now c.args.h.0 c.args.name.now c.in-Ok.ensures.passed c.in-Ok.ensures.symbols) c.find_by_words.ensures.searches

pub returns-in-Err-clause-answer : goal.returns-in-Err-clause-answer
returns-in-Err-clause-answer g c = sysv_refused g.S.Source c.args.elf.now c.args.h.0 c.args.name.now c.in-Err.e c.in-Err.ensures.err c.in-Err.ensures.refused

pub returns-in-Err-clause-looks : goal.returns-in-Err-clause-looks
returns-in-Err-clause-looks g c = refused_looks g.S.Source (find_sysv c.args.h.0 c.args.name.now) c.args.elf.now c.in-Err.e c.in-Err.ensures.err
