use Rattle.std.proofs.Common.{rules}
use Rattle.hash_model.specs.elf_object.Answers.{items_at, words_of}
use Rattle.symbol_lookup.proofs.StepLaws.{next_past, next_found, next_lost}
use Rattle.symbol_lookup.proofs.SearchLaws.{searches_value, searches_end}
use Rattle.symbol_lookup.proofs.sysv.sysv_next.Goals as goal

pub returns-then-i-from-clause-follows : goal.returns-then-i-from-clause-follows
returns-then-i-from-clause-follows g c = λ told. next_past (words_of (items_at c.args.elf.now.o c.args.h.0 0)) c.args.nbucket c.args.nchain c.args.i c.chain_index-index.result c.chain_index-index.ensures.value (search rules)

pub returns-in-Ok-clause-follows : goal.returns-in-Ok-clause-follows
returns-in-Ok-clause-follows g c = λ told. next_found (words_of (items_at c.args.elf.now.o c.args.h.0 0)) c.args.nbucket c.args.nchain c.args.i c.chain_index-index.result c.chain_index-index.ensures.value c.in-Ok.next c.step_at.result (search rules) c.step_at.ensures.at c.step_at.ensures.symbol (c.in-Ok.ensures.follows told)

pub returns-in-Ok-clause-searches : goal.returns-in-Ok-clause-searches
returns-in-Ok-clause-searches g c = λ n has. searches_value g.S.Source n c.in-Ok.next _ c.args.elf.now c.hash_word.new.elf (c.in-Ok.ensures.searches n has)

pub returns-in-Err-clause-follows : goal.returns-in-Err-clause-follows
returns-in-Err-clause-follows g c = λ told. next_lost (words_of (items_at c.args.elf.now.o c.args.h.0 0)) c.args.nbucket c.args.nchain c.args.i c.chain_index-index.result c.chain_index-index.ensures.value c.in-Err.e (search rules) (c.in-Err.ensures.follows told)

pub returns-in-Err-clause-searches : goal.returns-in-Err-clause-searches
returns-in-Err-clause-searches g c = λ n has. searches_end g.S.Source n c.in-Err.e c.args.elf.now c.hash_word.new.elf (c.in-Err.ensures.searches n has)
