use Rattle.hash_model.specs.elf_object.Answers.{items_at, words_of}
use Rattle.symbol_lookup.proofs.StepLaws.{bucket_found, bucket_lost}
use Rattle.symbol_lookup.proofs.SearchLaws.{searches_value, searches_end}
use Rattle.symbol_lookup.proofs.sysv.read_bucket.Goals as goal

pub returns-in-Ok-clause-follows : goal.returns-in-Ok-clause-follows
returns-in-Ok-clause-follows g c = λ told.
    bucket_found (words_of (items_at c.args.elf.now.o c.args.h.0 0)) c.args.hash c.args.nbucket c.args.nchain c.bucket_index-index.result c.bucket_index-index.ensures.value c.in-Ok.first c.step_at.result c.step_at.ensures.at c.step_at.ensures.symbol (c.in-Ok.ensures.follows told)

pub returns-in-Ok-clause-searches : goal.returns-in-Ok-clause-searches
returns-in-Ok-clause-searches g c = λ n has. searches_value g.S.Source n c.in-Ok.first _ c.args.elf.now c.hash_word.new.elf (c.in-Ok.ensures.searches n has)

pub returns-in-Err-clause-follows : goal.returns-in-Err-clause-follows
returns-in-Err-clause-follows g c = λ told. bucket_lost (words_of (items_at c.args.elf.now.o c.args.h.0 0)) c.args.hash c.args.nbucket c.args.nchain c.bucket_index-index.result c.bucket_index-index.ensures.value c.in-Err.e (c.in-Err.ensures.follows told)

pub returns-in-Err-clause-searches : goal.returns-in-Err-clause-searches
returns-in-Err-clause-searches g c = λ n has. searches_end g.S.Source n c.in-Err.e c.args.elf.now c.hash_word.new.elf (c.in-Err.ensures.searches n has)
