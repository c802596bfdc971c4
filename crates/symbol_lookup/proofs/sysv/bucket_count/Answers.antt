use Rattle.hash_model.specs.elf_object.Answers.{items_at, words_of}
use Rattle.symbol_lookup.specs.Walks.{hash_word, nonzero_count, sysv_buckets}
use Rattle.symbol_lookup.proofs.FollowLaws.{then_follows, then_ends, same_follows}
use Rattle.symbol_lookup.proofs.SearchLaws.{searches_pure}
use Rattle.symbol_lookup.proofs.sysv.bucket_count.Goals as goal

pub returns-in-Ok-clause-follows : goal.returns-in-Ok-clause-follows
unfolding sysv_buckets
returns-in-Ok-clause-follows g c = λ told.
    then_follows c.in-Ok.nbucket (hash_word (words_of (items_at c.args.elf.now.o c.args.h.0 0)) 0) c.counted.result (nonzero_count 0) (c.in-Ok.ensures.follows told) (same_follows c.counted.result (nonzero_count 0 c.in-Ok.nbucket) c.counted.ensures.value)

pub returns-in-Ok-clause-searches : goal.returns-in-Ok-clause-searches
returns-in-Ok-clause-searches g c = λ n has. searches_pure g.S.Source n c.in-Ok.nbucket c.counted.result c.args.elf.now c.hash_word.new.elf has.chain c.counted.ensures.bad (c.in-Ok.ensures.searches n has)

pub returns-in-Err-clause-follows : goal.returns-in-Err-clause-follows
unfolding sysv_buckets
returns-in-Err-clause-follows g c = λ told. then_ends c.in-Err.e (hash_word (words_of (items_at c.args.elf.now.o c.args.h.0 0)) 0) (nonzero_count 0) (c.in-Err.ensures.follows told)
