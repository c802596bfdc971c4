use Rattle.std.proofs.Common.{◌∙◌, ap}
use Rattle.elf_types.specs.declared.records.Kind.TheVariants as kinds
use Rattle.hash_model.specs.elf_object.Object.{Object}
use Rattle.hash_model.specs.elf_object.Answers.{items_at, words_of, lend_refusal}
use Rattle.symbol_lookup.specs.Walks.{sysv_buckets, sysv_behind, sysv_start}
use Rattle.symbol_lookup.proofs.FollowLaws.{then_follows, then_ends, later_follows}
use Rattle.symbol_lookup.proofs.SearchLaws.{searches_both, searches_end}
use Rattle.symbol_lookup.proofs.StepLaws.{words_stay}
use Rattle.symbol_lookup.proofs.sysv.sysv_start.Goals as goal

pub behind-requires-clause-passed : goal.behind-requires-clause-passed
behind-requires-clause-passed g c = ap (λ (o : Object). lend_refusal o kinds.Word c.args.h.0 0) (c.in-Ok.ensures.stays.object) ∙ c.requires.passed

pub returns-in-Ok-clause-follows : goal.returns-in-Ok-clause-follows
unfolding sysv_start
returns-in-Ok-clause-follows g c = λ told.
    then_follows c.in-Ok.nbucket (sysv_buckets (words_of (items_at c.args.elf.now.o c.args.h.0 0))) c.behind.result (λ x. sysv_behind (words_of (items_at c.args.elf.now.o c.args.h.0 0)) c.args.hash x) (c.in-Ok.ensures.follows told)
    (later_follows c.args.elf.now c.bucket_count.new.elf c.behind.result (λ o. sysv_behind (words_of (items_at o c.args.h.0 0)) c.args.hash c.in-Ok.nbucket) c.in-Ok.ensures.stays.object c.in-Ok.ensures.stays.told c.behind.ensures.follows told)

pub returns-in-Ok-clause-searches : goal.returns-in-Ok-clause-searches
returns-in-Ok-clause-searches g c = λ n has.
    searches_both g.S.Source n c.in-Ok.nbucket c.behind.result c.args.elf.now c.bucket_count.new.elf c.behind.new.elf (c.in-Ok.ensures.searches n has)
    (c.behind.ensures.searches n (words_stay n c.args.elf.now.o c.bucket_count.new.elf.o c.args.h.0 c.in-Ok.ensures.stays.object has))

pub returns-in-Err-clause-follows : goal.returns-in-Err-clause-follows
unfolding sysv_start
returns-in-Err-clause-follows g c = λ told. then_ends c.in-Err.e (sysv_buckets (words_of (items_at c.args.elf.now.o c.args.h.0 0))) (λ x. sysv_behind (words_of (items_at c.args.elf.now.o c.args.h.0 0)) c.args.hash x) (c.in-Err.ensures.follows told)

pub returns-in-Err-clause-searches : goal.returns-in-Err-clause-searches
returns-in-Err-clause-searches g c = λ n has. searches_end g.S.Source n c.in-Err.e c.args.elf.now c.bucket_count.new.elf (c.in-Err.ensures.searches n has)
