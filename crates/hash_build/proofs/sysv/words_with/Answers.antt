use Rattle.std.proofs.Common.{arith}
use Rattle.hash_build.proofs.SysvLaws.{linked_words, counted}
use Rattle.hash_build.proofs.sysv.words_with.Goals as goal

pub returns-in-Ok-clause-ok : goal.returns-in-Ok-clause-ok
returns-in-Ok-clause-ok c =
    linked_words c.args.hashes.now c.args.nbucket c.join_words.result _ _
    c.link_symbols.ensures.buckets c.link_symbols.ensures.chains c.join_words.ensures.ok

pub join_words-requires-clause-buckets : goal.join_words-requires-clause-buckets
join_words-requires-clause-buckets c =
    omega (arith, counted _ _ _ c.link_symbols.ensures.buckets)

pub join_words-requires-clause-chains : goal.join_words-requires-clause-chains
join_words-requires-clause-chains c =
    omega (arith, counted _ _ _ c.link_symbols.ensures.chains, c.requires.few)
