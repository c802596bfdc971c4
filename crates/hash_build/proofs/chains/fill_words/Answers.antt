use Rattle.hash_build.proofs.EncodingLaws.{appended_to}
use Rattle.hash_build.proofs.chains.fill_words.Goals as goal

pub returns-clause-ok : goal.returns-clause-ok
returns-clause-ok c =
    appended_to c.append_chains.result c.first_symbols.new.buckets _ c.append_chains.new.words _
    c.first_symbols.ensures c.append_chains.ensures.ok
