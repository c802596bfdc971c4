use Rattle.hash_build.proofs.BloomLaws.{words_are, words_fit}
use Rattle.hash_build.proofs.bloom.bloom_of.Goals as goal

pub returns-clause-ok : goal.returns-clause-ok
returns-clause-ok c =
    words_are c.args.class c.args.shape c.args.hashes.now c.set_hashes.new.words
    c.set_hashes.ensures

pub returns-clause-fits : goal.returns-clause-fits
returns-clause-fits c =
    words_fit c.args.class c.args.shape c.set_hashes.new.words c.args.hashes.now
    c.set_hashes.ensures
