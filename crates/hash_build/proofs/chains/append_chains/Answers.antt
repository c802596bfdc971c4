use Rattle.std.proofs.Common.{sym, append-nil, arith}
use Rattle.hash_build.proofs.GnuLaws.{chains_more, chains_all}
use Rattle.hash_build.proofs.chains.append_chains.Goals as goal

pub loop-k-init : goal.loop-k-init
loop-k-init c = sym (append-nil c.args.words.now)

pub loop-k-preserved : goal.loop-k-preserved
loop-k-preserved c =
    chains_more c.args.nbuckets c.args.hashes.now c.args.words.now c.loop-k.words c.push.new.self
    c.args.from c.loop-k.k c.chain_word.result c.chain_word.ensures c.loop-k.invariant
    c.in_ok-push.ensures.ok

pub returns-clause-ok : goal.returns-clause-ok
returns-clause-ok c =
    chains_all c.args.nbuckets c.args.hashes.now c.args.words.now c.loop-k.words c.args.from
    c.loop-k.k (omega (arith, c.loop-k-test.false, c.loop-k.auto.k-end, c.len-all.ensures))
    c.loop-k.invariant
