use Rattle.hash_build.proofs.EncodingLaws.{appended_parts}
use Rattle.hash_build.proofs.encoding.append_parts.Goals as goal

pub returns-clause-ok : goal.returns-clause-ok
returns-clause-ok c =
    appended_parts c.append_words-2.result c.args.out.now c.append_words.new.out
    c.append_bloom.new.out c.append_words-2.new.out _ _ _ c.in_ok-append_words.ensures.ok
    c.in_ok-append_bloom.ensures.ok c.append_words-2.ensures.ok
