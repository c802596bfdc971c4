use Rattle.hash_build.proofs.GnuLaws.{headed}
use Rattle.hash_build.proofs.gnu.head_words.Goals as goal

pub returns-clause-ok : goal.returns-clause-ok
returns-clause-ok c =
    headed c.in_ok-words.words c.push.new.self c.push-2.new.self c.push-3.new.self
    c.push-4.new.self _ _ _ _ c.in_ok-words.ensures.ok c.in_ok-push.ensures.ok
    c.in_ok-push-2.ensures.ok c.in_ok-push-3.ensures.ok c.in_ok-push-4.ensures.ok
