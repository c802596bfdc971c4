use Rattle.std.proofs.Common.{ℕ, List, ◌++◌, ap, ◌∙◌}
use Rattle.hash_build.proofs.SysvLaws.{joined}
use Rattle.hash_build.proofs.sysv.join_words.Goals as goal

pub returns-clause-ok : goal.returns-clause-ok
returns-clause-ok c =
    joined c.in_ok-words.words c.push.new.self c.push-2.new.self c.extend.new.self
    c.extend-2.new.self c.args.buckets.now c.args.chains.now _ _ c.in_ok-words.ensures.ok
    c.in_ok-push.ensures.ok c.in_ok-push-2.ensures.ok
    (c.in_ok-extend.ensures.ok
    ∙ ap (λ (l : List ℕ). c.push-2.new.self ++ l) c.as_slice.ensures)
    (c.in_ok-extend-2.ensures.ok
    ∙ ap (λ (l : List ℕ). c.extend.new.self ++ l) c.as_slice-2.ensures)
    c.len-3.ensures c.len-4.ensures
