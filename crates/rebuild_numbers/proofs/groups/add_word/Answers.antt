use Rattle.std.proofs.Common.{◌≡◌, ◌++◌, ℕ, List, subst}
use Rattle.std.specs.Prelude.{OnOk}
use Rattle.rebuild_numbers.proofs.GroupLaws.{word_first, word_later}
use Rattle.rebuild_numbers.proofs.groups.add_word.Goals as goal

pub returns-then-i-eq0-clause-ok : goal.returns-then-i-eq0-clause-ok
returns-then-i-eq0-clause-ok c =
    subst (λ (l : List ℕ). OnOk c.push.result (c.push.new.self ≡ c.args.members.now ++ l))
    (word_first c.args.numbering.now c.args.i c.args.word c.if-i-eq0.true) c.push.ensures.ok

pub returns-clause-ok : goal.returns-clause-ok
returns-clause-ok c =
    subst (λ (l : List ℕ). OnOk c.add_member.result
    (c.add_member.new.members ≡ c.args.members.now ++ l))
    (word_later c.args.numbering.now c.args.i c.args.word c.if-i-eq0.false)
    c.add_member.ensures.ok
