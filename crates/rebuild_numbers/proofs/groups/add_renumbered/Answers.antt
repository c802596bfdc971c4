use Rattle.std.proofs.Common.{◌≡◌, ◌++◌, ℕ, Option, subst}
use Rattle.std.specs.Prelude.{OnOk}
use Rattle.rebuild_numbers.specs.Rows.{renumbered_members}
use Rattle.rebuild_numbers.proofs.GroupLaws.{none_added}
use Rattle.rebuild_numbers.proofs.groups.add_renumbered.Goals as goal

pub returns-in-Some-clause-ok : goal.returns-in-Some-clause-ok
returns-in-Some-clause-ok c =
    subst (λ (o : Option ℕ). OnOk c.push.result
    (c.push.new.self ≡ c.args.members.now ++ renumbered_members o)) c.in-Some.ensures.value
    c.push.ensures.ok

pub returns-in-None-clause-ok : goal.returns-in-None-clause-ok
returns-in-None-clause-ok c =
    subst (λ (o : Option ℕ). c.args.members.now ≡ c.args.members.now ++ renumbered_members o)
    c.in-None.ensures.value (none_added c.args.members.now)
