use Rattle.std.proofs.Common.{◌≡◌, false, subst}
use Rattle.std.specs.Prelude.{IfOk}
use Rattle.rebuild_model.specs.elf_object.Object.{Object}
use Rattle.rebuild_model.specs.Removed.{with_followers}
use Rattle.rebuild_select.proofs.TopLaws.{copy_answers, are_removable}
use Rattle.rebuild_select.proofs.removing.removed_by_name.Goals as goal

pub returns-in-Ok-clause-answer : goal.returns-in-Ok-clause-answer
returns-in-Ok-clause-answer g c =
    let same = c.in-Ok.ensures.reads.object in
    copy_answers c.args.elf.now c.args.names.now c.in-Ok.named c.with_followers.result
    c.with_followers.ensures.err c.in-Ok.ensures.told
    (subst (λ (o : Object). IfOk c.with_followers.result
    (λ set. set ≡ with_followers o false c.in-Ok.named)) same c.with_followers.ensures.ok)

pub returns-in-Ok-clause-removable : goal.returns-in-Ok-clause-removable
returns-in-Ok-clause-removable g c =
    let same = c.in-Ok.ensures.reads.object in
    are_removable c.args.elf.now.o false c.in-Ok.named c.with_followers.result
    (subst (λ (o : Object). IfOk c.with_followers.result
    (λ set. set ≡ with_followers o false c.in-Ok.named)) same c.with_followers.ensures.ok)
