use Rattle.std.proofs.Common.{ℕ, ap}
use Rattle.elf_object.specs.Calls.{update_null}
use Rattle.elf_descriptor.specs.State.{State}
use Rattle.elf_descriptor.specs.Edits.{flagged}
use Rattle.c_handles.specs.declared.lent.image.LentImage.{LentImage}
use Rattle.c_calls.proofs.updating.UpdateLemmas.{update_given, update_refused}
use Rattle.c_calls.proofs.updating.layout.lay_out_object.Goals as goal

pub returns-in-Ok : goal.returns-in-Ok
returns-in-Ok c =
    let old = c.args.object.now.elf in
    update_given (λ (n : ℕ). (n, flagged update_null old)) (update_null.answer old.o)
    (λ (s : State LentImage). (c.args.length.now, s)) old _ (flagged update_null old) c.in-Ok.n _
    c.in-Ok.ensures (λ same. ap (λ (s : State LentImage). (c.in-Ok.n, s)) same)

pub returns-in-Err : goal.returns-in-Err
returns-in-Err c =
    let old = c.args.object.now.elf in
    update_refused (λ (n : ℕ). (n, flagged update_null old)) (update_null.answer old.o)
    (λ (s : State LentImage). (c.args.length.now, s)) old _ (flagged update_null old) c.in-Err.e
    c.code_of.result c.code_of.ensures c.in-Err.ensures
