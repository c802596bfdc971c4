use Rattle.std.proofs.Common.{ℕ, IsOk, ap}
use Rattle.elf_object.specs.Calls as calls
use Rattle.elf_descriptor.specs.State.{State}
use Rattle.elf_descriptor.specs.Edits.{grown}
use Rattle.c_handles.specs.declared.lent.image.LentImage.{LentImage}
use Rattle.c_calls.proofs.editing.EditLemmas.{edit_given, edit_refused}
use Rattle.c_calls.proofs.editing.sections.append_new_section.Goals as goal

pub returns-in-Ok : goal.returns-in-Ok
returns-in-Ok c =
    let old = c.args.object.now.elf in let stated = calls.newscn.answer old.o in
    edit_given (λ (s : ℕ). (s, grown calls.newscn old)) (IsOk stated) stated
    (λ (s : State LentImage). (c.args.out.now, s)) old _ (grown calls.newscn old) (λ ok. ok)
    c.in-Ok.s.0 _ c.in-Ok.ensures (λ same. ap (λ (s : State LentImage). (c.in-Ok.s.0, s)) same)

pub returns-in-Err : goal.returns-in-Err
returns-in-Err c =
    let old = c.args.object.now.elf in let stated = calls.newscn.answer old.o in
    edit_refused (λ (s : ℕ). (s, grown calls.newscn old)) (IsOk stated) stated
    (λ (s : State LentImage). (c.args.out.now, s)) old _ (grown calls.newscn old) (λ ok. ok)
    c.in-Err.e c.code_of.result c.code_of.ensures c.in-Err.ensures
