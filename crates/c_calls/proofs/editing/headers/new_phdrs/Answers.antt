use Rattle.std.proofs.Common.{IsOk}
use Rattle.elf_object.specs.Calls as calls
use Rattle.elf_descriptor.specs.Edits.{stepped}
use Rattle.c_calls.proofs.editing.EditLemmas.{edit_given, edit_refused}
use Rattle.c_calls.proofs.editing.headers.new_phdrs.Goals as goal

pub returns-in-Ok : goal.returns-in-Ok
returns-in-Ok c =
    let old = c.args.object.now.elf in let call = calls.newphdr c.args.n in
    edit_given (λ _. stepped call old) (IsOk (call.answer old.o)) (call.answer old.o) (λ s. s)
    old _ (stepped call old) (λ ok. ok) tt _ c.in-Ok.ensures (λ same. same)

pub returns-in-Err : goal.returns-in-Err
returns-in-Err c =
    let old = c.args.object.now.elf in let call = calls.newphdr c.args.n in
    edit_refused (λ _. stepped call old) (IsOk (call.answer old.o)) (call.answer old.o) (λ s. s)
    old _ (stepped call old) (λ ok. ok) c.in-Err.e c.code_of.result c.code_of.ensures
    c.in-Err.ensures
