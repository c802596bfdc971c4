use Rattle.elf_object.specs.Calls as calls
use Rattle.c_calls.specs.Editing.From.{phdr_from_record}
use Rattle.c_calls.proofs.editing.EditLemmas.{edited_by, edit_done, edit_left}
use Rattle.c_calls.proofs.editing.headers.store_phdr.Goals as goal

pub returns-in-Ok : goal.returns-in-Ok
returns-in-Ok c =
    edited_by (calls.update_phdr c.args.i) c.phdr_from-header.result (phdr_from_record c.args.x.now) 0 _ _
    c.phdr_from-header.ensures
    (edit_done (calls.update_phdr c.args.i c.phdr_from-header.result) _ _ tt
    c.in-Ok.ensures.answer c.in-Ok.ensures.state)

pub returns-in-Err : goal.returns-in-Err
returns-in-Err c =
    edited_by (calls.update_phdr c.args.i) c.phdr_from-header.result (phdr_from_record c.args.x.now)
    c.code_of.result _ _ c.phdr_from-header.ensures
    (edit_left (calls.update_phdr c.args.i c.phdr_from-header.result) _ _ c.in-Err.e
    c.code_of.result c.in-Err.ensures.answer c.code_of.ensures c.in-Err.ensures.state)
