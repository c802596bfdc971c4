use Rattle.std.proofs.Common.{refl}
use Rattle.elf_object.specs.Object.{header_of}
use Rattle.elf_object.specs.Calls as calls
use Rattle.c_calls.specs.Editing.From.{ehdr_from_record}
use Rattle.c_calls.proofs.editing.EditLemmas.{edited_by, edit_done, edit_left, stored_header_is}
use Rattle.c_calls.proofs.editing.headers.store_ehdr.Goals as goal

pub returns-in-Ok : goal.returns-in-Ok
returns-in-Ok c =
    let o = c.args.object.now.elf.o in let made = c.ehdr_from-header.result in
    edited_by calls.update_ehdr made (ehdr_from_record c.args.x.now (header_of o)) 0 _ _
    (stored_header_is c.args.x.now c.ehdr.result made (header_of o) (calls.ehdr.answer o)
    c.ehdr_from-header.ensures c.ehdr.ensures refl)
    (edit_done (calls.update_ehdr made) _ _ tt c.in-Ok.ensures.answer c.in-Ok.ensures.state)

pub returns-in-Err : goal.returns-in-Err
returns-in-Err c =
    let o = c.args.object.now.elf.o in let made = c.ehdr_from-header.result in
    edited_by calls.update_ehdr made (ehdr_from_record c.args.x.now (header_of o)) c.code_of.result _ _
    (stored_header_is c.args.x.now c.ehdr.result made (header_of o) (calls.ehdr.answer o)
    c.ehdr_from-header.ensures c.ehdr.ensures refl)
    (edit_left (calls.update_ehdr made) _ _ c.in-Err.e c.code_of.result c.in-Err.ensures.answer
    c.code_of.ensures c.in-Err.ensures.state)
