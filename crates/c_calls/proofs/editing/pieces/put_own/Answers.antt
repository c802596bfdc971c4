use Rattle.elf_xlate.specs.declared.content.Items.TheVariants as items
use Rattle.elf_object.specs.Calls as calls
use Rattle.c_calls.proofs.editing.EditLemmas.{edit_done, edit_left}
use Rattle.c_calls.proofs.editing.pieces.put_own.Goals as goal

pub returns-in-Ok : goal.returns-in-Ok
returns-in-Ok c =
    let call = calls.replace c.args.d.section c.args.d.piece (items.Bytes c.args.bytes) in
    edit_done call _ _ tt c.in-Ok.ensures.answer c.in-Ok.ensures.state

pub returns-in-Err : goal.returns-in-Err
returns-in-Err c =
    let call = calls.replace c.args.d.section c.args.d.piece (items.Bytes c.args.bytes) in
    edit_left call _ _ c.in-Err.e c.code_of.result c.in-Err.ensures.answer c.code_of.ensures
    c.in-Err.ensures.state
