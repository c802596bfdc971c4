use Rattle.std.proofs.Common.{ℕ, List, subst}
use Rattle.elf_xlate.specs.declared.content.Items.TheVariants as items
use Rattle.elf_object.specs.Calls as calls
use Rattle.elf_descriptor.specs.Edits.{stepped}
use Rattle.c_calls.specs.Editing.Edited.{Copied}
use Rattle.c_calls.proofs.editing.EditLemmas.{exact, wanting}
use Rattle.c_calls.proofs.editing.pieces.put_piece_bytes.Goals as goal

pub returns-in-Ok : goal.returns-in-Ok
returns-in-Ok c =
    let old = c.args.object.now.elf in
    let call = calls.replace c.args.d.section c.args.d.piece (items.Bytes c.in-Ok.copy) in
    subst (λ (b : List ℕ). Copied
    (calls.replace c.args.d.section c.args.d.piece (items.Bytes b)) c.put_own.result old
    c.put_own.new.object.elf) c.in-Ok.ensures.ok
    (exact (λ _. stepped call old) (Unit {0}) (call.answer old.o) c.put_own.result _ _
    c.put_own.ensures)

pub returns-in-Err : goal.returns-in-Err
returns-in-Err c =
    let old = c.args.object.now.elf in
    let call = calls.replace c.args.d.section c.args.d.piece (items.Bytes c.args.bytes.now) in
    wanting (λ _. stepped call old) (Unit {0}) (call.answer old.o) c.in-Err.e c.code_of.result
    old tt c.in-Err.ensures.err c.code_of.ensures
