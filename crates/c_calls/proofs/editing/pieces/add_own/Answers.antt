use Rattle.std.proofs.Common.{ℕ, ap}
use Rattle.elf_xlate.specs.declared.content.Items.TheVariants as items
use Rattle.elf_object.specs.Calls as calls
use Rattle.elf_descriptor.specs.State.{State}
use Rattle.elf_descriptor.specs.Edits.{stepped}
use Rattle.c_handles.specs.declared.lent.image.LentImage.{LentImage}
use Rattle.c_calls.proofs.editing.EditLemmas.{edit_given, edit_refused}
use Rattle.c_calls.proofs.editing.pieces.add_own.Goals as goal

pub returns-in-Ok : goal.returns-in-Ok
returns-in-Ok c =
    let old = c.args.object.now.elf in
    let call = calls.newdata_aligned c.args.s.0 (items.Bytes c.args.bytes) c.args.align in
    edit_given (λ (d : ℕ × ℕ). (d.1, stepped call old)) (Unit {0}) (call.answer old.o)
    (λ (s : State LentImage). (c.args.out.now, s)) old _ (stepped call old) (λ ok. tt)
    (c.in-Ok.d.section, c.in-Ok.d.piece) _ c.in-Ok.ensures
    (λ same. ap (λ (s : State LentImage). (c.in-Ok.d.piece, s)) same)

pub returns-in-Err : goal.returns-in-Err
returns-in-Err c =
    let old = c.args.object.now.elf in
    let call = calls.newdata_aligned c.args.s.0 (items.Bytes c.args.bytes) c.args.align in
    edit_refused (λ (d : ℕ × ℕ). (d.1, stepped call old)) (Unit {0}) (call.answer old.o)
    (λ (s : State LentImage). (c.args.out.now, s)) old _ (stepped call old) (λ ok. tt)
    c.in-Err.e c.code_of.result c.code_of.ensures c.in-Err.ensures
