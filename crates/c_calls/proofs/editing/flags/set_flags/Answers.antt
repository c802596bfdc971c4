use Rattle.std.proofs.Common.{ℕ, ap}
use Rattle.elf_types.specs.declared.records.Part.TheVariants as part
use Rattle.elf_object.specs.Calls as calls
use Rattle.elf_descriptor.specs.State.{State}
use Rattle.elf_descriptor.specs.Edits.{flagged}
use Rattle.c_handles.specs.declared.lent.image.LentImage.{LentImage}
use Rattle.c_records.proofs.GivesLemmas.{given}
use Rattle.c_calls.proofs.editing.EditLemmas.{left_refused}
use Rattle.c_calls.proofs.editing.flags.set_flags.Goals as goal

pub returns-in-Ok : goal.returns-in-Ok
returns-in-Ok c =
    let old = c.args.object.now.elf in
    let call = calls.flag part.Object c.args.set c.args.bits in
    given (λ (flags : ℕ). (flags, flagged call old)) (call.answer old.o) (c.args.out.now, old)
    c.in-Ok.flags _ c.in-Ok.ensures.answer
    (ap (λ (s : State LentImage). (c.in-Ok.flags, s)) c.in-Ok.ensures.state)

pub returns-in-Err : goal.returns-in-Err
returns-in-Err c =
    let old = c.args.object.now.elf in
    let call = calls.flag part.Object c.args.set c.args.bits in
    left_refused (λ (flags : ℕ). (flags, flagged call old)) (call.answer old.o)
    (λ (s : State LentImage). (c.args.out.now, s)) old _ c.in-Err.e c.code_of.result
    c.in-Err.ensures.answer c.code_of.ensures c.in-Err.ensures.state
