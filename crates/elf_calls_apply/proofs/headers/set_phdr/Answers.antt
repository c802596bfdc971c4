use Rattle.std.proofs.Common.{false, sym}
use Rattle.symbol_lookup.specs.elf_object.Calls.{phdr_answer, update_phdr_refusal}
use Rattle.symbol_lookup.specs.elf_object.Calls as calls
use Rattle.elf_calls_apply.specs.Fields.{phdr_with}
use Rattle.elf_calls_apply.specs.Stated.{stated_call}
use Rattle.elf_calls_apply.proofs.Refusing.{settled, phdr_refuses, update_phdr_refuses}
use Rattle.elf_calls_apply.proofs.Meeting.{looked_meets, looked_refused}
use Rattle.elf_calls_apply.proofs.headers.set_phdr.Goals as goal

pub returns-in-Ok : goal.returns-in-Ok
unfolding stated_call
returns-in-Ok g c =
    let h = c.phdr_with.result in
    rw c.done.ensures
    (looked_meets g.S.Source (λ o. phdr_answer o c.args.i) (λ x. calls.update_phdr c.args.i (phdr_with c.args.set x)) _ _ c.in-Ok.header c.update_phdr.result c.args.elf.now c.update_phdr.new.self false
    (sym c.in-Ok.ensures) (rw c.phdr_with.ensures at c.update_phdr.ensures.answer)
    (settled c.update_phdr.result (update_phdr_refusal c.args.elf.now.o c.args.i h) tt c.update_phdr.ensures.answer (update_phdr_refuses c.args.elf.now.o c.args.i h))
    (rw c.phdr_with.ensures at c.update_phdr.ensures.state))

pub returns-in-Err : goal.returns-in-Err
unfolding stated_call
returns-in-Err g c =
    looked_refused g.S.Source (λ o. phdr_answer o c.args.i) (λ x. calls.update_phdr c.args.i (phdr_with c.args.set x)) _ _ c.in-Err.e c.args.elf.now
    (sym c.in-Err.ensures) (phdr_refuses c.args.elf.now.o c.args.i c.in-Err.e (sym c.in-Err.ensures))
