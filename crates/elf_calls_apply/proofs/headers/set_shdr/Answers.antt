use Rattle.std.proofs.Common.{false, sym}
use Rattle.symbol_lookup.specs.elf_object.Calls.{shdr_answer, update_shdr_refusal}
use Rattle.symbol_lookup.specs.elf_object.Calls as calls
use Rattle.elf_calls_apply.specs.Fields.{shdr_with}
use Rattle.elf_calls_apply.specs.Stated.{stated_call}
use Rattle.elf_calls_apply.proofs.Refusing.{settled, shdr_refuses, update_shdr_refuses}
use Rattle.elf_calls_apply.proofs.Meeting.{looked_meets, looked_refused}
use Rattle.elf_calls_apply.proofs.headers.set_shdr.Goals as goal

pub returns-in-Ok : goal.returns-in-Ok
unfolding stated_call
returns-in-Ok g c =
    let h = c.shdr_with.result in
    rw c.done.ensures
    (looked_meets g.S.Source (λ o. shdr_answer o c.args.s.0) (λ x. calls.update_shdr c.args.s.0 (shdr_with c.args.set x)) _ _ c.in-Ok.header c.update_shdr.result c.args.elf.now c.update_shdr.new.self false
    (sym c.in-Ok.ensures) (rw c.shdr_with.ensures at c.update_shdr.ensures.answer)
    (settled c.update_shdr.result (update_shdr_refusal c.args.elf.now.o c.args.s.0 h) tt c.update_shdr.ensures.answer (update_shdr_refuses c.args.elf.now.o c.args.s.0 h))
    (rw c.shdr_with.ensures at c.update_shdr.ensures.state))

pub returns-in-Err : goal.returns-in-Err
unfolding stated_call
returns-in-Err g c =
    looked_refused g.S.Source (λ o. shdr_answer o c.args.s.0) (λ x. calls.update_shdr c.args.s.0 (shdr_with c.args.set x)) _ _ c.in-Err.e c.args.elf.now
    (sym c.in-Err.ensures) (shdr_refuses c.args.elf.now.o c.args.s.0 c.in-Err.e (sym c.in-Err.ensures))
