use Rattle.std.proofs.Common.{false, Ok, sym}
use Rattle.symbol_lookup.specs.elf_object.Object.{header_of}
use Rattle.symbol_lookup.specs.elf_object.Calls.{update_ehdr_refusal}
use Rattle.symbol_lookup.specs.elf_object.Calls as calls
use Rattle.elf_calls_apply.specs.Fields.{ehdr_with}
use Rattle.elf_calls_apply.specs.Stated.{stated_call}
use Rattle.elf_calls_apply.proofs.Refusing.{settled, update_ehdr_refuses}
use Rattle.elf_calls_apply.proofs.Meeting.{looked_meets}
use Rattle.elf_calls_apply.proofs.headers.set_ehdr.Goals as goal

pub returns : goal.returns
unfolding stated_call
returns g c =
    let h = c.ehdr_with-header.result in
    rw c.done.ensures
    (looked_meets g.S.Source (λ o. Ok (header_of o)) (λ x. calls.update_ehdr (ehdr_with c.args.set x)) _ _ c.ehdr.result c.update_ehdr.result c.args.elf.now c.update_ehdr.new.self false
    (sym c.ehdr.ensures) (rw c.ehdr_with-header.ensures at c.update_ehdr.ensures.answer)
    (settled c.update_ehdr.result (update_ehdr_refusal c.args.elf.now.o h) tt c.update_ehdr.ensures.answer (update_ehdr_refuses c.args.elf.now.o h))
    (rw c.ehdr_with-header.ensures at c.update_ehdr.ensures.state))
