use Rattle.std.proofs.Common.{subst, ◌∙◌}
use Rattle.elf_object.specs.Calls as calls
use Rattle.elf_descriptor.specs.Reads.{wanted}
use Rattle.c_handles.specs.declared.objects.opened.OpenObject.{OpenObject}
use Rattle.c_records.specs.Gives.{GivesRead}
use Rattle.c_records.specs.Forms.{sym_record}
use Rattle.elfkit_c.proofs.HandleLaws.{holds}
use Rattle.elfkit_c.proofs.items.elfkit_sym.Goals as goal

pub returns-clause-gives : goal.returns-clause-gives
returns-clause-gives c =
    let call = calls.sym c.args.section c.args.piece c.args.i in
    subst (λ (x : OpenObject). GivesRead sym_record (wanted call x.elf)
    (call.answer x.elf.o) c.give_sym-number.result c.args.out.now c.give_sym-number.new.out)
    (c.as_mut.ensures.value ∙ c.take-object.ensures.object) c.give_sym-number.ensures.gives

pub returns-clause-holds : goal.returns-clause-holds
returns-clause-holds c =
    holds c.args.h.now c.put.new.self c.as_mut.result.now c.give_sym-number.new.object
    (c.as_mut.ensures.value ∙ c.take-object.ensures.object) c.give_sym-number.ensures.object
    c.put.ensures
