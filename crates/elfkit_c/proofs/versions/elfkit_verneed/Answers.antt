use Rattle.std.proofs.Common.{subst, ◌∙◌}
use Rattle.gelf_view.specs.Calls as calls
use Rattle.elf_descriptor.specs.Reads.{wanted}
use Rattle.c_handles.specs.declared.objects.opened.OpenObject.{OpenObject}
use Rattle.c_records.specs.Gives.{GivesRead}
use Rattle.c_records.specs.Forms.{verneed_record}
use Rattle.elfkit_c.proofs.HandleLaws.{holds}
use Rattle.elfkit_c.proofs.versions.elfkit_verneed.Goals as goal

pub returns-clause-gives : goal.returns-clause-gives
returns-clause-gives c =
    let call = calls.verneed c.args.section c.args.piece c.args.at in
    subst (λ (x : OpenObject). GivesRead verneed_record (wanted call x.elf)
    (call.answer x.elf.o) c.give_verneed-number.result c.args.out.now c.give_verneed-number.new.out)
    (c.as_mut.ensures.value ∙ c.take-object.ensures.object) c.give_verneed-number.ensures.gives

pub returns-clause-holds : goal.returns-clause-holds
returns-clause-holds c =
    holds c.args.h.now c.put.new.self c.as_mut.result.now c.give_verneed-number.new.object
    (c.as_mut.ensures.value ∙ c.take-object.ensures.object) c.give_verneed-number.ensures.object
    c.put.ensures
