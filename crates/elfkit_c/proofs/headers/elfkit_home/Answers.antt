use Rattle.std.proofs.Common.{subst, ◌∙◌}
use Rattle.elf_object.specs.Calls as calls
use Rattle.c_handles.specs.declared.objects.opened.OpenObject.{OpenObject}
use Rattle.c_records.specs.Gives.{GivesInCForm}
use Rattle.c_records.specs.Forms.{extent_record}
use Rattle.elfkit_c.proofs.HandleLaws.{keeps}
use Rattle.elfkit_c.proofs.headers.elfkit_home.Goals as goal

pub returns-clause-gives : goal.returns-clause-gives
returns-clause-gives c =
    subst (λ (x : OpenObject). GivesInCForm extent_record ((calls.home c.args.section).answer x.elf.o)
    c.give_home-number.result c.args.out.now c.give_home-number.new.out)
    (c.as_ref.ensures ∙ c.take-object.ensures.object) c.give_home-number.ensures

pub returns-clause-keeps : goal.returns-clause-keeps
returns-clause-keeps c =
    keeps c.args.h.now c.put.new.self c.take-object.result.value c.take-object.ensures.object
    c.put.ensures
