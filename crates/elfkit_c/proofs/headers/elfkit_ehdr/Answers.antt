use Rattle.std.proofs.Common.{IfOk, ◌≡◌, subst, ◌∙◌}
use Rattle.elf_object.specs.Calls as calls
use Rattle.c_handles.specs.declared.objects.opened.OpenObject.{OpenObject}
use Rattle.c_records.specs.Forms.{ehdr_record}
use Rattle.elfkit_c.proofs.HandleLaws.{keeps}
use Rattle.elfkit_c.proofs.headers.elfkit_ehdr.Goals as goal

pub returns-clause-value : goal.returns-clause-value
returns-clause-value c =
    subst (λ (x : OpenObject). IfOk (calls.ehdr.answer x.elf.o)
    (λ header. c.give_ehdr.new.out ≡ ehdr_record header))
    (c.as_ref.ensures ∙ c.take-object.ensures.object) c.give_ehdr.ensures

pub returns-clause-keeps : goal.returns-clause-keeps
returns-clause-keeps c =
    keeps c.args.h.now c.put.new.self c.take-object.result.value c.take-object.ensures.object
    c.put.ensures
