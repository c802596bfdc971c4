use Rattle.std.proofs.Common.{ap, ◌∙◌}
use Rattle.elf_object.specs.Calls as calls
use Rattle.c_handles.specs.declared.objects.opened.OpenObject.{OpenObject}
use Rattle.elfkit_c.proofs.HandleLaws.{keeps}
use Rattle.elfkit_c.proofs.headers.elfkit_shnum.Goals as goal

pub returns-clause-value : goal.returns-clause-value
returns-clause-value c =
    c.section_count-count.ensures
    ∙ ap (λ (x : OpenObject). calls.shnum.answer x.elf.o)
    (c.as_ref.ensures ∙ c.take-object.ensures.object)

pub returns-clause-keeps : goal.returns-clause-keeps
returns-clause-keeps c =
    keeps c.args.h.now c.put.new.self c.take-object.result.value c.take-object.ensures.object
    c.put.ensures
