use Rattle.std.proofs.Common.{◌∙◌}
use Rattle.elf_object.specs.Calls as calls
use Rattle.elf_descriptor.specs.State.{State}
use Rattle.c_handles.specs.declared.lent.image.LentImage.{LentImage}
use Rattle.c_calls.specs.Editing.From.{phdr_from_record}
use Rattle.c_calls.specs.Editing.Edited.{Edited}
use Rattle.elfkit_c.proofs.EditLaws.{left_in}
use Rattle.elfkit_c.proofs.editing.elfkit_update_phdr.Goals as goal

pub returns-clause-edits : goal.returns-clause-edits
returns-clause-edits c =
    let done = c.store_phdr-number in
    left_in (λ (o n : State LentImage). Edited (calls.update_phdr c.args.i (phdr_from_record c.args.x.now))
    done.result o n)
    c.args.h.now c.put.new.self c.as_mut.result.now done.new.object
    (c.as_mut.ensures.value ∙ c.take-object.ensures.object) c.put.ensures done.ensures
