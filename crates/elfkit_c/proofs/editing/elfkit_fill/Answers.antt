use Rattle.std.proofs.Common.{◌≡◌, ◌∙◌}
use Rattle.elf_object.specs.Calls as calls
use Rattle.elf_descriptor.specs.State.{State}
use Rattle.c_handles.specs.declared.lent.image.LentImage.{LentImage}
use Rattle.elf_descriptor.specs.Edits.{stepped}
use Rattle.elfkit_c.proofs.EditLaws.{left_in}
use Rattle.elfkit_c.proofs.editing.elfkit_fill.Goals as goal

pub returns-clause-edits : goal.returns-clause-edits
returns-clause-edits c =
    let done = c.set_fill in
    left_in (λ (o n : State LentImage). n ≡ stepped (calls.set_fill c.args.byte) o)
    c.args.h.now c.put.new.self c.as_mut.result.now done.new.object
    (c.as_mut.ensures.value ∙ c.take-object.ensures.object) c.put.ensures done.ensures
