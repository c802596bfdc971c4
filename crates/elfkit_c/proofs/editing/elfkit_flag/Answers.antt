use Rattle.std.proofs.Common.{◌∙◌}
use Rattle.elf_descriptor.specs.State.{State}
use Rattle.c_handles.specs.declared.lent.image.LentImage.{LentImage}
use Rattle.c_calls.specs.Editing.Edited.{SetsFlags}
use Rattle.elfkit_c.proofs.EditLaws.{left_in}
use Rattle.elfkit_c.proofs.editing.elfkit_flag.Goals as goal

pub returns-clause-edits : goal.returns-clause-edits
returns-clause-edits c =
    let done = c.set_flags-number in
    left_in (λ (o n : State LentImage). SetsFlags c.args.set c.args.bits done.result o n c.args.out.now
    done.new.out)
    c.args.h.now c.put.new.self c.as_mut.result.now done.new.object
    (c.as_mut.ensures.value ∙ c.take-object.ensures.object) c.put.ensures done.ensures
