use Rattle.std.proofs.Common.{◌∙◌}
use Rattle.elf_descriptor.specs.State.{State}
use Rattle.c_handles.specs.declared.lent.image.LentImage.{LentImage}
use Rattle.c_calls.specs.Updating.Updated.{LaysOut}
use Rattle.elfkit_c.proofs.EditLaws.{left_in}
use Rattle.elfkit_c.proofs.updating.elfkit_size.Goals as goal

pub returns-clause-places : goal.returns-clause-places
returns-clause-places c =
    let done = c.lay_out_object-number in
    left_in (λ (o n : State LentImage). LaysOut done.result o n c.args.out.now done.new.length)
    c.args.h.now c.put.new.self c.as_mut.result.now done.new.object
    (c.as_mut.ensures.value ∙ c.take-object.ensures.object) c.put.ensures done.ensures
