use Rattle.std.proofs.Common.{ap, sym, ◌∙◌}
use Rattle.elf_object.specs.Image.{image_length}
use Rattle.elf_descriptor.specs.State.{State}
use Rattle.c_handles.specs.declared.lent.image.LentImage.{LentImage}
use Rattle.c_handles.specs.declared.objects.opened.OpenObject.{OpenObject}
use Rattle.c_handles.specs.Objects.Objects.{SameImage}
use Rattle.c_calls.specs.Updating.Updated.{PutsImage}
use Rattle.elfkit_c.proofs.EditLaws.{left_in}
use Rattle.elfkit_c.proofs.updating.elfkit_update.Goals as goal

pub returns-clause-puts : goal.returns-clause-puts
returns-clause-puts c =
    let done = c.put_image_in_buffer-number in
    left_in (λ (o n : State LentImage). PutsImage done.result o n c.args.out.now done.new.out)
    c.args.h.now c.put.new.self c.as_mut.result.now done.new.object
    (c.as_mut.ensures.value ∙ c.take-object.ensures.object) c.put.ensures done.ensures.puts

pub returns-clause-image : goal.returns-clause-image
returns-clause-image c =
    let done = c.put_image_in_buffer-number in
    left_in (λ (o n : State LentImage). SameImage o.source n.source)
    c.args.h.now c.put.new.self c.as_mut.result.now done.new.object
    (c.as_mut.ensures.value ∙ c.take-object.ensures.object) c.put.ensures done.ensures.image

pub put_image_in_buffer-number-requires : goal.put_image_in_buffer-number-requires
put_image_in_buffer-number-requires c =
    c.requires.room
    ∙ ap (λ (x : OpenObject). image_length x.elf.o)
    (sym (c.as_mut.ensures.value ∙ c.take-object.ensures.object))
