use Rattle.std.proofs.Common.{◌∙◌}
use Rattle.elf_xlate.specs.declared.content.Items.TheVariants as items
use Rattle.elf_object.specs.Calls as calls
use Rattle.elf_descriptor.specs.State.{State}
use Rattle.c_handles.specs.declared.lent.image.LentImage.{LentImage}
use Rattle.c_calls.specs.Editing.Edited.{Copied}
use Rattle.elfkit_c.proofs.EditLaws.{left_in}
use Rattle.elfkit_c.proofs.editing.elfkit_replace.Goals as goal

pub returns-clause-edits : goal.returns-clause-edits
returns-clause-edits c =
    let done = c.put_piece_bytes-number in
    left_in (λ (o n : State LentImage). Copied
    (calls.replace c.args.section c.args.piece (items.Bytes c.args.bytes.now)) done.result o n)
    c.args.h.now c.put.new.self c.as_mut.result.now done.new.object
    (c.as_mut.ensures.value ∙ c.take-object.ensures.object) c.put.ensures done.ensures
