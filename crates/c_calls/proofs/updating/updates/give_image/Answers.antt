use Rattle.std.proofs.Common.{length, sym, ap, ◌∙◌}
use Rattle.law_object.proofs.ImageLaws.{length-image}
use Rattle.c_calls.proofs.updating.UpdateLemmas.{image_given, image_refused}
use Rattle.c_calls.proofs.updating.updates.give_image.Goals as goal

pub copy_from_slice-requires : goal.copy_from_slice-requires
copy_from_slice-requires c =
    c.requires.room ∙ sym (length-image c.args.object.now.elf.o)
    ∙ ap length (sym (c.as_slice.ensures ∙ c.in-Ok.ensures.puts.1))

pub returns-in-Ok-clause-puts : goal.returns-in-Ok-clause-puts
returns-in-Ok-clause-puts c =
    image_given c.args.object.now.elf c.put_into.new.object.elf c.put_into.new.room
    c.args.out.now _ c.in-Ok.ensures.puts
    (c.copy_from_slice.ensures.after ∙ c.as_slice.ensures)

pub returns-in-Err-clause-puts : goal.returns-in-Err-clause-puts
returns-in-Err-clause-puts c =
    image_refused c.args.object.now.elf c.put_into.new.object.elf c.put_into.new.room
    c.args.out.now c.in-Err.e c.code_of.result c.code_of.ensures c.in-Err.ensures.puts
