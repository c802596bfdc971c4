use Rattle.std.proofs.Common.{ℕ}
use Rattle.elf_object.specs.Calls.{update_null}
use Rattle.elf_object.specs.Image.{image}
use Rattle.elf_object.specs.Layout.{placed}
use Rattle.c_calls.proofs.editing.EditLemmas.{wanting}
use Rattle.c_calls.proofs.updating.updates.put_image_in_buffer.Goals as goal

pub returns-in-Err-clause-puts : goal.returns-in-Err-clause-puts
returns-in-Err-clause-puts c =
    let o = c.args.object.now.elf.o in
    wanting (λ (n : ℕ). (image o, placed o)) (Unit {0}) (update_null.answer o) c.in-Err.e
    c.code_of.result (c.args.out.now, o) tt c.in-Err.ensures.err c.code_of.ensures
