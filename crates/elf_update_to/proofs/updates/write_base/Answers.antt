use Rattle.std.proofs.Common.{◌∙◌, sym, refl, arith, length}
use Rattle.elf_update_plan.proofs.law_object.ImageLaws.{image-clean}
use Rattle.elf_update_plan.specs.law_object.Writing.Plan.{places_below}
use Rattle.elf_update_plan.proofs.PlacingLaws.{clean_answer, same_state}
use Rattle.elf_update_to.specs.Emits.{gap_text}
use Rattle.elf_update_to.proofs.UpdateLaws.{clean_text, clean_due, updates_put}
use Rattle.elf_update_to.proofs.updates.write_base.Goals as goal

pub put_end-requires : goal.put_end-requires
put_end-requires g c = omega (arith, c.base_len-len.ensures)

pub returns : goal.returns
returns g c =
    let e = c.args.elf.now in
    let n = c.base_len-len.result in
    updates_put _ g.S.Source g.K.Sink c.put_end.result (length e.o.base) e e c.put_end.new.parts
    c.args.sink.now c.put_end.new.sink c.args.page.now c.put_end.new.page
    (gap_text e.o.base n 0 0 n) (places_below n 0 n) c.put_end.ensures.emits
    (record { kept = λ a b h. h; told = λ a. refl; faults = λ a. refl; taken = λ a. refl })
    (clean_answer e.o c.requires.clean) (same_state e c.requires.clean) c.requires.empty
    (clean_text e.o.base n c.base_len-len.ensures ∙ sym (image-clean e.o c.requires.clean))
    (clean_due e.o e.loaded n c.requires.clean c.base_len-len.ensures) c.put_end.ensures.empty
