use Rattle.elf_calls_apply.specs.Stated.{stated_call, item_set_call}
use Rattle.elf_calls_apply.specs.Applies.{keeps_fields}
use Rattle.elf_calls_apply.proofs.Meeting.{done_meets}
use Rattle.elf_calls_apply.proofs.Forms.{done_form}
use Rattle.elf_calls_apply.proofs.items.set_item.Goals as goal

pub returns-clause-meets : goal.returns-clause-meets
unfolding stated_call
returns-clause-meets g c =
    rw c.done.ensures (done_meets g.S.Source (item_set_call c.args.set c.args.d.section c.args.d.piece c.args.i) (keeps_fields c.args.set) c.args.d c.args.i c.set_field.result c.args.elf.now c.set_field.new.elf c.set_field.ensures)

pub returns-clause-form : goal.returns-clause-form
returns-clause-form g c = rw c.done.ensures (done_form c.set_field.result)
