use Rattle.std.proofs.Common.{false}
use Rattle.symbol_lookup.specs.elf_object.Calls as calls
use Rattle.elf_xlate.specs.declared.content.Items.TheVariants as items
use Rattle.symbol_lookup.specs.elf_object.Calls.{replace_refusal}
use Rattle.elf_update_plan.specs.elf_descriptor.Edits.{stepped}
use Rattle.elf_calls_apply.specs.Stated.{stated_call, done_shown}
use Rattle.elf_calls_apply.proofs.Refusing.{settled, replace_refuses}
use Rattle.elf_calls_apply.proofs.Meeting.{stepped_meets, copying_meets, came_back, dropped_steps}
use Rattle.symbol_lookup.specs.elf_object.Runs.{mapped}
use Rattle.elf_calls_apply.proofs.pieces.put_piece.Goals as goal

pub returns : goal.returns
unfolding stated_call
returns g c =
    let o = c.args.elf.now.o in
    let put = calls.replace c.args.d.section c.args.d.piece (items.Bytes c.args.bytes) in
    let came = came_back (items.Bytes c.args.bytes) (put.answer o) c.replace.result c.refusal_alone.result c.refusal_alone.ensures c.replace.ensures.answer in
    rw c.done.ensures
    (copying_meets g.S.Source (mapped done_shown put) _ _ _ _ c.args.elf.now c.replace.new.self
    (stepped_meets g.S.Source done_shown put _ _ c.refusal_alone.result c.args.elf.now c.replace.new.self false came
    (settled c.refusal_alone.result (replace_refusal o c.args.d.section c.args.d.piece (items.Bytes c.args.bytes)) tt came (replace_refuses o c.args.d.section c.args.d.piece (items.Bytes c.args.bytes)))
    (rw c.refusal_alone.ensures (dropped_steps c.replace.result c.args.elf.now c.replace.new.self (stepped put c.args.elf.now) c.replace.ensures.state))))
