use Rattle.std.proofs.Common.{refl}
use Rattle.symbol_lookup.specs.elf_object.Calls.{data_answer}
use Rattle.elf_calls_apply.specs.Stated.{stated_call, item_in}
use Rattle.elf_calls_apply.specs.declared.answers.Answer.TheVariants as answer
use Rattle.elf_calls_apply.proofs.ItemForms.{item_answers, item_refused, item_rose, item_reads}
use Rattle.elf_calls_apply.proofs.Meeting.{value_meets, error_meets}
use Rattle.elf_calls_apply.specs.Applies.{all_early, at_any_step}
use Rattle.symbol_lookup.specs.elf_object.Runs.{mapped, item}
use Rattle.elf_calls_apply.proofs.Forms.{item_form}
use Rattle.elf_calls_apply.proofs.reading.answer_item.Goals as goal

pub returns-in-Ok-clause-meets : goal.returns-in-Ok-clause-meets
unfolding stated_call
returns-in-Ok-clause-meets g c =
    let looks = c.data.follows.holds-at-none.looks in
    let o = c.args.elf.now.o in
    let i = c.args.i in
    rw c.item_answer.ensures
    (value_meets g.S.Source (mapped answer.Item (item item_in c.args.d.section c.args.d.piece c.args.i)) (all_early ((mapped answer.Item (item item_in c.args.d.section c.args.d.piece c.args.i)).answer c.args.elf.now.o)) c.args.elf.now.told ((mapped answer.Item (item item_in c.args.d.section c.args.d.piece c.args.i)).reads c.args.elf.now.o) c.args.elf.now _ c.data.result c.in-Ok.items _ c.in-Ok.is (item_rose c.in-Ok.items.now i _ _) refl looks.object
    (item_reads g.S.Source c.args.elf.now _ c.args.d.section c.args.d.piece i c.data.result looks.reads)
    (item_answers c.args.elf.now.told at_any_step i c.in-Ok.items.now (data_answer o c.args.d.section c.args.d.piece) c.in-Ok.ensures.answer c.in-Ok.ensures.like))

pub returns-in-Err-clause-meets : goal.returns-in-Err-clause-meets
unfolding stated_call
returns-in-Err-clause-meets g c =
    let looks = c.data.follows.holds-at-none.looks in
    let o = c.args.elf.now.o in
    let i = c.args.i in
    error_meets g.S.Source (mapped answer.Item (item item_in c.args.d.section c.args.d.piece c.args.i)) (all_early ((mapped answer.Item (item item_in c.args.d.section c.args.d.piece c.args.i)).answer c.args.elf.now.o)) c.args.elf.now.told ((mapped answer.Item (item item_in c.args.d.section c.args.d.piece c.args.i)).reads c.args.elf.now.o) c.args.elf.now _ _ c.data.result c.in-Err.e c.in-Err.is looks.object
    (item_reads g.S.Source c.args.elf.now _ c.args.d.section c.args.d.piece i c.data.result looks.reads)
    (item_refused c.args.elf.now.told _ i c.in-Err.e (data_answer o c.args.d.section c.args.d.piece) c.in-Err.ensures.answer)

pub returns-in-Ok-clause-form : goal.returns-in-Ok-clause-form
returns-in-Ok-clause-form g c = rw c.item_answer.ensures (item_form c.args.elf.now.o c.args.d.section c.args.d.piece c.args.i c.in-Ok.items.now c.in-Ok.ensures.like)
