use Rattle.symbol_lookup.specs.elf_object.Answers.{count_at}
use Rattle.std.proofs.Common.{[], Ok, Err, refl}
use Rattle.symbol_lookup.specs.gelf_view.Calls.{note_refusals}
use Rattle.elf_calls_apply.specs.Stated.{stated_call, note_shown}
use Rattle.elf_calls_apply.proofs.Answered.{by_reads}
use Rattle.elf_calls_apply.proofs.Meeting.{value_meets, error_meets}
use Rattle.elf_calls_apply.specs.Applies.{at_any, at_any_step}
use Rattle.symbol_lookup.specs.elf_object.Runs.{mapped}
use Rattle.symbol_lookup.specs.gelf_view.Calls as views
use Rattle.elf_calls_apply.proofs.Forms.{note_form}
use Rattle.elf_calls_apply.proofs.reading.answer_note.Goals as goal

pub returns-in-Ok-clause-meets : goal.returns-in-Ok-clause-meets
unfolding stated_call
returns-in-Ok-clause-meets g c =
    let query = c.note.ensures.queries in
    rw c.note_answer.ensures
    (value_meets g.S.Source (mapped note_shown (views.note c.args.d.section c.args.d.piece c.args.at)) (at_any (note_refusals c.args.elf.now.o c.args.d.section c.args.d.piece c.args.at)) c.args.elf.now.told [] c.args.elf.now _ c.note.result c.in-Ok.found (Ok (note_shown c.in-Ok.found)) c.in-Ok.is tt refl query.object query.reads
    (by_reads note_shown c.args.elf.now.told at_any_step (note_refusals c.args.elf.now.o c.args.d.section c.args.d.piece c.args.at) (Ok c.in-Ok.found) _ c.in-Ok.ensures.answer))

pub returns-in-Err-clause-meets : goal.returns-in-Err-clause-meets
unfolding stated_call
returns-in-Err-clause-meets g c =
    let query = c.note.ensures.queries in
    error_meets g.S.Source (mapped note_shown (views.note c.args.d.section c.args.d.piece c.args.at)) (at_any (note_refusals c.args.elf.now.o c.args.d.section c.args.d.piece c.args.at)) c.args.elf.now.told [] c.args.elf.now _ _ c.note.result c.in-Err.e c.in-Err.is query.object query.reads
    (by_reads note_shown c.args.elf.now.told _ (note_refusals c.args.elf.now.o c.args.d.section c.args.d.piece c.args.at) (Err c.in-Err.e) _ c.in-Err.ensures.answer)

pub returns-in-Ok-clause-form : goal.returns-in-Ok-clause-form
returns-in-Ok-clause-form g c = rw c.note_answer.ensures (note_form (count_at c.args.elf.now.o c.args.d.section c.args.d.piece) c.args.at c.in-Ok.found c.in-Ok.ensures.ended c.in-Ok.ensures.within)
