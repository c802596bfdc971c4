use Rattle.c_records.specs.Forms.{note_record}
use Rattle.gelf_view.specs.Calls.{note_refusals}
use Rattle.c_records.proofs.GivesLemmas.{found_given, found_refused}
use Rattle.c_handles.proofs.objects.ImageLaws.{same_object}
use Rattle.c_calls.proofs.reading.versions.give_note.Goals as goal

pub returns-in-Ok-clause-gives : goal.returns-in-Ok-clause-gives
returns-in-Ok-clause-gives c =
    found_given note_record _ c.args.out.now c.args.object.now.elf.told c.args.object.now.told _
    (note_refusals c.args.object.now.elf.o c.args.d.section c.args.d.piece c.args.at)
    c.in-Ok.x c.of.result c.of.ensures c.in-Ok.ensures.answer

pub returns-in-Err-clause-gives : goal.returns-in-Err-clause-gives
returns-in-Err-clause-gives c =
    found_refused note_record _ c.args.out.now c.args.object.now.elf.told c.args.object.now.told _
    (note_refusals c.args.object.now.elf.o c.args.d.section c.args.d.piece c.args.at)
    c.in-Err.e c.code_of.result c.code_of.ensures c.in-Err.ensures.queries.reads.source.read
    c.in-Err.ensures.answer

pub returns-in-Ok-clause-object : goal.returns-in-Ok-clause-object
returns-in-Ok-clause-object c = same_object _ _ _ _ _ (c.in-Ok.ensures.queries)

pub returns-in-Err-clause-object : goal.returns-in-Err-clause-object
returns-in-Err-clause-object c = same_object _ _ _ _ _ (c.in-Err.ensures.queries)
