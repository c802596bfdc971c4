use Rattle.c_records.specs.Forms.{vernaux_record}
use Rattle.c_records.proofs.GivesLemmas.{read_given, read_refused}
use Rattle.c_handles.proofs.objects.ImageLaws.{same_object}
use Rattle.c_calls.proofs.reading.versions.give_vernaux.Goals as goal

pub returns-in-Ok-clause-gives : goal.returns-in-Ok-clause-gives
returns-in-Ok-clause-gives c =
    read_given vernaux_record _ c.args.out.now c.args.object.now.elf.told c.args.object.now.told _
    c.in-Ok.x c.of.result c.of.ensures c.in-Ok.ensures.answer

pub returns-in-Err-clause-gives : goal.returns-in-Err-clause-gives
returns-in-Err-clause-gives c =
    read_refused vernaux_record _ c.args.out.now c.args.object.now.elf.told c.args.object.now.told _
    c.in-Err.e c.code_of.result c.code_of.ensures c.in-Err.ensures.queries.reads.source.read
    c.in-Err.ensures.answer

pub returns-in-Ok-clause-object : goal.returns-in-Ok-clause-object
returns-in-Ok-clause-object c = same_object _ _ _ _ _ (c.in-Ok.ensures.queries)

pub returns-in-Err-clause-object : goal.returns-in-Err-clause-object
returns-in-Err-clause-object c = same_object _ _ _ _ _ (c.in-Err.ensures.queries)
