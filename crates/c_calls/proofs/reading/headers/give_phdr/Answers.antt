use Rattle.c_records.specs.Forms.{phdr_record}
use Rattle.c_records.proofs.GivesLemmas.{given, refused}
use Rattle.c_calls.proofs.reading.headers.give_phdr.Goals as goal

pub returns-in-Ok : goal.returns-in-Ok
returns-in-Ok c =
    given phdr_record _ c.args.out.now c.in-Ok.x c.of.result c.in-Ok.ensures
    c.of.ensures

pub returns-in-Err : goal.returns-in-Err
returns-in-Err c =
    refused phdr_record _ c.args.out.now c.in-Err.e c.code_of.result c.in-Err.ensures
    c.code_of.ensures
