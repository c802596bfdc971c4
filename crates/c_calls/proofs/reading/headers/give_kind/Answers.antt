use Rattle.c_records.specs.Forms.{kind_number}
use Rattle.c_records.proofs.GivesLemmas.{given, refused}
use Rattle.c_calls.proofs.reading.headers.give_kind.Goals as goal

pub returns-in-Ok : goal.returns-in-Ok
returns-in-Ok c =
    given kind_number _ c.args.out.now c.in-Ok.x c.kind_number.result c.in-Ok.ensures
    c.kind_number.ensures

pub returns-in-Err : goal.returns-in-Err
returns-in-Err c =
    refused kind_number _ c.args.out.now c.in-Err.e c.code_of.result c.in-Err.ensures
    c.code_of.ensures
