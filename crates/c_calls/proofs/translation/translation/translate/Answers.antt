use Rattle.elf_xlate.specs.Translation.{decoded}
use Rattle.c_calls.proofs.translation.Translated.{translated, rejected}
use Rattle.c_calls.proofs.translation.translation.translate.Goals as goal

pub returns-in-Ok : goal.returns-in-Ok
returns-in-Ok c =
    translated c.args.class c.args.to c.args.bytes.now c.translate_in_place.new.bytes
    (decoded c.args.kind c.args.class c.args.from c.args.bytes.now) c.in-Ok.ensures

pub returns-in-Err : goal.returns-in-Err
returns-in-Err c =
    rejected c.args.class c.args.to c.args.bytes.now c.translate_in_place.new.bytes
    (decoded c.args.kind c.args.class c.args.from c.args.bytes.now) _
    c.code_of.result c.in-Err.ensures c.code_of.ensures
