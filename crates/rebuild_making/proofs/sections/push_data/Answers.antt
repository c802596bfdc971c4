use Rattle.std.proofs.Common.{Ok, Err, sym, ◌∙◌}
use Rattle.rebuild_model.specs.elf_object.Answers.{piece_count}
use Rattle.rebuild_model.specs.elf_object.Calls.{newdata_refusal}
use Rattle.rebuild_model.specs.elf_object.Calls as calls
use Rattle.rebuild_model.proofs.elf_object.AnswerLaws.{answered_value}
use Rattle.elf_update_plan.specs.elf_descriptor.Edits.{stepped, numbers_of}
use Rattle.rebuild_making.proofs.RefusedLaws.{edits_refused}
use Rattle.rebuild_making.proofs.AddLaws.{newdata_states, data_edits}
use Rattle.rebuild_making.proofs.sections.push_data.Goals as goal

pub returns-in-Ok-clause-made : goal.returns-in-Ok-clause-made
returns-in-Ok-clause-made g c =
    let put = calls.newdata c.args.s.0 c.args.items in
    (data_edits numbers_of c.newdata.result (Ok c.in-Ok._d) c.args.items c.args.elf.now
    c.newdata.new.self (stepped put c.args.elf.now) (put.answer c.args.elf.now.o)
    (sym c.refusal_alone.ensures ∙ c.in-Ok.is) c.newdata.ensures).1

pub returns-in-Ok-clause-passed : goal.returns-in-Ok-clause-passed
returns-in-Ok-clause-passed g c =
    let o = c.args.elf.now.o in
    let put = calls.newdata c.args.s.0 c.args.items in
    (answered_value (newdata_refusal o c.args.s.0 c.args.items 1)
    (c.args.s.0, piece_count o c.args.s.0) _
    (data_edits numbers_of c.newdata.result (Ok c.in-Ok._d) c.args.items c.args.elf.now
    c.newdata.new.self (stepped put c.args.elf.now) (put.answer o)
    (sym c.refusal_alone.ensures ∙ c.in-Ok.is) c.newdata.ensures).0).0

pub returns-in-Err-clause-err : goal.returns-in-Err-clause-err
returns-in-Err-clause-err g c =
    let o = c.args.elf.now.o in
    let put = calls.newdata c.args.s.0 c.args.items in
    edits_refused (newdata_refusal o c.args.s.0 c.args.items 1)
    (c.args.s.0, piece_count o c.args.s.0) c.args.elf.now c.newdata.new.self
    (stepped put c.args.elf.now) c.in-Err.e (newdata_states o c.args.s.0 c.args.items 1)
    (data_edits numbers_of c.newdata.result (Err c.in-Err.e) c.args.items c.args.elf.now
    c.newdata.new.self (stepped put c.args.elf.now) (put.answer o)
    (sym c.refusal_alone.ensures ∙ c.in-Err.is) c.newdata.ensures)
