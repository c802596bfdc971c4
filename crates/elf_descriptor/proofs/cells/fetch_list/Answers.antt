use Rattle.std.proofs.Common.{sym, ◌∙◌}
use Rattle.section_table.proofs.elf_object.AnswerLaws.{answered_value}
use Rattle.section_table.proofs.section_data.Loading.{warms_same}
use Rattle.elf_descriptor.proofs.ListedCells.{always, list_answers, list_due_is, list_hand, warms_kind}
use Rattle.elf_descriptor.proofs.cells.fetch_list.Goals as goal

pub returns-in-Err-clause-warms : goal.returns-in-Err-clause-warms
returns-in-Err-clause-warms g c = warms_same _ c.args.cell.now

pub returns-clause-answer : goal.returns-clause-answer
returns-clause-answer g c =
    list_answers c.args.class c.args.cell.now c.args.kind c.args.p c.fetch.result
    (answered_value _ _ _ (sym c.in_default.ensures.answer)).0 c.fetch.ensures.answer

pub returns-clause-kind : goal.returns-clause-kind
returns-clause-kind g c =
    always c.fetch.result
    (warms_kind _ c.args.cell.now c.fetch.new.self c.args.p c.fetch.ensures.warms
    ∙ c.in_default.ensures.kind)

pub returns-clause-hand : goal.returns-clause-hand
returns-clause-hand g c =
    list_hand _ c.args.class c.args.cell.now c.fetch.new.self c.args.kind c.args.p c.fetch.result
    (answered_value _ _ _ (sym c.in_default.ensures.answer)).0 c.fetch.ensures.warms
    c.fetch.ensures.loaded

pub returns-clause-asks : goal.returns-clause-asks
returns-clause-asks g c =
    rw
    (list_due_is c.args.class c.args.cell.now c.args.kind c.args.p
    (answered_value _ _ _ (sym c.in_default.ensures.answer)).0) c.fetch.ensures.asks
