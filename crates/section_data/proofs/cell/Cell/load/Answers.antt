use Rattle.std.proofs.Common.{sym, ◌∙◌}
use Rattle.section_data.proofs.Loading.{warms_same, warms_read, load_answers, load_errs, loaded_answers, due_unread}
use Rattle.section_data.specs.Refused.{load_due}
use Rattle.section_data.proofs.cell.Cell.load.Goals as goal

pub returns-then-is_loaded-clause-warms : goal.returns-then-is_loaded-clause-warms
returns-then-is_loaded-clause-warms g c = warms_same _ c.args.self.now

pub returns-then-out-clause-warms : goal.returns-then-out-clause-warms
returns-then-out-clause-warms g c = warms_same _ c.args.self.now

pub returns-clause-warms : goal.returns-clause-warms
returns-clause-warms g c =
    warms_read c.read_raw.result _ c.args.self.now _ (sym c.is_loaded.ensures.value ∙ c.if-is_loaded.false)
    c.read_raw.ensures.unchanged c.read_raw.ensures.raw c.read_raw.ensures.bytes

pub returns-clause-answer : goal.returns-clause-answer
returns-clause-answer g c =
    load_answers c.args.self.now c.read_raw.result (sym c.is_loaded.ensures.value ∙ c.if-is_loaded.false)
    (sym c.out.ensures ∙ c.if-out.false) c.read_raw.ensures.err

pub returns-clause-asks : goal.returns-clause-asks
returns-clause-asks g c =
    rw (due_unread c.args.self.now (sym c.is_loaded.ensures.value ∙ c.if-is_loaded.false) (sym c.out.ensures ∙ c.if-out.false))
    c.read_raw.ensures.asks

pub returns-then-is_loaded-clause-answer : goal.returns-then-is_loaded-clause-answer
returns-then-is_loaded-clause-answer g c =
    loaded_answers c.args.self.now (load_due c.args.self.now) c.is_loaded.ensures.cell (sym c.is_loaded.ensures.value ∙ c.if-is_loaded.true)

pub returns-clause-err : goal.returns-clause-err
returns-clause-err g c =
    load_errs c.args.self.now c.read_raw.result (sym c.is_loaded.ensures.value ∙ c.if-is_loaded.false)
    (sym c.out.ensures ∙ c.if-out.false) c.read_raw.ensures.err
