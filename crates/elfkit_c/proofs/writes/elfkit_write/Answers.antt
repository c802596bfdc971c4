use Rattle.std.proofs.Common.{subst, ◌∙◌}
use Rattle.c_handles.specs.declared.writes.planned.PlannedWrites.{PlannedWrites}
use Rattle.c_records.specs.Gives.{GivesInCForm}
use Rattle.c_calls.specs.Writes.Plans.{write_record, write_at}
use Rattle.elfkit_c.proofs.WriteLaws.{keeps_writes}
use Rattle.elfkit_c.proofs.writes.elfkit_write.Goals as goal

pub returns-clause-gives : goal.returns-clause-gives
returns-clause-gives c =
    subst (λ (x : PlannedWrites). GivesInCForm write_record (write_at x.list c.args.i)
    c.give_write-number.result c.args.out.now c.give_write-number.new.out)
    (c.as_ref.ensures ∙ c.take-writes.ensures.writes) c.give_write-number.ensures

pub returns-clause-keeps : goal.returns-clause-keeps
returns-clause-keeps c =
    keeps_writes c.args.w.now c.put.new.self c.take-writes.result.value
    c.take-writes.ensures.writes c.put.ensures
