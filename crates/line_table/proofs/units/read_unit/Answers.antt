use Rattle.std.proofs.Common.{◌+◌, ◌-◌, length, arith}
use Rattle.std.proofs.lemmas.Result.{err_from_is_err_and}
use Rattle.line_table.specs.Views.{seen_opened}
use Rattle.line_table.proofs.Made.{unit_refused, unit_faulted, unit_made}
use Rattle.line_table.proofs.units.read_unit.Goals as goal

pub returns-in-Err-clause-value : goal.returns-in-Err-clause-value
returns-in-Err-clause-value c =
    rw c.at.ensures (unit_refused c.args.class c.args.order c.args.bytes.now c.args.at c.in-Err.stop (rw (← c.split_at.ensures.back) c.in-Err.ensures.value))

pub returns-in_err-table-clause-value : goal.returns-in_err-table-clause-value
returns-in_err-table-clause-value c =
    let p = err_from_is_err_and c.from_residual.result c.from_residual.ensures.1 in
    rw (p.1, p.2) (unit_faulted c.args.class c.args.order c.args.bytes.now c.args.at c.in_err-table.field-0.0 (seen_opened c.in-Ok.opened) (c.args.at + c.in-Ok.opened.size - length c.in-Ok.opened.program.now)
    (rw (← c.split_at.ensures.back) c.in-Ok.ensures.value) (omega (arith, c.in-Ok.ensures.placed.program)) c.in_err-table.ensures)

pub returns-clause-value : goal.returns-clause-value
returns-clause-value c =
    unit_made c.args.class c.args.order c.args.bytes.now c.args.at (seen_opened c.in-Ok.opened) (c.args.at + c.in-Ok.opened.size - length c.in-Ok.opened.program.now) (c.args.at + c.in-Ok.opened.size) c.in_ok-table.table.files c.in_ok-table.table.rows
    (rw (← c.split_at.ensures.back) c.in-Ok.ensures.value) (omega (arith, c.in-Ok.ensures.placed.program)) c.in_ok-table.ensures (rw (← c.split_at.ensures.back) (omega (arith, c.in-Ok.ensures.placed.size)))
