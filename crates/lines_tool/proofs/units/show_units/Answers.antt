use Rattle.std.proofs.lemmas.Result.{err_from_is_err_and}
use Rattle.lines_tool.proofs.UnitLemmas.{none_shown, unit_shown, unit_stops, unit_wants, units_end, units_fail}
use Rattle.lines_tool.proofs.units.show_units.Goals as goal

pub units-init : goal.units-init
units-init g c =
    let t = c.args.table.now in
    none_shown c.args.name.now t.section t.class t.order t.bytes.now g.O.Sink g.E.Sink c.args.outputs.now

pub returns-in-Ok-None-clause-reports : goal.returns-in-Ok-None-clause-reports
returns-in-Ok-None-clause-reports g c =
    let t = c.args.table.now in
    units_end c.args.name.now t.section t.class t.order t.bytes.now g.O.Sink g.E.Sink c.args.outputs.now c.units.outputs c.units.at c.units.invariant
    (rw c.in-Ok-None.field-0-is at c.in-Ok-None.ensures.value)

pub returns-in_err-show_unit-in-Ok-Some-clause-reports : goal.returns-in_err-show_unit-in-Ok-Some-clause-reports
returns-in_err-show_unit-in-Ok-Some-clause-reports g c =
    let t = c.args.table.now in
    let p = err_from_is_err_and c.from_residual.result c.from_residual.ensures.1 in
    rw (p.1, p.2) (unit_stops c.args.name.now t.section t.class t.order t.bytes.now g.O.Sink g.E.Sink c.args.outputs.now c.units.outputs c.units.at c.units.invariant
    _ _ c.in-Ok-Some.unit (rw c.in-Ok-Some.field-0-is at c.in-Ok-Some.ensures.value) c.in_err-show_unit-in-Ok-Some.ensures.reports)

pub units-preserved : goal.units-preserved
units-preserved g c =
    let t = c.args.table.now in
    let next = rw c.in-Ok-Some.field-0-is at c.in-Ok-Some.ensures.next in
    unit_shown c.args.name.now t.section t.class t.order t.bytes.now g.O.Sink g.E.Sink c.args.outputs.now c.units.outputs c.units.at c.units.invariant
    _ _ c.in-Ok-Some.unit (rw c.in-Ok-Some.field-0-is at c.in-Ok-Some.ensures.value) next.0 next.1
    c.in_ok-show_unit-in-Ok-Some.ensures.reports c.in_ok-show_unit-in-Ok-Some.ensures.leaves.keeps

pub returns-in-Err-Memory-clause-reports : goal.returns-in-Err-Memory-clause-reports
returns-in-Err-Memory-clause-reports g c =
    let t = c.args.table.now in
    unit_wants c.args.name.now t.section t.class t.order t.bytes.now g.O.Sink g.E.Sink c.args.outputs.now c.units.outputs c.units.at c.units.invariant _

pub returns-in-Err-Bad-clause-reports : goal.returns-in-Err-Bad-clause-reports
returns-in-Err-Bad-clause-reports g c =
    let t = c.args.table.now in
    units_fail c.args.name.now t.section t.class t.order t.bytes.now g.O.Sink g.E.Sink c.args.outputs.now c.units.outputs c.units.at c.units.invariant
    _ _ _ _ (rw c.in-Err-Bad.field-0-is at c.in-Err-Bad.ensures.value) (rw (c.in-Err-Bad.at-is, c.in-Err-Bad.why-is) at c.refuse_section.ensures.reports)
