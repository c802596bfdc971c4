use Rattle.std.proofs.Common.{◌*◌, ℕ, Ok, subst, arith}
use Rattle.rebuild_tables.specs.Rows.{row_count}
use Rattle.rebuild_tables.proofs.HoldLaws.{HeldSoFar, steps_begin, step_first, step_order, step_next, steps_end, stays_in_base, held_none, held_more, held_stops, held_all, asked_all}
use Rattle.rebuild_tables.proofs.holding.hold_all.Goals as goal

pub loop-p-init : goal.loop-p-init
loop-p-init g c =
    subst (λ (n : ℕ). HeldSoFar g.S.Source c.args.numbering.now c.args.x c.args.elf.now
    c.args.elf.now c.args.held.now c.args.held.now n) (steps_begin (row_count c.args.x))
    (held_none g.S.Source c.args.numbering.now c.args.x c.args.elf.now c.args.held.now)

pub hold_some-requires-clause-inside : goal.hold_some-requires-clause-inside
hold_some-requires-clause-inside g c =
    stays_in_base g.S.Source c.args.x (Ok tt) c.args.elf.now c.loop-p.elf _
    c.loop-p.invariant.asks c.requires.inside

pub hold_some-requires-clause-order : goal.hold_some-requires-clause-order
hold_some-requires-clause-order g c =
    step_order c.loop-p.p c.row_count-count.result (row_count c.args.x) c.loop-p-test.true
    c.row_count-count.ensures c.saturating_add.result c.min-to.result (omega arith)
    c.saturating_add.ensures c.min-to.ensures

pub loop-p-preserved : goal.loop-p-preserved
loop-p-preserved g c =
    let x = c.args.x in
    let so_far = subst (λ (n : ℕ). HeldSoFar g.S.Source c.args.numbering.now x c.args.elf.now
    c.loop-p.elf c.args.held.now c.loop-p.held n)
    (step_first c.loop-p.p c.row_count-count.result (row_count x) c.loop-p-test.true
    c.row_count-count.ensures) c.loop-p.invariant in
    subst (λ (n : ℕ). HeldSoFar g.S.Source c.args.numbering.now x c.args.elf.now
    c.hold_some.new.elf c.args.held.now c.hold_some.new.held n)
    (step_next c.loop-p.p c.row_count-count.result (row_count x) c.loop-p-test.true
    c.row_count-count.ensures c.saturating_add.result c.min-to.result (omega arith)
    c.saturating_add.ensures c.min-to.ensures)
    (held_more g.S.Source c.args.numbering.now x c.args.elf.now c.args.held.now c.loop-p.elf
    c.loop-p.held (c.loop-p.p * 2048) c.min-to.result
    (step_order c.loop-p.p c.row_count-count.result (row_count x) c.loop-p-test.true
    c.row_count-count.ensures c.saturating_add.result c.min-to.result (omega arith)
    c.saturating_add.ensures c.min-to.ensures)
    so_far c.hold_some.new.elf c.hold_some.new.held c.in-Ok.ensures.ok c.in-Ok.ensures.asks)

pub returns-in-Err-clause-asks : goal.returns-in-Err-clause-asks
returns-in-Err-clause-asks g c =
    let x = c.args.x in
    held_stops g.S.Source c.args.numbering.now x c.args.elf.now c.args.held.now c.loop-p.elf
    c.loop-p.held (c.loop-p.p * 2048) c.min-to.result
    (step_order c.loop-p.p c.row_count-count.result (row_count x) c.loop-p-test.true
    c.row_count-count.ensures c.saturating_add.result c.min-to.result (omega arith)
    c.saturating_add.ensures c.min-to.ensures)
    (subst (λ (n : ℕ). HeldSoFar g.S.Source c.args.numbering.now x c.args.elf.now c.loop-p.elf
    c.args.held.now c.loop-p.held n)
    (step_first c.loop-p.p c.row_count-count.result (row_count x) c.loop-p-test.true
    c.row_count-count.ensures) c.loop-p.invariant)
    c.in-Err.e c.hold_some.new.elf c.in-Err.ensures.asks

pub returns-clause-ok : goal.returns-clause-ok
returns-clause-ok g c =
    held_all g.S.Source c.args.numbering.now c.args.x c.args.elf.now c.args.held.now c.loop-p.elf
    c.loop-p.held _
    (steps_end c.loop-p.p c.row_count-count.result (row_count c.args.x) c.loop-p-test.false
    c.row_count-count.ensures) c.loop-p.invariant

pub returns-clause-asks : goal.returns-clause-asks
returns-clause-asks g c =
    asked_all g.S.Source c.args.numbering.now c.args.x c.args.elf.now c.args.held.now
    c.loop-p.elf c.loop-p.held _
    (steps_end c.loop-p.p c.row_count-count.result (row_count c.args.x) c.loop-p-test.false
    c.row_count-count.ensures) c.loop-p.invariant
