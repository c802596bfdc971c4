use Rattle.std.proofs.Common.{◌≡◌, ℕ, List, drop, ap, ◌∙◌, arith}
use Rattle.std.proofs.lemmas.Result.{IfOk-weaker}
use Rattle.rebuild_edits.specs.gelf_view.Records.{string_front}
use Rattle.rebuild_copy.specs.Rows.{held_in}
use Rattle.rebuild_copy.proofs.TableLaws.{all_copied}
use Rattle.rebuild_copy.proofs.tables.copy_string.Goals as goal

pub overflow_mul-count : goal.overflow_mul-count
overflow_mul-count c = omega (arith, c.loop-count-test.true, c.min-most.ensures)

pub loop-count-smaller : goal.loop-count-smaller
loop-count-smaller c = omega (arith, c.loop-count-test.true, c.loop-count.invariant)

pub loop-count-preserved : goal.loop-count-preserved
loop-count-preserved c = omega (arith, c.loop-count.invariant)

pub returns-in-Ok-Some-clause-ok : goal.returns-in-Ok-Some-clause-ok
returns-in-Ok-Some-clause-ok c = rw c.in-Ok-Some.field-0-is at c.in-Ok-Some.ensures.ok

pub returns-clause-ok : goal.returns-clause-ok
returns-clause-ok c =
    let table : List ℕ = held_in c.args.x.now c.args.table in
    IfOk-weaker c.copy_front.result _
    (λ (bytes : List ℕ). string_front bytes ≡ string_front (drop c.args.place table))
    (λ bytes is. ap string_front (is
    ∙ all_copied c.args.x.now.held c.args.table.at c.args.table.len c.args.place))
    c.copy_front.ensures.ok
