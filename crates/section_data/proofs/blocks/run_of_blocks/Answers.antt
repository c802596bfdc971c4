use Rattle.std.proofs.Common.{ℕ, ◌≤◌, None, sym, subst, ◌∙◌, arith}
use Rattle.std.proofs.lemmas.List.{get_or_default}
use Rattle.section_data.proofs.Runs.{first_block, next_whole, run_block}
use Rattle.section_data.proofs.blocks.run_of_blocks.Goals as goal

pub loop-block-init : goal.loop-block-init
loop-block-init c = (
  c.requires.within,
  c.requires.whole,
  first_block c.args.size c.args.run.count c.requires.whole,
  λ before run. run,
)

pub overflow_add-count : goal.overflow_add-count
overflow_add-count c =
    let noted =
    c.requires.noted c.loop-block.block c.in-Some.span
    (get_or_default c.args.spans.now c.loop-block.block None _
    (omega (arith, c.loop-block-test.true))
    ∙ c.in-Some.is) in
    let there = noted.there in
    let at = c.loop-block.invariant.2 in
    omega (arith, there, at)

pub loop-block-preserved : goal.loop-block-preserved
loop-block-preserved c =
    let noted =
    c.requires.noted c.loop-block.block c.in-Some.span
    (get_or_default c.args.spans.now c.loop-block.block None _
    (omega (arith, c.loop-block-test.true))
    ∙ c.in-Some.is) in
    let at = c.loop-block.invariant.2 in (
      subst (λ (n : ℕ). n ≤ c.args.limit) (sym c.in-Some-end_within.ensures.1)
          c.in-Some-end_within.ensures.0,
      next_whole c.args.size c.loop-block.count c.loop-block.block at,
      omega (arith, at),
      λ before run.
          run_block c.args.size before c.args.pieces.now c.loop-block.block c.loop-block.count
          c.loop-block.end c.in-Some-end_within.next c.in-Some.span
          (c.loop-block.invariant.3 before run) at noted c.in-Some-end_within.ensures.1,
    )
