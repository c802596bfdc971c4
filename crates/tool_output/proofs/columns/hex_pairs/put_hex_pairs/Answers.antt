use Rattle.std.proofs.Common.{arith, rules, ◌∙◌}
use Rattle.std.proofs.lemmas.List.{nil_from_length}
use Rattle.std.proofs.lemmas.Result.{err_from_is_err_and}
use Rattle.tool_output.proofs.columns.HexBlocks.{none_put, block_put, all_put, block_refused}
use Rattle.tool_output.proofs.columns.hex_pairs.put_hex_pairs.Goals as goal

pub loop-block-init : goal.loop-block-init
loop-block-init c =
    (search rules, tt, search rules, none_put c.args.page.now _ _ (search rules))

pub put_block-requires : goal.put_block-requires
put_block-requires c =
    let size = c.loop-block.invariant.2 in
    let long = c.in-Some.ensures.steps.1.1 in
    omega (arith, size, long)

pub loop-block-preserved : goal.loop-block-preserved
loop-block-preserved c =
    let steps = c.in-Some.ensures.steps in (
      search rules,
      tt,
      steps.0 ∙ c.loop-block.invariant.2,
      block_put c.args.page.now c.loop-block.page c.put_block.new.page _ c.in-Some.block.now _ _
          c.loop-block.invariant.3 steps.1.0 c.in_ok-put_block.ensures.ok,
    )

pub returns-in_err-put_block-clause-err : goal.returns-in_err-put_block-clause-err
returns-in_err-put_block-clause-err c =
    let p = err_from_is_err_and c.from_residual.result c.from_residual.ensures.1 in
    rw (p.1, p.2) (block_refused c.in_err-put_block.field-0.0 c.args.page.now c.loop-block.page
    c.put_block.new.page _ c.args.bytes.now c.loop-block.invariant.3 c.in_err-put_block.ensures.err)

pub returns-clause-ok : goal.returns-clause-ok
returns-clause-ok c =
    all_put c.args.page.now c.loop-block.page _ c.args.bytes.now c.loop-block.invariant.3
    (nil_from_length _ c.in-None.ensures.steps.1.0)
