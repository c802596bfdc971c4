use Rattle.std.proofs.Common.{◌≡◌, ◌++◌, ℕ, List, OnOk, subst, ◌∙◌}
use Rattle.tool_output.proofs.columns.HexBlocks.{encoded_pairs}
use Rattle.tool_output.proofs.columns.hex_pairs.put_block_by.Goals as goal

pub returns-clause-ok : goal.returns-clause-ok
returns-clause-ok c =
    subst (λ (l : List ℕ). OnOk c.put_bytes.result (c.put_bytes.new.out ≡ c.args.page.now ++ l))
    (c.in-Ok.ensures.written ∙ encoded_pairs c.args.block.now) c.put_bytes.ensures.ok
