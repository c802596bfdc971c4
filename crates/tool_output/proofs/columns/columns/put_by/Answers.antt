use Rattle.std.proofs.Common.{List, ℕ, ◌++◌, drop, OnOk, ◌≡◌, ◌∙◌, subst, ap}
use Rattle.tool_output.specs.Columns.Columns.{padded}
use Rattle.tool_output.proofs.columns.Copies.{filled, tail_is}
use Rattle.tool_output.proofs.columns.columns.put_by.Goals as goal

pub returns-clause-ok : goal.returns-clause-ok
unfolding padded
returns-clause-ok c = λ byte is.
    subst (λ (l : List ℕ). OnOk c.put_bytes.result (c.put_bytes.new.out ≡ c.args.page.now ++ l))
    (tail_is c.min.result c.fill_in-start.new.buffer
    ∙ ap (λ (n : ℕ). drop n c.fill_in-start.new.buffer) c.min.ensures
    ∙ filled byte c.args.width c.fill_in-start.result _ c.fill_in-start.new.buffer _
    c.requires.width c.fill_in-start.ensures.start is c.fill_in-start.ensures.len
    c.fill_in-start.ensures.front c.fill_in-start.ensures.digits)
    c.put_bytes.ensures.ok
