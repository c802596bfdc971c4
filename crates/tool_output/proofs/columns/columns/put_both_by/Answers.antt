use Rattle.std.proofs.Common.{List, ℕ, ◌++◌, drop, OnOk, ◌≡◌, ◌∙◌, subst, ap}
use Rattle.tool_output.specs.Columns.Columns.{padded}
use Rattle.tool_output.proofs.columns.Copies.{filled_before, tail_is}
use Rattle.tool_output.proofs.columns.columns.put_both_by.Goals as goal

pub returns-clause-ok : goal.returns-clause-ok
unfolding padded
returns-clause-ok c = λ byte is.
    let digits = c.fill_in-start.new.buffer in
    let rest = c.copy_from_slice.new.self in
    subst (λ (l : List ℕ). OnOk c.put_bytes.result (c.put_bytes.new.out ≡ c.args.page.now ++ l))
    (tail_is c.min.result (digits ++ rest)
    ∙ ap (λ (n : ℕ). drop n (digits ++ rest)) c.min.ensures
    ∙ filled_before byte c.args.width c.fill_in-start.result 3 c.args.buffer.now
    c.split_at_mut-digits.result.0.now digits _ rest _
    c.requires.width c.fill_in-start.ensures.start is c.split_at_mut-digits.ensures.front
    c.fill_in-start.ensures.len c.fill_in-start.ensures.front c.fill_in-start.ensures.digits
    c.copy_from_slice.ensures.after)
    c.put_bytes.ensures.ok
