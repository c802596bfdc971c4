use Rattle.std.proofs.Common.{◌≡◌, ◌++◌, ℕ, List, OnOk, ◌∙◌, subst}
use Rattle.tool_output.specs.Columns.Columns.{padded, column}
use Rattle.strings_tool.proofs.PlaceLemmas.{tail_is, in_column, past_column}
use Rattle.strings_tool.proofs.pieces.put_column_by.Goals as goal

pub returns-then-start-ge-COLUMN-clause-ok : goal.returns-then-start-ge-COLUMN-clause-ok
unfolding padded column
returns-then-start-ge-COLUMN-clause-ok c =
    let filled = c.fill_in-start.ensures in
    let digits = c.fill_in-start.new.buffer in
    let rest = c.copy_from_slice.new.self in
    subst (λ (l : List ℕ). OnOk c.put_bytes.result (c.put_bytes.new.out ≡ c.args.page.now ++ l))
    (tail_is 36 (digits ++ rest)
    ∙ in_column c.fill_in-start.result c.args.buffer.now c.split_at_mut-digits.result.0.now digits
    _ rest _ filled.start c.requires.blank c.split_at_mut-digits.ensures.front filled.len
    filled.front filled.digits c.copy_from_slice.ensures.after c.if-start-ge-COLUMN.true)
    c.put_bytes.ensures.ok

pub returns-clause-ok : goal.returns-clause-ok
unfolding padded column
returns-clause-ok c =
    let filled = c.fill_in-start.ensures in
    let digits = c.fill_in-start.new.buffer in
    let rest = c.copy_from_slice.new.self in
    subst (λ (l : List ℕ). OnOk c.put_bytes-2.result (c.put_bytes-2.new.out ≡ c.args.page.now ++ l))
    (tail_is c.fill_in-start.result (digits ++ rest)
    ∙ past_column c.fill_in-start.result c.args.buffer.now c.split_at_mut-digits.result.0.now digits
    _ rest _ filled.start c.requires.blank c.split_at_mut-digits.ensures.front filled.len
    filled.front filled.digits c.copy_from_slice.ensures.after c.if-start-ge-COLUMN.false)
    c.put_bytes-2.ensures.ok
