use Rattle.std.proofs.Common.{sym, ◌∙◌}
use Rattle.std.specs.Prelude.{vec_len}
use Rattle.section_table.proofs.Present.{while_none, once_some}
use Rattle.section_table.proofs.headers.present.Goals as goal

pub returns-then-is_empty : goal.returns-then-is_empty
returns-then-is_empty c =
    c.as_slice.ensures
    ∙ sym (while_none c.args.opened.now c.args.own.now.items (vec_len c.args.own.now)
    c.args.own.now.ok.0 (sym c.is_empty.ensures ∙ c.if-is_empty.true))

pub returns : goal.returns
returns c =
    c.as_slice-2.ensures.value
    ∙ sym (once_some c.args.opened.now c.args.own.now.items (vec_len c.args.own.now)
    c.args.own.now.ok.0 (sym c.is_empty.ensures ∙ c.if-is_empty.false))
