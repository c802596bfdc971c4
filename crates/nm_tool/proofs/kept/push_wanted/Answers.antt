use Rattle.std.proofs.Common.{◌∙◌, sym}
use Rattle.std.proofs.lemmas.Result.{on_ok_weaker}
use Rattle.nm_tool.proofs.PlainLemmas.{with_one, with_unwanted}
use Rattle.nm_tool.proofs.kept.push_wanted.Goals as goal

pub returns-then-is_plain_wanted-clause-ok : goal.returns-then-is_plain_wanted-clause-ok
returns-then-is_plain_wanted-clause-ok c =
    on_ok_weaker c.push_one.result
    (λ is o s none there. is
    ∙ sym (with_one c.args.options.now o s c.args.list.now c.args.i c.args.x there
    (sym (c.is_plain_wanted.ensures o s c.args.i none) ∙ c.if-is_plain_wanted.true)))
    c.push_one.ensures.ok

pub returns-clause-ok : goal.returns-clause-ok
returns-clause-ok c = λ o s none there.
    sym (with_unwanted c.args.options.now o s c.args.list.now c.args.i c.args.x there
    (sym (c.is_plain_wanted.ensures o s c.args.i none) ∙ c.if-is_plain_wanted.false))
