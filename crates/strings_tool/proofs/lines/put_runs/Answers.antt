use Rattle.strings_tool.proofs.LineLemmas.{rest_put, rest_refused}
use Rattle.strings_tool.proofs.lines.put_runs.Goals as goal

pub returns-clause-ok : goal.returns-clause-ok
returns-clause-ok c =
    rest_put c.args.options.now c.args.at _ c.args.bytes.now c.args.page.now _ c.in_ok-used.ensures.ok _ _ c.put_each-2.ensures.ok

pub returns-clause-err : goal.returns-clause-err
returns-clause-err c =
    rest_refused c.args.options.now c.args.at _ c.args.bytes.now c.args.page.now _ c.in_ok-used.ensures.ok _ _ c.put_each-2.ensures.err
