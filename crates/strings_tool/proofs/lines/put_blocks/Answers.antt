use Rattle.std.proofs.lemmas.Result.{err_from_is_err_and}
use Rattle.strings_tool.proofs.LineLemmas.{refused_put}
use Rattle.strings_tool.proofs.lines.put_blocks.Goals as goal

pub returns-in_err-used-clause-err : goal.returns-in_err-used-clause-err
returns-in_err-used-clause-err c =
    let p = err_from_is_err_and c.from_residual.result c.from_residual.ensures.1 in
    let l = c.lanes in
    rw (p.1, p.2) (refused_put c.args.options.now c.args.at l.used c.args.bytes.now c.args.page.now l.page l.invariant.put
    c.in_err-used.field-0.0 _ c.in_err-used.ensures.err)
