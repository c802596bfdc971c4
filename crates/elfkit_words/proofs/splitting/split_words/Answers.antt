use Rattle.std.proofs.lemmas.Result.{err_from_is_err_and}
use Rattle.elfkit_words.proofs.Splits.{split_done, split_missed}
use Rattle.elfkit_words.proofs.splitting.split_words.Goals as goal

pub returns-in_err-rest : goal.returns-in_err-rest
returns-in_err-rest c =
    let p = err_from_is_err_and c.from_residual.result c.from_residual.ensures.1 in
    rw (p.1, p.2)
    (split_missed c.args.usage c.args.words.now c.new-options.result c.read_options.new.options
    c.new-options.ensures c.in_err-rest.field-0.0 c.in_err-rest.ensures)

pub returns : goal.returns
returns c =
    split_done c.args.usage c.args.words.now c.new-options.result c.read_options.new.options
    c.new-options.ensures c.in_ok-rest.rest c.in_ok-operands.operands c.is_none.result
    c.in_ok-rest.ensures c.in_ok-operands.ensures.ok c.is_none.ensures
