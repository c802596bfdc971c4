use Rattle.std.proofs.Common.{◌∙◌}
use Rattle.std.proofs.lemmas.Result.{err_from_is_err_and}
use Rattle.elfkit_words.proofs.ValuesRead.{values_begun, value_taken, value_missed, values_ended}
use Rattle.elfkit_words.proofs.option_arguments.values_of.Goals as goal

pub loop-word-init : goal.loop-word-init
loop-word-init g c =
    rw c.new-values.ensures (values_begun g.T.OptionArgument.of_word c.args.words.now)

pub loop-word-preserved : goal.loop-word-preserved
loop-word-preserved g c =
    value_taken g.T.OptionArgument.of_word c.args.words.now c.loop-word.word-index
    c.as_str.result.now c.word-item.result c.loop-word.values c.loop-word.invariant
    c.loop-word-test.true (c.as_str.ensures ∙ c.word-item.is) c.add_value.new.values
    c.in_ok-add_value.ensures

pub returns-in_err-add_value : goal.returns-in_err-add_value
returns-in_err-add_value g c =
    let p = err_from_is_err_and c.from_residual.result c.from_residual.ensures.1 in
    rw (p.1, p.2)
    (value_missed g.T.OptionArgument.of_word c.args.words.now c.loop-word.word-index
    c.as_str.result.now c.word-item.result c.loop-word.values c.loop-word.invariant
    c.loop-word-test.true (c.as_str.ensures ∙ c.word-item.is) c.add_value.new.values
    c.in_err-add_value.field-0.0 c.in_err-add_value.ensures)

pub returns : goal.returns
returns g c =
    values_ended g.T.OptionArgument.of_word c.args.words.now c.loop-word.word-index
    c.loop-word.values c.loop-word.invariant c.loop-word-test.false
