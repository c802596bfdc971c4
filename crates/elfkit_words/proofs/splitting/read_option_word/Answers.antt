use Rattle.std.proofs.Common.{drop}
use Rattle.std.proofs.lemmas.List.{nil_from_length}
use Rattle.std.proofs.lemmas.Result.{err_from_is_err_and}
use Rattle.elfkit_words.proofs.Splits.{group_refused, group_ended, argument_missing, argument_taken}
use Rattle.elfkit_words.proofs.splitting.read_option_word.Goals as goal

pub returns-in_err-letter-clause-value : goal.returns-in_err-letter-clause-value
returns-in_err-letter-clause-value c =
    let p = err_from_is_err_and c.from_residual.result c.from_residual.ensures.1 in
    rw (p.1, p.2)
    (group_refused c.args.usage c.args.options.now c.read_group.new.options (drop 1 c.args.word.now) c.args.words.now
    c.in_err-letter.field-0.0 c.in_err-letter.ensures)

pub returns-in_default-clause-value : goal.returns-in_default-clause-value
returns-in_default-clause-value c =
    group_ended c.args.usage c.args.options.now c.read_group.new.options (drop 1 c.args.word.now) c.args.words.now
    (rw c.in_default.is at c.in_ok-letter.ensures)

pub returns-in_default-split_first-clause-value : goal.returns-in_default-split_first-clause-value
returns-in_default-split_first-clause-value c =
    argument_missing c.args.usage c.args.options.now c.read_group.new.options (drop 1 c.args.word.now) c.args.words.now
    c.in-Some.letter (nil_from_length _ c.in_default-split_first.ensures.cases)
    (rw c.in-Some.is at c.in_ok-letter.ensures)

pub returns-clause-value : goal.returns-clause-value
returns-clause-value c =
    argument_taken c.args.usage c.args.options.now c.read_group.new.options (drop 1 c.args.word.now) c.args.words.now
    c.in-Some.letter c.in-Some-split_first.option_argument.now
    c.in-Some-split_first.rest.now c.push_option.new.options c.in-Some-split_first.ensures.cases.0
    (rw c.in-Some.is at c.in_ok-letter.ensures)
    (rw c.as_str.ensures at c.in_ok-push_option.ensures.ok)
