use Rattle.std.proofs.Common.{◌≡◌, ◌∷◌, None, ◌∙◌, rules}
use Rattle.std.proofs.lemmas.List.{nil_from_length}
use Rattle.std.proofs.lemmas.Result.{err_from_is_err_and}
use Rattle.elfkit_words.specs.Splitting.{split_of, split_after}
use Rattle.elfkit_words.proofs.Splits.{words_ended, operand_met, end_met, help_met, group_met, group_missed}
use Rattle.elfkit_words.proofs.splitting.read_options.Goals as goal
use Rattle.elfkit_words.proofs.splitting.read_options.Goals.{In-Some}

-- the words from here on give what is left of the whole
so_far : (c : In-Some)
    → split_after c.loop-word.options
    (split_of c.args.usage None (c.in-Some.word.now ∷ c.in-Some.after.now))
    ≡ split_after c.args.options.now (split_of c.args.usage None c.args.words.now)
so_far c = rw c.in-Some.ensures.cases.0 at c.loop-word.invariant

pub returns-then-not-is_option_word : goal.returns-then-not-is_option_word
returns-then-not-is_option_word c =
    rw c.in-Some.ensures.cases.0
    (operand_met c.args.usage c.loop-word.options c.in-Some.word.now c.in-Some.after.now _
    (so_far (goal.at.returns-then-not-is_option_word c).In-Some) (search rules))

pub returns-then-eq : goal.returns-then-eq
returns-then-eq c =
    end_met c.args.usage c.loop-word.options c.in-Some.word.now c.in-Some.after.now _
    (so_far (goal.at.returns-then-eq c).In-Some) (search rules) (search rules)

pub returns-then-eq-2 : goal.returns-then-eq-2
returns-then-eq-2 c =
    help_met c.args.usage c.loop-word.options c.in-Some.word.now c.in-Some.after.now _
    (so_far (goal.at.returns-then-eq-2 c).In-Some) (search rules) (search rules) (search rules)

pub loop-word-preserved : goal.loop-word-preserved
loop-word-preserved c =
    (rw c.as_str-in-Some-2.ensures at c.in_ok-rest.ensures.value)
    ∙ group_met c.args.usage c.loop-word.options c.in-Some.word.now c.in-Some.after.now _
    (so_far (goal.at.loop-word-preserved c).In-Some) (search rules) (search rules) (search rules)

pub returns-in_err-rest : goal.returns-in_err-rest
returns-in_err-rest c =
    let p = err_from_is_err_and c.from_residual.result c.from_residual.ensures.1 in
    rw (p.1, p.2)
    (group_missed c.args.usage c.loop-word.options c.in-Some.word.now c.in-Some.after.now _
    (so_far (goal.at.returns-in_err-rest c).In-Some) c.as_str-in-Some-2.result.now
    c.as_str-in-Some-2.ensures (search rules) (search rules) (search rules)
    c.read_option_word.new.options c.in_err-rest.field-0.0 c.in_err-rest.ensures.value)

pub returns : goal.returns
returns c =
    rw (nil_from_length _ c.in_default.ensures.cases)
    (words_ended c.args.usage c.loop-word.options _
    (rw (nil_from_length _ c.in_default.ensures.cases) at c.loop-word.invariant))
