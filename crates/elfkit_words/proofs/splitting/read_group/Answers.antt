use Rattle.std.proofs.Common.{◌<◌, get_or, ap, arith, rules}
use Rattle.std.proofs.lemmas.Str.{IsCharBoundary-after_ascii}
use Rattle.elfkit_words.proofs.Groups.{option_argument_apart, option_argument_joined, alone_taken, letter_refused, group_ended, none_from_map}
use Rattle.elfkit_words.proofs.splitting.read_group.Goals as goal

pub returns-then-i-letters : goal.returns-then-i-letters
returns-then-i-letters c =
    option_argument_apart c.args.usage c.args.word.now c.loop-i.options c.loop-i.i _ _ (omega arith) (ap (λ w. get_or w c.loop-i.i 0) c.as_bytes-letters.ensures.value) c.loop-i.invariant (search rules) (omega arith)

-- a letter that takes an option-argument is ASCII
pub range_from-requires : goal.range_from-requires
range_from-requires c =
    let ascii : get_or c.args.word.now c.loop-i.i 0 < 128 = rw c.as_bytes-letters.ensures.value at c.if-takes_option_argument.ensures.ascii in
    λ _. IsCharBoundary-after_ascii c.args.word.now c.loop-i.i c.utf8.word (omega arith) ascii

pub returns-then-takes_option_argument : goal.returns-then-takes_option_argument
returns-then-takes_option_argument c =
    option_argument_joined c.args.usage c.args.word.now c.loop-i.options c.loop-i.i _ _ (omega arith) (ap (λ w. get_or w c.loop-i.i 0) c.as_bytes-letters.ensures.value) c.loop-i.invariant _ _ (search rules) (omega arith) (search rules) c.in_ok-push_option.ensures.ok

pub returns-then-not-stands_alone : goal.returns-then-not-stands_alone
returns-then-not-stands_alone c =
    none_from_map _ _ (letter_refused c.args.usage c.args.word.now c.loop-i.options c.loop-i.i _ _ (omega arith) (ap (λ w. get_or w c.loop-i.i 0) c.as_bytes-letters.ensures.value) c.loop-i.invariant (search rules) (search rules))

pub loop-i-preserved : goal.loop-i-preserved
loop-i-preserved c =
    alone_taken c.args.usage c.args.word.now c.loop-i.options c.loop-i.i _ _ (omega arith) (ap (λ w. get_or w c.loop-i.i 0) c.as_bytes-letters.ensures.value) c.loop-i.invariant _ (search rules) (search rules) c.in_ok-push.ensures.ok

pub returns : goal.returns
returns c = group_ended c.args.usage c.args.word.now c.loop-i.options c.loop-i.i _ (omega arith) c.loop-i.invariant
