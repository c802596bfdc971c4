use Rattle.std.proofs.Common.{◌≡◌, ◌++◌, drop, option_map}
use Rattle.elfkit_words.specs.Reading.{all_values}
use Rattle.elfkit_words.proofs.option_arguments.values_of.Given as goal

-- the words that are left complete the values so far
abbrev pub invariant-loop-word : goal.invariant-loop-word
invariant-loop-word g l =
    option_map (λ xs. l.values ++ xs)
    (all_values g.T.OptionArgument.of_word (drop l.word-index l.words))
    ≡ all_values g.T.OptionArgument.of_word l.words
