use Rattle.std.proofs.Common.{◌≡◌, None, length}
use Rattle.elfkit_words.specs.Splitting.{split_of, split_after}
use Rattle.elfkit_words.proofs.splitting.read_options.Given as goal

-- the words that are left complete what the options so far begin
abbrev pub invariant-loop-word : goal.invariant-loop-word
invariant-loop-word l =
    split_after l.options (split_of l.usage None l.rest)
    ≡ split_after l.initial.options (split_of l.usage None l.words)

abbrev pub decreases-loop-word : goal.decreases-loop-word
decreases-loop-word l = length l.rest
