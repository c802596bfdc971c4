use Rattle.std.proofs.Common.{◌≡◌, drop}
use Rattle.elfkit_words.specs.Splitting.{group_of, group_after}
use Rattle.elfkit_words.proofs.splitting.read_group.Given as goal

-- the letters that are left give what the whole word gives
abbrev pub invariant-loop-i : goal.invariant-loop-i
invariant-loop-i l =
    group_after l.options (group_of l.usage (drop l.i l.word)) ≡ group_after l.fn.options (group_of l.usage (drop 1 l.word))
