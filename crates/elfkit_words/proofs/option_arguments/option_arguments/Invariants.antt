use Rattle.std.proofs.Common.{◌≡◌, take}
use Rattle.elfkit_words.specs.Reading.{option_arguments}
use Rattle.elfkit_words.proofs.option_arguments.option_arguments.Given as goal

abbrev pub invariant-loop-option : goal.invariant-loop-option
invariant-loop-option l = l.words ≡ option_arguments l.letter (take l.option-index l.options)
