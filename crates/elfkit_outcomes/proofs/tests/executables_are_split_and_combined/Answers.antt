-- What needs more steps than a search may take.
use Rattle.std.proofs.Common.{refl}
use Rattle.elfkit_outcomes.proofs.Computing.{all_words}
use Rattle.elfkit_outcomes.proofs.tests.executables_are_split_and_combined.Goals as goal

pub returns-clause-split : goal.returns-clause-split
unfolding all_words
returns-clause-split c = refl

pub returns-clause-whole : goal.returns-clause-whole
unfolding all_words
returns-clause-whole c = refl
