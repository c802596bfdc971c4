-- What needs more steps than a search may take.
use Rattle.std.proofs.Common.{refl}
use Rattle.rebuild_model.proofs.Computing.{all_words}
use Rattle.rebuild_model.proofs.executable_tests.executables_are_split.Goals as goal

pub returns-clause-half : goal.returns-clause-half
unfolding all_words
returns-clause-half c = refl

pub returns-clause-whole : goal.returns-clause-whole
unfolding all_words
returns-clause-whole c = refl
