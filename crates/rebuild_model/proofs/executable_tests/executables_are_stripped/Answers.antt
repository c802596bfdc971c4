-- What needs more steps than a search may take.
use Rattle.std.proofs.Common.{refl}
use Rattle.rebuild_model.proofs.Computing.{all_words}
use Rattle.rebuild_model.proofs.executable_tests.executables_are_stripped.Goals as goal

pub returns-clause-image : goal.returns-clause-image
unfolding all_words
returns-clause-image c = refl
