use Rattle.std.proofs.Common.{refl}
use Rattle.std.specs.Prelude.{codes}
use Rattle.rebuild_model.specs.Samples.{one_section64}
use Rattle.elfkit_outcomes.specs.Selftest.{selftest_outcome}
use Rattle.elfkit_outcomes.proofs.Computing.{all_words}
use Rattle.elfkit_outcomes.proofs.tests.selftest_stops_where_its_file_is_not_opened.Goals as goal

pub returns : goal.returns
unfolding all_words
returns c old new answer second run =
    c.stops_where_unread.ensures (selftest_outcome (codes "O") 1) (codes "O") one_section64 old new answer refl second run
