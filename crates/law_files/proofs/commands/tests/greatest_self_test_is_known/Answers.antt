use Rattle.std.proofs.Common.{lit≤}
use Rattle.std.specs.Prelude.{codes}
use Rattle.law_files.proofs.commands.Computing.{all_words}
use Rattle.law_files.proofs.commands.tests.greatest_self_test_is_known.Goals as goal

pub returns-clause-outcome : goal.returns-clause-outcome
unfolding all_words
returns-clause-outcome c = (c.selftest_law.ensures (codes "O") 60000 (lit≤ tt) (lit≤ tt)).outcome

pub returns-clause-bytes : goal.returns-clause-bytes
unfolding all_words
returns-clause-bytes c = (c.selftest_law.ensures (codes "O") 60000 (lit≤ tt) (lit≤ tt)).bytes
