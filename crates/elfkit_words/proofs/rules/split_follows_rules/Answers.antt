use Rattle.std.proofs.Common.{None}
use Rattle.elfkit_words.specs.Splitting.{split_of}
use Rattle.elfkit_words.proofs.OptionRules.{split_rules}
use Rattle.elfkit_words.proofs.OneSplit.{one_split}
use Rattle.elfkit_words.proofs.rules.split_follows_rules.Goals as goal

pub returns-clause-follows : goal.returns-clause-follows
returns-clause-follows c = split_rules

pub returns-clause-only : goal.returns-clause-only
returns-clause-only c = λ usage split rules. one_split usage split (split_of usage None) rules (split_rules usage)
