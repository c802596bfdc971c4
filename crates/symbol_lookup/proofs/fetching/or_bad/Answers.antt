use Rattle.std.proofs.Common.{sym}
use Rattle.symbol_lookup.proofs.CallLaws.{or_bad_other}
use Rattle.symbol_lookup.proofs.fetching.or_bad.Goals as goal

pub returns-in_default : goal.returns-in_default
returns-in_default c = sym (or_bad_other c.args.at c.args.e c.in_default.not-Memory c.in_default.not-Read)
