use Rattle.std.proofs.Common.{sym}
use Rattle.symbol_lookup.proofs.CallLaws.{no_match_other}
use Rattle.symbol_lookup.proofs.matching.no_match.Goals as goal

pub returns-in_default : goal.returns-in_default
returns-in_default c = sym (no_match_other c.args.e c.in_default.not-Memory c.in_default.not-Read)
