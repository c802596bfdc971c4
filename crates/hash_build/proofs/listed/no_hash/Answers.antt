use Rattle.std.proofs.Common.{sym}
use Rattle.hash_build.proofs.ListedLaws.{no_hash_other}
use Rattle.hash_build.proofs.listed.no_hash.Goals as goal

pub returns-in_default : goal.returns-in_default
returns-in_default c =
    sym (no_hash_other c.args.e c.in_default.not-Memory c.in_default.not-Read)
