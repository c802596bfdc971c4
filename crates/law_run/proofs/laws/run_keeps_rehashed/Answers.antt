use Rattle.law_run.proofs.RehashRuns.{run_keeps_rehashed}
use Rattle.law_run.proofs.laws.run_keeps_rehashed.Goals as goal

pub returns : goal.returns
returns c = run_keeps_rehashed c.rehash_files_keep.ensures c.rehash_gives_file.ensures
