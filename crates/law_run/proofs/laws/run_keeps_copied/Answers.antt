use Rattle.law_run.proofs.CopyRuns.{run_keeps_copied}
use Rattle.law_run.proofs.laws.run_keeps_copied.Goals as goal

pub returns : goal.returns
returns c = run_keeps_copied c.copied_files_keep.ensures c.copy_gives_file.ensures
