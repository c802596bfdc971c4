use Rattle.law_run.proofs.StripRuns.{run_keeps_loaded}
use Rattle.law_run.proofs.laws.run_keeps_loaded.Goals as goal

pub returns : goal.returns
returns c = run_keeps_loaded c.loaded_files_stay.ensures
