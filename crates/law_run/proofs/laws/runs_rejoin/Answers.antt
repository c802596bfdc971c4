use Rattle.law_run.proofs.SplitRuns.{runs_rejoin}
use Rattle.law_run.proofs.laws.runs_rejoin.Goals as goal

pub returns : goal.returns
returns c = runs_rejoin c.split_files_rejoin.ensures
