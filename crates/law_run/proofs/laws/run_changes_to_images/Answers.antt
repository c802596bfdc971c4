use Rattle.law_run.proofs.OpenedRuns.{run_changes_to_images}
use Rattle.law_run.proofs.laws.run_changes_to_images.Goals as goal

pub returns : goal.returns
returns c =
    run_changes_to_images c.strip_opens.ensures c.debug_opens.ensures c.copied_files_keep.ensures
    c.rehash_opens.ensures c.unstrip_opens.ensures c.calls_reopen.ensures
