use Rattle.law_files.proofs.copy.CopyFiles.{copied_files_keep}
use Rattle.law_files.proofs.copy.laws.copied_files_keep.Goals as goal

pub returns : goal.returns
returns c = copied_files_keep c.copy_law.ensures c.copy_opens.ensures
