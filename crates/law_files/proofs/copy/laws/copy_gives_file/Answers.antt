use Rattle.law_files.proofs.copy.CopyFiles.{copy_gives_file}
use Rattle.law_files.proofs.copy.laws.copy_gives_file.Goals as goal

pub returns : goal.returns
returns c = copy_gives_file
