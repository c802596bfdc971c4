use Rattle.law_files.proofs.strip.FileLaws.{loaded_files_stay}
use Rattle.law_files.proofs.strip.laws.loaded_files_stay.Goals as goal

pub returns : goal.returns
returns c = loaded_files_stay c.loadable_bytes_stay.ensures
