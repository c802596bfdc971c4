use Rattle.law_reopen.proofs.rehash.RehashFiles.{rehash_gives_file}
use Rattle.law_reopen.proofs.rehash.laws.rehash_gives_file.Goals as goal

pub returns : goal.returns
returns c = rehash_gives_file
