use Rattle.law_reopen.proofs.rehash.RehashFiles.{rehash_files_keep}
use Rattle.law_reopen.proofs.rehash.laws.rehash_files_keep.Goals as goal

pub returns : goal.returns
returns c =
    rehash_files_keep c.rehash_opens.ensures c.rehash_writes.ensures c.rehash_rebuilds.ensures
    c.built_have_no_finding.ensures c.built_are_found.ensures
