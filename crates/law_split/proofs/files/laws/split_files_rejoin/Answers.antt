use Rattle.law_split.proofs.files.RejoinLaws.{split_files_rejoin}
use Rattle.law_split.proofs.files.laws.split_files_rejoin.Goals as goal

pub returns : goal.returns
returns c =
    split_files_rejoin c.reopen_law.ensures c.halves_combine.ensures c.split_law.ensures
    c.alike_images_answer_alike.ensures
