use Rattle.elf_layout.proofs.Ranks.{sorted_given}
use Rattle.elf_layout.proofs.meeting.sorted_extents.Goals as goal

pub returns-clause-ok : goal.returns-clause-ok
returns-clause-ok c =
    sorted_given _ _ _ c.in_ok-extents.ensures.ok c.sort_unstable.ensures.permutation c.sort_unstable.ensures.sorted
