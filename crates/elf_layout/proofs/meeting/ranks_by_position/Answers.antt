use Rattle.std.proofs.Common.{◌<◌, ◌∙◌, sym, subst, length, All}
use Rattle.std.proofs.lemmas.Result.{IfOk-weaker}
use Rattle.elf_layout.proofs.Ranks.{ranks_given}
use Rattle.elf_layout.proofs.FirstMet.{ranks_inside}
use Rattle.elf_layout.proofs.meeting.ranks_by_position.Goals as goal

pub returns-clause-ok : goal.returns-clause-ok
returns-clause-ok c =
    IfOk-weaker _ _ _ (λ ranks is. ranks_given _ _ ranks (c.deref.ensures.value ∙ c.in_ok-extents.ensures.ok) is) c.ranks_of.ensures.ok

pub returns-clause-inside : goal.returns-clause-inside
returns-clause-inside c =
    IfOk-weaker _ _ _ (λ ranks is. subst (λ l. All (λ rank. rank < length c.args.parts.now) l) (sym (ranks_given _ _ ranks (c.deref.ensures.value ∙ c.in_ok-extents.ensures.ok) is)) (ranks_inside _)) c.ranks_of.ensures.ok
