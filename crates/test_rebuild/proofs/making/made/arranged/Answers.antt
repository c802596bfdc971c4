use Rattle.std.proofs.Common.{inl, sym, ◌∙◌}
use Rattle.elf_update_plan.proofs.RowLaws.{ok_is}
use Rattle.test_rebuild.proofs.making.made.arranged.Goals as goal

pub arrange-requires : goal.arrange-requires
arrange-requires g c = inl (sym (ok_is _ _ c.shstrndx.ensures) ∙ c.if-shstrndx-ne0.false)
