use Rattle.std.proofs.Common.{◌∙◌}
use Rattle.rebuild_plan.proofs.elf_update_plan.RowLaws.{ok_is}
use Rattle.rebuild_object.proofs.headers.has_counts.Goals as goal

pub returns-clause-phnum : goal.returns-clause-phnum
returns-clause-phnum g c = λ same.
    c.if-h-segments.false ∙ ok_is _ _ c.phnum-segments.ensures
