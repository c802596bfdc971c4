use Rattle.std.proofs.Common.{ap, ◌∙◌}
use Rattle.elf_update_plan.proofs.RowLaws.{ok_is}
use Rattle.rebuild_keep.specs.Numbers.{kept_numbers_below}
use Rattle.rebuild_keep.proofs.NumberLaws.{below_all}
use Rattle.rebuild_keep.proofs.numbers.kept_numbers.Goals as goal

pub returns-in-Ok-clause-ok : goal.returns-in-Ok-clause-ok
returns-in-Ok-clause-ok g c =
    c.in-Ok.ensures.ok
    ∙ ap (kept_numbers_below c.args.removed.now) (ok_is _ _ c.shnum.ensures)
    ∙ below_all c.args.elf.now.o c.args.removed.now
