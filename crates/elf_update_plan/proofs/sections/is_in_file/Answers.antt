use Rattle.std.proofs.Common.{sym, arith}
use Rattle.elf_update_plan.proofs.RowLaws.{ok_is}
use Rattle.elf_update_plan.proofs.InFileLaws.{none_past}
use Rattle.elf_update_plan.proofs.sections.is_in_file.Goals as goal

pub returns : goal.returns
returns g c =
    sym (none_past c.args.elf.now.o c.args.s
    (omega (arith, c.if-s-shnum.false, ok_is _ _ c.shnum.ensures)))
