use Rattle.rebuild_edits.proofs.rebuild_select.NameLaws.{ok_injective}
use Rattle.rebuild_copy.proofs.HoldLaws.{names_there, names_absent}
use Rattle.rebuild_copy.proofs.holding.names_len.Goals as goal

pub returns-in-Ok : goal.returns-in-Ok
returns-in-Ok g c =
    names_there c.args.elf.now.o c.shstrndx.result _ c.in-Ok.len (ok_injective _ _ c.shstrndx.ensures)
    c.in-Ok.ensures

pub returns-in-Err : goal.returns-in-Err
returns-in-Err g c =
    names_absent c.args.elf.now.o c.shstrndx.result _ (ok_injective _ _ c.shstrndx.ensures)
    c.in-Err.ensures
