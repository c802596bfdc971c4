use Rattle.rebuild_select.proofs.FoundLaws.{on_told, on_apart}
use Rattle.rebuild_select.proofs.NameLaws.{names_push, names_end}
use Rattle.rebuild_select.proofs.names.mark_by_name.Goals as goal

pub returns-in-Ok-clause-told : goal.returns-in-Ok-clause-told
returns-in-Ok-clause-told g c = λ told.
    on_told c.push.result c.args.marks.now c.push.new.self c.in-Ok.found _
    (c.in-Ok.ensures.told told) c.push.ensures.ok

pub returns-in-Ok-clause-apart : goal.returns-in-Ok-clause-apart
returns-in-Ok-clause-apart g c = λ are.
    on_apart c.push.result c.args.elf.now.o c.args.marks.now c.push.new.self c.args.s.0
    c.in-Ok.found are c.in-Ok.ensures.apart c.push.ensures.ok

pub returns-in-Ok-clause-reads : goal.returns-in-Ok-clause-reads
returns-in-Ok-clause-reads g c =
    names_push g.S.Source c.in-Ok.found c.push.result c.args.elf.now c.goes_by_name.new.elf
    c.push.ensures.err c.in-Ok.ensures.reads

pub returns-in-Err-clause-reads : goal.returns-in-Err-clause-reads
returns-in-Err-clause-reads g c =
    names_end g.S.Source c.in-Err.e c.args.elf.now c.goes_by_name.new.elf c.in-Err.ensures.reads
