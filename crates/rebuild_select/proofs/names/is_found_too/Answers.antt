use Rattle.rebuild_select.proofs.FoundLaws.{found_told}
use Rattle.rebuild_select.proofs.NameLaws.{found_reads}
use Rattle.rebuild_select.proofs.names.is_found_too.Goals as goal

pub returns-clause-told : goal.returns-clause-told
returns-clause-told g c = λ told.
    found_told c.args.debug_too c.args.names.now c.args.elf.now.o c.args.s.0
    c.args.elf.now.told _ c.may_be_debug-debug.result c.is_found.result
    c.may_be_debug-debug.ensures c.is_found.ensures.answer told

pub returns-clause-reads : goal.returns-clause-reads
returns-clause-reads g c =
    found_reads g.S.Source c.args.names.now c.may_be_debug-debug.result c.args.elf.now.told _
    c.is_found.result c.args.elf.now c.is_found.new.elf c.args.s.0 c.is_found.ensures.answer
    c.is_found.ensures.queries
